use Rattle.mq_wire.proofs.Common.{arith}
use Rattle.mq_wire.proofs.FoundCodes.{code_is_greatest}
use Rattle.mq_wire.proofs.codes.code8.Goals as goal

pub overflow_cast-result : goal.overflow_cast-result
overflow_cast-result c =
    let fits = (code_is_greatest 4 c.args.value).fits in
    rw c.code_of.ensures (omega (arith, fits))

pub returns-clause-greatest : goal.returns-clause-greatest
returns-clause-greatest c = rw c.code_of.ensures (code_is_greatest 4 c.args.value)
