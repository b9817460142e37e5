use Rattle.mq_convert.proofs.Common.{arith, one-le-pow}
use Rattle.mq_convert.proofs.Powers.{far_below}
use Rattle.mq_convert.proofs.moments.nanoseconds.Goals as goal

pub nonzero_div-count : goal.nonzero_div-count
nonzero_div-count c =
    let some = one-le-pow c.from-then-resolution-le28.result 10 (omega arith) in
    omega (arith, c.pow-then-resolution-le28.ensures, some)

pub returns-clause-value : goal.returns-clause-value
returns-clause-value c = far_below c.args.resolution c.args.count (omega arith) (omega arith) (omega arith)
