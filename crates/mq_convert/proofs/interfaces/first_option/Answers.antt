use Rattle.std.proofs.Common.{◌∙◌, arith}
use Rattle.mq_convert.proofs.Options.{first_option_is}
use Rattle.mq_convert.proofs.interfaces.first_option.Goals as goal

pub returns-clause-option : goal.returns-clause-option
returns-clause-option c =
    first_option_is c.args.order c.args.bytes.now c.word-code.result c.from-end.result c.min.result (omega arith) c.word-code.ensures
    (c.from-end.ensures ∙ c.word.ensures) c.if-code-eq-END.false (omega arith) c.min.ensures
