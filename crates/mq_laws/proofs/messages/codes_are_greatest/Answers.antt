use Rattle.mq_laws.proofs.Common.{code_is_greatest}
use Rattle.mq_laws.proofs.messages.codes_are_greatest.Goals as goal

pub returns-clause-bits8 : goal.returns-clause-bits8
returns-clause-bits8 c = code_is_greatest 4

pub returns-clause-bits16 : goal.returns-clause-bits16
returns-clause-bits16 c = code_is_greatest 12
