use Rattle.mq_laws.proofs.OneCode.{come_back}
use Rattle.mq_laws.proofs.messages.codes_come_back.Goals as goal

pub returns-clause-bits8 : goal.returns-clause-bits8
returns-clause-bits8 c = come_back 4

pub returns-clause-bits16 : goal.returns-clause-bits16
returns-clause-bits16 c = come_back 12
