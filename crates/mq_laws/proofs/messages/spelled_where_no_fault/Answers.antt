use Rattle.mq_wire.proofs.Spelled.{spelled}
use Rattle.mq_laws.proofs.messages.spelled_where_no_fault.Goals as goal

pub returns : goal.returns
returns c = spelled
