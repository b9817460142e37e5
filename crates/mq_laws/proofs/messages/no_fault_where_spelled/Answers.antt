use Rattle.mq_wire.proofs.Spelled.{no_fault}
use Rattle.mq_laws.proofs.messages.no_fault_where_spelled.Goals as goal

pub returns : goal.returns
returns c = no_fault
