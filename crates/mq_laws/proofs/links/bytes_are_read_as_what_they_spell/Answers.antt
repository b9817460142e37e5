use Rattle.mq_link.proofs.Runs.{message_read, fault_read}
use Rattle.mq_laws.proofs.links.bytes_are_read_as_what_they_spell.Goals as goal

pub returns-clause-message : goal.returns-clause-message
returns-clause-message c = message_read

pub returns-clause-fault : goal.returns-clause-fault
returns-clause-fault c = fault_read
