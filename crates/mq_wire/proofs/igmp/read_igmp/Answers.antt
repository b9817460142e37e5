use Rattle.mq_wire.proofs.Common.{[], refl, Igmp}
use Rattle.mq_wire.proofs.Spelled.{exact_message, exact_fault}
use Rattle.mq_wire.proofs.igmp.read_igmp.Goals as goal

pub returns-clause-message : goal.returns-clause-message
returns-clause-message c = exact_message (λ a. a) Igmp [] c.args.bytes.now c.read.result (λ a. refl) c.read.ensures

pub returns-clause-fault : goal.returns-clause-fault
returns-clause-fault c = exact_fault (λ a. a) Igmp [] c.args.bytes.now c.read.result c.read.ensures
