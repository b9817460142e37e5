use Rattle.mq_wire.proofs.Common.{refl, Mld}
use Rattle.mq_wire.proofs.Spelled.{exact_message, exact_fault}
use Rattle.mq_wire.proofs.mld.read_mld.Goals as goal

pub returns-clause-message : goal.returns-clause-message
returns-clause-message c = rw (← c.pseudo_header.ensures)
    (exact_message (λ a. a) Mld c.pseudo_header.result c.args.bytes.now c.read.result (λ a. refl) c.read.ensures)

pub returns-clause-fault : goal.returns-clause-fault
returns-clause-fault c = rw (← c.pseudo_header.ensures) (exact_fault (λ a. a) Mld c.pseudo_header.result c.args.bytes.now c.read.result c.read.ensures)
