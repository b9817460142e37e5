use Rattle.mq_link.proofs.Common.{arith, common_steps}
use Rattle.mq_link.proofs.record_counts.RecordCounts.with_room.Goals as goal

pub returns-clause-room : goal.returns-clause-room
returns-clause-room g c = grind (arith, common_steps)

pub invariant_of-result : goal.invariant_of-result
invariant_of-result g c = grind (arith, common_steps)
