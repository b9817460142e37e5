use Rattle.mq_link.proofs.Common.{arith, common_steps}
use Rattle.mq_link.proofs.storage.Lists.with_room.Goals as goal

pub returns-clause-room : goal.returns-clause-room
returns-clause-room g c = grind (arith, common_steps)
