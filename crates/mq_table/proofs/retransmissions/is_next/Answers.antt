use Rattle.mq_table.proofs.Common.{arith, common_steps}
use Rattle.mq_table.proofs.retransmissions.is_next.Goals as goal

pub returns-in_default : goal.returns-in_default
returns-in_default g c = grind (arith, common_steps)
