use Rattle.mq_table.proofs.Common.{arith, common_steps}
use Rattle.mq_table.proofs.retransmission_places.any_in_block.Goals as goal

pub loop-source-preserved : goal.loop-source-preserved
loop-source-preserved c = grind (arith, common_steps)
