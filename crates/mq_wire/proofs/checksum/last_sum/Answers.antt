use Rattle.mq_wire.proofs.Common.{arith, common_steps}
use Rattle.mq_wire.proofs.checksum.last_sum.Goals as goal

pub loop-rest-preserved : goal.loop-rest-preserved
loop-rest-preserved c = grind (arith, common_steps)
