use Rattle.mq_wire.proofs.Common.{arith, common_steps}
use Rattle.mq_wire.proofs.checksum.sum_without_field.Goals as goal

pub returns : goal.returns
returns c = grind (arith, common_steps)
