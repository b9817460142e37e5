use Rattle.mq_link.proofs.Common.{arith, common_steps}
use Rattle.mq_link.proofs.dropping.drop_reason.Goals as goal

pub returns-then-is_some : goal.returns-then-is_some
returns-then-is_some g c = grind (arith, common_steps)

pub returns-else-is_some : goal.returns-else-is_some
returns-else-is_some g c = grind (arith, common_steps)
