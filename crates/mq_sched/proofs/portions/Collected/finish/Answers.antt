use Rattle.mq_sched.proofs.Common.{arith, common_steps}
use Rattle.mq_sched.proofs.portions.Collected.finish.Goals as goal

pub returns-then-not-is_empty : goal.returns-then-not-is_empty
returns-then-not-is_empty g c = grind (arith, common_steps)
