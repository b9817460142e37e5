use Rattle.mq_sched.proofs.Common.{◌-◌, length}
use Rattle.mq_sched.proofs.due_leaves.+collect.Given as goal

abbrev pub decreases-collect : goal.decreases-collect
decreases-collect l = length l.nodes.now - l.node
