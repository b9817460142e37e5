use Rattle.mq_sched.specs.Sizes.{bytes_of_tree}
use Rattle.mq_sched.proofs.deadline_tree.DeadlineTree.size.Goals as goal

pub returns : goal.returns
unfolding bytes_of_tree
returns g c = c.both_sizes.ensures _ _ c.vector_size.ensures c.vector_size-2.ensures
