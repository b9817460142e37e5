use Rattle.mq_sched.specs.Sizes.{bytes_of_moments}
use Rattle.mq_sched.proofs.deadlines.Deadlines.size.Goals as goal

pub returns : goal.returns
unfolding bytes_of_moments
returns g c = c.both_sizes-2.ensures _ _ (c.both_sizes.ensures _ _ c.size.ensures c.vector_size.ensures) c.vector_size-2.ensures
