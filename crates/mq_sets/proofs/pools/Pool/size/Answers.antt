use Rattle.mq_sets.specs.Sizes.{bytes_of_rows}
use Rattle.mq_sets.proofs.pools.Pool.size.Goals as goal

pub returns : goal.returns
unfolding bytes_of_rows
returns g c = c.both_sizes.ensures _ _ c.vector_size.ensures (c.times_size.ensures _ c.vector_size-2.ensures)
