use Rattle.mq_held.specs.Sizes.{bytes_of_groups}
use Rattle.mq_held.proofs.held_groups.HeldGroups.size.Goals as goal

pub returns : goal.returns
unfolding bytes_of_groups
returns g c = c.both_sizes-2.ensures _ _
    (c.both_sizes.ensures _ _ (c.both_sizes-names.ensures _ _ c.size.ensures c.vector_size.ensures) c.size-2.ensures) c.size-3.ensures
