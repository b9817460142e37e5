use Rattle.mq_link.specs.Sizes.{bytes_of_lists}
use Rattle.mq_link.proofs.storage.Lists.size.Goals as goal

pub returns : goal.returns
unfolding bytes_of_lists
returns g c =
    let numbers = c.both_sizes.ensures _ _ c.vector_size-numbers.ensures c.vector_size-numbers.ensures in
    c.both_sizes-4.ensures _ _ (c.both_sizes-3.ensures _ _ (c.both_sizes-2.ensures _ _ numbers c.vector_size-both.ensures) c.vector_size-both.ensures)
    c.vector_size.ensures
