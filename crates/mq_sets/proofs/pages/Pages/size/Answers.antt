use Rattle.mq_sets.specs.Sizes.{bytes_of_pages}
use Rattle.mq_sets.proofs.pages.Pages.size.Goals as goal

pub returns : goal.returns
unfolding bytes_of_pages
returns g c = c.both_sizes.ensures _ _ (c.times_size.ensures _ c.vector_size.ensures) (c.times_size-2.ensures _ c.vector_size-2.ensures)
