use Rattle.mq_link.specs.Sizes.{bytes_of_scratch}
use Rattle.mq_link.proofs.storage.Scratch.size.Goals as goal

pub returns : goal.returns
unfolding bytes_of_scratch
returns g c =
    let of_sources = c.both_sizes-of_sources.ensures _ _ (c.both_sizes.ensures _ _ c.vector_size.ensures c.vector_size-2.ensures) c.vector_size-3.ensures in
    c.both_sizes-3.ensures _ _ (c.both_sizes-2.ensures _ _ of_sources c.size-marks.ensures) c.size-marks.ensures
