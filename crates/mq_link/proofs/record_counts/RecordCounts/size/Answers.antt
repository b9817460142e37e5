use Rattle.mq_link.specs.Sizes.{bytes_of_marks}
use Rattle.mq_link.proofs.record_counts.RecordCounts.size.Goals as goal

pub returns : goal.returns
unfolding bytes_of_marks
returns g c = c.both_sizes.ensures _ _ c.vector_size.ensures c.vector_size-2.ensures
