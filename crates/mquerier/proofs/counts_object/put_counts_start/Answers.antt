use Rattle.mquerier.proofs.Common.{codes, four_parts, count_field}
use Rattle.mquerier.proofs.counts_object.put_counts_start.Goals as goal

pub returns-clause-text : goal.returns-clause-text
returns-clause-text c =
    let counts = c.args.counts.now in
    rw (c.put.ensures.text, c.put_count-3.ensures.text, c.put_count-2.ensures.text, c.put_count.ensures.text)
    (four_parts c.args.object.now.items (count_field (codes "{\"converted\":{\"repeated\":") counts.repeated)
    (count_field (codes ",\"dropped\":") counts.dropped) (count_field (codes ",\"unread\":") counts.unread.count) (codes ",\"links\":["))
