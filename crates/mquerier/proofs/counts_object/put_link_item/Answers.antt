use Rattle.mquerier.proofs.Common.{codes, comma_before, four_parts, count_field}
use Rattle.mquerier.proofs.counts_object.put_link_item.Goals as goal

pub returns-clause-text : goal.returns-clause-text
returns-clause-text c =
    let row = c.args.row.now in
    rw (
      c.put.ensures.text,
      c.put_count-2.ensures.text,
      c.put_count.ensures.text,
      c.from.ensures,
      c.put_comma.ensures.text,
    )
    (four_parts c.args.object.now.items (comma_before c.args.is_first) (count_field (codes "{\"link\":") row.link)
    (count_field (codes ",\"packets\":") row.count) (codes "}"))
