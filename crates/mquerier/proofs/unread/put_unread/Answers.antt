use Rattle.mquerier.proofs.Common.{codes, decimal, flat_map, link_text, others}
use Rattle.mquerier.{specs.Failures.others_text, proofs.Lines.in_six}
use Rattle.mquerier.proofs.unread.put_unread.Goals as goal

pub returns : goal.returns
returns c =
    let count = c.args.unread.now.count in
    let rows = c.args.unread.now.links.items in
    rw (
      c.put-3.ensures.text,
      c.put_others.ensures.text,
      c.others.ensures,
      c.put_links.ensures.text,
      c.put-2.ensures.text,
      c.put_decimal.ensures.text,
      c.put.ensures.text,
      c.as_slice-rows.ensures.value,
    )
    (in_six c.args.line.now.items (codes "mquerier: ") (decimal count) (codes " packets of link types that aren't read") (flat_map link_text rows)
    (others_text (others count rows)) (codes "\n"))
