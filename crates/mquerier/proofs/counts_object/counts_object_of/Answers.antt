use Rattle.mquerier.proofs.Common.{true, append_assoc, codes, items_from, link_item}
use Rattle.mquerier.specs.Failures.{counts_start}
use Rattle.mquerier.proofs.counts_object.counts_object_of.Goals as goal

pub returns : goal.returns
returns c =
    let counts = c.args.counts.now in
    rw (
      c.put.ensures.text,
      c.put_link_items.ensures.text,
      c.as_slice.ensures.value,
      c.put_counts_start.ensures.text,
      c.new-object.ensures,
    )
    (append_assoc (counts_start counts) (items_from link_item true counts.unread.links.items) (codes "]}}\n"))
