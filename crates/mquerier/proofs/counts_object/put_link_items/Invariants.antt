use Rattle.mquerier.proofs.Common.{◌≡◌, ◌≤◌, ◌+◌, ◌*◌, ℕ, List, ◌++◌, true, drop, array_vec_len, items_from, link_item}
use Rattle.mquerier.proofs.counts_object.put_link_items.Given as goal

-- the text so far and that of the rows left are the whole text
abbrev pub invariant-loop-row : goal.invariant-loop-row
invariant-loop-row l = record {
  text : (done : List ℕ)
      × (items_from link_item true l.fn.rows ≡ done ++ items_from link_item l.is_first (drop l.row-index l.rows))
      × (l.object.items ≡ l.fn.object.items ++ done);
  size : array_vec_len l.object ≤ 300 + 70 * l.row-index;
}
