use Rattle.mquerier.proofs.Common.{◌≡◌, ◌≤◌, ◌+◌, ◌*◌, ◌++◌, take, flat_map, array_vec_len, link_text}
use Rattle.mquerier.proofs.unread.put_links.Given as goal

-- the lines of the rows so far
abbrev pub invariant-loop-row : goal.invariant-loop-row
invariant-loop-row l = record {
  text : l.line.items ≡ l.fn.line.items ++ flat_map link_text (take l.row-index l.rows);
  size : array_vec_len l.line ≤ 300 + 60 * l.row-index;
}
