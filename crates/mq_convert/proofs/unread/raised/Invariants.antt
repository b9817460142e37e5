use Rattle.mq_convert.proofs.Common.{◌≡◌, take, map, array_vec_len, raised}
use Rattle.mq_convert.proofs.unread.raised.Given as goal

-- the rows so far
abbrev pub invariant-loop-row : goal.invariant-loop-row
invariant-loop-row l = record {
  rows : l.links.items ≡ map (raised l.link) (take l.row-index l.rows);
  size : array_vec_len l.links ≡ l.row-index;
}
