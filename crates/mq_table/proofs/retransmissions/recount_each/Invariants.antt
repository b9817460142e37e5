use Rattle.mq_table.proofs.Common.{◌≡◌, Some, length, take, drop, vec_capacity, filter_map, list_any, source_recounted, item_has_retransmissions}
use Rattle.mq_table.proofs.retransmissions.recount_each.Given as goal

-- the passed places have the results of their sources; the rest is unchanged
abbrev pub invariant-loop-place : goal.invariant-loop-place
invariant-loop-place g l = record {
  len : length l.sources.items ≡ length l.initial.sources.items;
  made : take l.place l.sources.items ≡ filter_map (λ x. Some (source_recounted l.fn.recount x)) (take l.place l.initial.sources.items);
  rest : drop l.place l.sources.items ≡ drop l.place l.initial.sources.items;
  left : l.left ≡ list_any item_has_retransmissions (take l.place l.sources.items);
  capacity : vec_capacity l.sources ≡ vec_capacity l.initial.sources;
}
