use Rattle.mq_table.proofs.Common.{◌≡◌, ◌≤◌, ◌*◌, Some, length, min, take, drop, vec_capacity, filter_map, list_any, Spends, set_of, source_if_asked}
use Rattle.mq_table.proofs.Common.{is_asked_above}
use Rattle.mq_table.proofs.InOrder.{found_in_order, are_asked}
use Rattle.mq_table.proofs.retransmissions.ask_each.Given as goal

-- the passed places have the sources once asked for; the rest is unchanged, and the
-- addresses ahead are those of the sources ahead that are asked for
abbrev pub invariant-loop-place : goal.invariant-loop-place
invariant-loop-place g l = record {
  next : l.next ≤ length l.fn.asked;
  passed : l.next ≤ l.place;
  len : length l.sources.items ≡ length l.initial.sources.items;
  ahead : found_in_order g.K.Key.number (drop l.next l.fn.asked) (drop l.place l.initial.sources.items)
      ≡ are_asked g.K.Key.number l.fn.asked (drop l.place l.initial.sources.items);
  made : take l.place l.sources.items
      ≡ filter_map (λ x. Some (source_if_asked g.K.Key.number l.fn.limit l.fn.count (set_of g.K.Key.number l.fn.asked) x))
      (take l.place l.initial.sources.items);
  rest : drop l.place l.sources.items ≡ drop l.place l.initial.sources.items;
  some : l.some ≡ list_any (is_asked_above g.K.Key.number l.fn.limit (set_of g.K.Key.number l.fn.asked)) (take l.place l.initial.sources.items);
  capacity : vec_capacity l.sources ≡ vec_capacity l.initial.sources;
  spent : Spends (min (min 1 (length l.fn.asked)) l.place) (2 * l.place) l.initial.m l.m;
}
