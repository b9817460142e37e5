use Rattle.mq_held.proofs.Common.{◌≡◌, ◌+◌, ◌*◌, ◌/◌, not, take, length, filter, Spends, set_of, bitlen}
use Rattle.mq_held.proofs.vacant_groups.remove_each.Given as goal

abbrev pub invariant-loop-number : goal.invariant-loop-number
invariant-loop-number g l = record {
  items : l.order.items ≡ filter (λ x. not (set_of (λ n. n) (take l.number-index l.numbers) x.number)) l.fn.order.items;
  room : l.order.room ≡ l.fn.order.room;
  spent : Spends 0 (l.number-index * (bitlen (length l.fn.order.items) + 2)) l.fn.m l.m;
  moved : Spends l.number-index (l.number-index * (1023 + length l.fn.order.items / 128)) l.fn.moves l.moves;
}
