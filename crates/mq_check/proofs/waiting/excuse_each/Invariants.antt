-- the entries so far were excused
use Rattle.mq_check.proofs.Common.{◌≡◌, ◌++◌, length, take, drop, list_map, deque_capacity, excused_at, numbered_entry}
use Rattle.mq_check.proofs.waiting.excuse_each.Given as goal

abbrev pub invariant-loop-place : goal.invariant-loop-place
invariant-loop-place g l =
    let es = list_map (numbered_entry g.F.Address.Key.number) l.fn.entries.items in
    record {
      excused : list_map (numbered_entry g.F.Address.Key.number) l.entries.items ≡ list_map (excused_at l.within l.end l.sent) (take l.place es) ++
          drop l.place es;
      long : length l.entries.items ≡ length l.fn.entries.items;
      capacity : deque_capacity l.entries ≡ deque_capacity l.fn.entries;
    }
