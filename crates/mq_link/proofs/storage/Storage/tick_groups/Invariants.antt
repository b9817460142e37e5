use Rattle.mq_link.proofs.Common.{◌≡◌, ℕ, ◌+◌, ◌*◌, ◌≤◌, vec_capacity, list_map, IsPaid, KeepsRooms, put_by_rows}
use Rattle.mq_link.proofs.{TickedFilters.turned_to, TickedNumbers.AreTickedTo}
use Rattle.mq_link.proofs.storage.Storage.tick_groups.Given as goal

-- the groups of the numbers so far are served; the sent queries are theirs; the moves for them are paid; and those
-- with another filter are listed
abbrev pub invariant-loop-number : goal.invariant-loop-number
invariant-loop-number g l =
    ((weight : ℕ)
    × AreTickedTo g.S.Sink.takes g.K.WireKey.PER_QUERY l.fn.at.timing l.fn.at.moment l.fn.self.held.groups l.fn.sink l.initial.self.meter
    l.number-index l.self.held.groups l.sink l.self.meter weight
    × IsPaid (5 * weight + 21 * l.number-index) (put_by_rows l.fn.self.held) (put_by_rows l.self.held) l.initial.self.moves l.self.moves)
    × (l.number-index ≡ 0 → l.self.moves ≡ l.initial.self.moves)
    × (l.self.held.order ≡ l.fn.self.held.order)
    × KeepsRooms l.fn.self l.self
    × (l.fn.group.room ≤ l.group.room)
    × (list_map g.K.Key.number l.lists.1.1.1.0.items ≡ turned_to l.fn.at.timing l.fn.at.moment l.fn.self.held.groups l.number-index)
    × (vec_capacity l.fn.lists.changed ≤ vec_capacity l.lists.1.1.1.0)
