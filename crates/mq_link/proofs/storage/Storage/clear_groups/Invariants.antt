use Rattle.mq_link.proofs.Common.{◌≡◌, ℕ, ◌+◌, ◌*◌, ◌≤◌, IsPaid, KeepsRooms, put_by_rows}
use Rattle.mq_link.proofs.ClearedGroups.{AreClearedTo}
use Rattle.mq_link.proofs.storage.Storage.clear_groups.Given as goal

-- the groups of the numbers so far are cleared, and what was moved for them is paid
abbrev pub invariant-loop-number : goal.invariant-loop-number
invariant-loop-number g l =
    ((weight : ℕ)
    × AreClearedTo l.fn.self.held.groups l.fn.self.meter l.number-index l.self.held.groups l.self.meter weight
    × IsPaid (5 * weight + 21 * l.number-index) (put_by_rows l.fn.self.held) (put_by_rows l.self.held) l.initial.self.moves l.self.moves)
    × (l.self.held.order ≡ l.fn.self.held.order)
    × KeepsRooms l.fn.self l.self
    × (l.fn.group.room ≤ l.group.room)
