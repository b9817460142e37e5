-- The bytes that a check allocates for its pending entries.
use Rattle.std.specs.Prelude.{ℕ, ◌+◌}
use denote.RattleType.{RattleType}
use Rattle.mq_arena.specs.Vectors.{bytes_for, item_bytes}
use Rattle.mq_check.specs.contracts.entry.Entry as entry
use Rattle.mq_check.specs.Refused.{room as most_refused}
use Rattle.mq_check.specs.Waiting.{room}

-- the number of slots
abbrev pub slots : ℕ
slots = 65522

-- the bytes of the links of a slot's entries: a slot and two links for each entry, two starts and the end of each slot
unfoldable pub bytes_of_trails : ℕ
bytes_of_trails = bytes_for 4 room + bytes_for 8 room + bytes_for 8 room + bytes_for 8 slots + bytes_for 8 slots + bytes_for 8 slots

-- the bytes of pending entries of this size, with their links and a moment for each slot
unfoldable pub bytes_of_entries : (entry_size : ℕ) → ℕ
bytes_of_entries entry_size = bytes_for entry_size room + bytes_of_trails + bytes_for 8 slots

-- the bytes of pending entries, by the type of an address
abbrev pub bytes_of_waiting : RattleType → ℕ
bytes_of_waiting K = bytes_of_entries (item_bytes (entry.the_row K))

-- the bytes of the queries of schedules: three lists
abbrev pub bytes_of_schedules : RattleType → ℕ
bytes_of_schedules K = bytes_of_waiting K + bytes_of_waiting K + bytes_of_waiting K

-- the bytes of the groups that aren't judged
abbrev pub bytes_of_refused : RattleType → ℕ
bytes_of_refused K = bytes_for (item_bytes K) most_refused

-- the bytes of a check: its pending entries, the groups that no older host mutes, the queries of schedules, and the groups
-- that aren't judged
abbrev pub bytes_of_checking : RattleType → ℕ
bytes_of_checking K = bytes_of_waiting K + bytes_of_waiting K + bytes_of_schedules K + bytes_of_refused K
