-- The most list items that calls move to keep the groups (the bounds are this project's).
use Rattle.std.specs.Prelude.{ℕ, ◌+◌, ◌*◌, ◌≤◌, if◌then◌else◌, length}
use Rattle.std.specs.FinMap as map
use Rattle.mq_count.specs.Spending.{Spends}
use Rattle.mq_wire.specs.declared.records.RecordView.{RecordView}
use Rattle.mq_held.specs.Groups.{Groups, group_at, sources_in, sources_of}
use Rattle.mq_link.specs.declared.storage.Storage.{Storage}
use Rattle.mq_link.specs.Configuration.{Configuration}
use Rattle.mq_link.specs.Record.{Seen, Entrance, Stops, GoesOn, entrance, is_repeated}
use Rattle.mq_link.specs.Router.{RouterValue}
use Rattle.mq_link.specs.Storage.{put_by_rows}

-- the bound by the length of the datagram, 0 for a tick, and by what was held when the call began
abbrev pub most_moved : (length held : ℕ) → ℕ
most_moved length held = 256 * (length + held)

-- The moves and the reserve afterwards are at most the reserve before and the budget. The reserve pays for the packing
-- of the rows.
pub record IsPaid (budget before after old new : ℕ) : Type 0 where
  pub moved : ℕ
  pub spends : Spends 0 moved old new
  pub paid : moved + after ≤ before + budget

abbrev pub MovesWithin : {K A : Type 0} → ℕ → Storage K A → Storage K A → Type 0
MovesWithin budget old new = IsPaid budget (put_by_rows old.held) (put_by_rows new.held) old.moves new.moves

abbrev pub HasMoved : ℕ → RouterValue → RouterValue → Type 0
HasMoved budget old new = IsPaid budget old.put_by new.put_by old.moved new.moved

-- The most moves to add a group, beside its sources: three amounts. They are 1024 in the order of the addresses, 20 in
-- the moments, and one if the rows are packed.
abbrev pub moved_by_edit : ℕ
moved_by_edit = 1045

-- The most moves of a tick: 5 for each source that is written again, and three amounts for each group. They are 64 to
-- put the due groups in order, 21 at its moment, and 50 to remove the groups that ended.
abbrev pub most_moved_by_tick : Groups → ℕ
most_moved_by_tick groups = 5 * sources_in groups + 135 * map.len groups

-- The most moves of a record. There are none if it ends before its group is searched for, or if four other records of
-- the datagram have met its group. Otherwise there are 5 for each source of its group and each that it names, and those
-- of an edit.
abbrev pub moves_by : Entrance → Seen → RecordView ℕ → Groups → ℕ
moves_by (Stops verdict) seen r groups = 0
moves_by (GoesOn kind) seen r groups =
    if is_repeated groups seen r.group then 0
    else 5 * (sources_of (group_at groups r.group) + length r.sources) + moved_by_edit

abbrev pub record_moves : Configuration → Seen → RecordView ℕ → Groups → ℕ
record_moves config seen r groups = moves_by (entrance config r) seen r groups

-- The most moves of a record, beside the sources that were held before the datagram.
abbrev pub own_moves : RecordView ℕ → ℕ
own_moves r = moved_by_edit + 29 * length r.sources
