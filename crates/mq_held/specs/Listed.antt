-- Groups that are read one after the other, as a contract sees them.
use Rattle.std.specs.Prelude.{ℕ, ◌+◌, List, sum, take, drop}
use Rattle.std.specs.FinMap as map
use Rattle.mq_table.specs.Stored.{timers_in}
use Rattle.mq_sched.specs.Schedule.{ScheduledGroup}
use Rattle.mq_held.specs.declared.held_group.HeldGroup.{HeldGroup}
use Rattle.mq_held.specs.Groups.{Groups}

-- a group of the storage with its address, as the map has it
abbrev pub entry_in : {K : Type 0} → (K → ℕ) → HeldGroup K → ℕ × ScheduledGroup
entry_in number h = (
  number h.address,
  record {
    group = record { mode = h.mode; sources = timers_in number h.sources.now; v1 = h.v1; v2 = h.v2 };
    schedule = h.schedule;
  },
)

-- the groups from a place on, with their addresses
abbrev pub entries_from : (place : ℕ) → Groups → List (ℕ × ScheduledGroup)
entries_from place groups = drop place (map.entries groups)

-- the rank of the item at a place of a page
abbrev pub rank_at : List ℕ → (page place : ℕ) → ℕ
rank_at pages page place = sum (take page pages) + place
