-- The storage of the groups, and the memory for the work on one of them.
use Rattle.std.specs.Prelude.{◌≡◌, ℕ, ◌+◌, ◌-◌, ◌*◌, ◌/◌, ◌≤◌, min, length, vec_capacity, MatchResult}
use Rattle.std.specs.FinMap as map
use Rattle.mq_sets.specs.NumberedKeys.{IsSpotFor}
use Rattle.mq_table.specs.Group.{GroupState}
use Rattle.mq_table.specs.Stored.{number_in, timers_in}
use Rattle.mq_sched.specs.Schedule.{ScheduledGroup}
use Rattle.mq_sets.specs.Ascending.{IsAscending}
use Rattle.mq_held.specs.declared.held_group.HeldGroup.{HeldGroup}
use Rattle.mq_held.specs.Groups.{Groups, group_at, running_in, sources_in, sources_of}
use Rattle.mq_held.specs.Held.{HeldState, HasNumber}
use Rattle.mq_link.specs.declared.storage.Lists.{Lists}
use Rattle.mq_link.specs.declared.storage.GroupLookup.{GroupLookup}
use Rattle.mq_link.specs.declared.storage.Storage.{Storage}
use Rattle.mq_link.specs.declared.storage.Scratch.{Scratch}
use Rattle.mq_link.specs.Serving.{AreServed}

-- a stored group, with its addresses as numbers
abbrev pub group_stored : {K : Type 0} → (K → ℕ) → HeldGroup K → GroupState
group_stored number stored =
    record { mode = stored.mode; sources = timers_in number stored.sources.now; v1 = stored.v1; v2 = stored.v2 }

-- Room for a group of `sources` sources, a record that names no more, and what both may make. There is also room for
-- `groups` groups that are met and changed.
pub record HasRoom {K A : Type 0} (groups sources : ℕ) (w : Scratch K A) : Type 0 where
  pub group : 2 * sources ≤ w.group.room
  pub named : sources ≤ w.named.room
  pub asked : 2 * sources ≤ vec_capacity w.asked
  pub met : groups ≤ length w.met
  pub changed : groups ≤ length w.changed

-- room for a group of `sources` sources, and for as many to ask for
pub record HasRoomFor {K A : Type 0} (sources : ℕ) (w : Scratch K A) : Type 0 where
  pub group : sources ≤ w.group.room
  pub asked : sources ≤ vec_capacity w.asked

-- the work left no less room
pub record KeepsRoom {K A : Type 0} (old new : Scratch K A) : Type 0 where
  pub group : old.group.room ≤ new.group.room
  pub named : new.named.room ≡ old.named.room
  pub asked : vec_capacity old.asked ≤ vec_capacity new.asked
  pub met : length new.met ≡ length old.met
  pub changed : length new.changed ≡ length old.changed

-- there is as much room for groups and their sources as before
pub record KeepsRooms {K A : Type 0} (old new : Storage K A) : Type 0 where
  pub groups : new.held.order.room ≡ old.held.order.room
  pub sources : new.held.source_room ≡ old.held.source_room

-- the groups are ready for work on one after the other, with this much room for each
pub record IsReady {K A : Type 0} (room : ℕ) (s : Storage K A) : Type 0 where
  pub few : map.len s.held.groups ≤ 65535
  pub served : AreServed room s.held.groups

-- the storage with another count of comparisons
abbrev pub has_counted : {K A : Type 0} → Storage K A → (spent : ℕ) → Storage K A
has_counted s spent = record s { meter = spent }

-- the group that was searched for has its number, or would go to the spot
abbrev pub IsLookup : {K : Type 0} → (K → ℕ) → HeldState → GroupLookup K → Type 0
IsLookup number held lookup =
    MatchResult lookup.found (HasNumber held (number lookup.address)) (IsSpotFor held.order.items held.order.pages (number lookup.address))

-- room for the numbers of `groups` groups, twice, and for the addresses of twice as many
pub record HasSpace {K A : Type 0} (groups : ℕ) (lists : Lists K A) : Type 0 where
  pub due : groups ≤ vec_capacity lists.due
  pub spare : groups ≤ length lists.spare.items
  pub changed : 2 * groups ≤ vec_capacity lists.changed
  pub by_tick : 2 * groups ≤ vec_capacity lists.by_tick
  pub by_records : groups ≤ vec_capacity lists.by_records

-- a tick leaves no less room for groups
pub record KeepsSpace {K A : Type 0} (old new : Lists K A) : Type 0 where
  pub due : vec_capacity old.due ≤ vec_capacity new.due
  pub spare : length new.spare.items ≡ length old.spare.items
  pub changed : vec_capacity old.changed ≤ vec_capacity new.changed
  pub by_tick : new.by_tick ≡ old.by_tick
  pub by_records : new.by_records ≡ old.by_records

-- The moves in reserve for the next packing of the rows of sources. They are 4 for each source that was written at the
-- end since the last packing, and at most what packing moves.
abbrev pub put_by_rows : HeldState → ℕ
put_by_rows s = let slack = s.source_room / 4 + s.order.room in
    min (4 * (slack - s.ahead)) (sources_in s.groups + running_in s.groups)

-- the stored group is that of an address
pub record IsGroupAt {K : Type 0} (number : K → ℕ) (groups : Groups) (address : ℕ) (stored : HeldGroup K) : Type 0 where
  pub address_is : number stored.address ≡ address
  pub group_is : (let e : ScheduledGroup = record { group = group_stored number stored; schedule = stored.schedule } in e ≡ group_at groups address)
  pub ascending : IsAscending (number_in number) stored.sources.now
  pub len : length stored.sources.now ≡ sources_of (group_at groups address)
