-- The groups that a link holds (RFC 3376 section 6.2, RFC 3810 section 7.2).
use Rattle.std.specs.Prelude.{ℕ, ◌+◌, Bool, not, if◌then◌else◌, Option, None, Some, is_some}
use Rattle.std.specs.Option.{unwrap_or}
use Rattle.std.specs.List.{count_by, sum_by}
use Rattle.std.specs.Ordering.{nat_cmp}
use Rattle.std.specs.FinMap as map
use Rattle.std.specs.FinMap.{FinMap}
use Rattle.mq_table.specs.Group.{vacant, is_vacant}
use Rattle.mq_table.specs.Maps.{kept}
use Rattle.mq_table.specs.Stored.{size_of}
use Rattle.mq_sched.specs.Schedule.{ScheduledGroup, no_schedule}

-- the groups that are held, by their addresses, each with its schedule
abbrev pub Groups : Type 0
Groups = FinMap nat_cmp ScheduledGroup

-- a group that isn't held: INCLUDE({}), with nothing due
abbrev pub unheld : ScheduledGroup
unheld = record { group = vacant; schedule = no_schedule }

abbrev pub group_at : Groups → ℕ → ScheduledGroup
group_at groups group = unwrap_or (map.get groups group) unheld

-- the groups with a new state of one group, which is held unless it is INCLUDE({})
abbrev pub with_group : Groups → ℕ → ScheduledGroup → Groups
with_group groups group e = if is_vacant e.group then map.remove groups group else map.insert groups group e

-- the number of sources of a group, with the stopped ones
abbrev pub sources_of : ScheduledGroup → ℕ
sources_of e = size_of e.group

abbrev pub sources_in : Groups → ℕ
sources_in groups = sum_by sources_of (map.values groups)

-- The number of schedules. A group's query with sendings to go is one, and so are a group's sources with
-- retransmissions to go. So a group has at most two.
abbrev pub one_if : Bool → ℕ
one_if b = if b then 1 else 0

abbrev pub schedules_of : ScheduledGroup → ℕ
schedules_of e = one_if (is_some e.schedule.group_query) + one_if (is_some e.schedule.sources_due)

abbrev pub schedules_in : Groups → ℕ
schedules_in groups = sum_by schedules_of (map.values groups)

-- The state of a group that is put back. INCLUDE({}) has no moment and no schedule, and stays in the map until it is
-- removed.
abbrev pub kept_as : ScheduledGroup → ScheduledGroup
kept_as e = if is_vacant e.group then unheld else e

-- the number of groups that aren't INCLUDE({})
abbrev pub running_in : Groups → ℕ
running_in groups = count_by (λ e. not (is_vacant e.group)) (map.values groups)

-- the number of groups that are INCLUDE({}), and the groups without these
abbrev pub vacant_in : Groups → ℕ
vacant_in groups = count_by (λ e. is_vacant e.group) (map.values groups)

abbrev pub if_running : ℕ → ScheduledGroup → Option ScheduledGroup
if_running address e = if is_vacant e.group then None else Some e

abbrev pub without_vacant : Groups → Groups
without_vacant groups = kept if_running groups
