-- Groups by their numbers: heads and rows of sources, beside the order of the addresses.
use Rattle.std.specs.Prelude.{◌≡◌, ◌<◌, ◌≤◌, ℕ, true, false, if◌then◌else◌, List, [], ◌∷◌, length, map as list_map, slice_index_or, Option, None, Some}
use Rattle.std.specs.List.{All, sum_by}
use Rattle.std.specs.Option.{option_to_list}
use Rattle.std.specs.Ordering.{nat_cmp}
use Rattle.std.specs.FinMap as map
use Rattle.std.specs.FinMap.{FinMap}
use Rattle.mq_sets.specs.Ascending.{IsAscending, set_of}
use Rattle.mq_sets.specs.NumberedKeys.{NumberedKey}
use Rattle.mq_sets.specs.Slots.{times}
use Rattle.mq_table.specs.declared.timers.FilterMode.TheVariants.{Include}
use Rattle.mq_table.specs.declared.sources.Source.{Source}
use Rattle.mq_table.specs.Group.{IsWellFormed, deadline_of, is_vacant}
use Rattle.mq_table.specs.Stored.{number_in, timers_in, state_of}
use Rattle.mq_sched.specs.Schedule.{ScheduledGroup, no_schedule}
use Rattle.mq_held.specs.declared.scheduled_head.ScheduledHead.{ScheduledHead}
use Rattle.mq_held.specs.Groups.{Groups, schedules_of, unheld}
use Rattle.mq_held.specs.Moments.{moments_of, least}

-- a group with its schedule, from its head and the row of its sources
abbrev pub group_of : {K : Type 0} → (K → ℕ) → ScheduledHead → List (Source K) → ScheduledGroup
group_of number x row = record { group = state_of x.head (timers_in number row); schedule = x.schedule }

-- the head at a number that no group has
abbrev pub no_head : ScheduledHead
no_head = record { head = record { mode = Include; v1 = None; v2 = None }; schedule = no_schedule }

-- the group of a number
abbrev pub group_by : {K : Type 0} → (K → ℕ) → List ScheduledHead → List (List (Source K)) → ℕ → ScheduledGroup
group_by number heads rows n = group_of number (slice_index_or heads n no_head) (slice_index_or rows n [])

-- an item of the order with its group, and all of them
abbrev pub entry_of : {K : Type 0} → (K → ℕ) → List ScheduledHead → List (List (Source K)) → NumberedKey → ℕ × ScheduledGroup
entry_of number heads rows x = (x.key, group_by number heads rows x.number)

abbrev pub entries_of : {K : Type 0} → (K → ℕ) → List NumberedKey → List ScheduledHead → List (List (Source K)) → List (ℕ × ScheduledGroup)
entries_of number items heads rows = list_map (entry_of number heads rows) items

abbrev pub groups_by : {K : Type 0} → (K → ℕ) → List NumberedKey → List ScheduledHead → List (List (Source K)) → Groups
groups_by number items heads rows = map.from_sorted (entries_of number items heads rows)

-- the deadline of a source, if its timer runs
abbrev pub timer_moments : {K : Type 0} → Source K → List ℕ
timer_moments x = option_to_list (deadline_of (Some x.timer))

-- the earliest of some moments, if there is one
abbrev pub earliest_of : List ℕ → Option ℕ
earliest_of [] = None
earliest_of (m ∷ ms) = Some (least m ms)

-- The addresses ascend, no two groups have one number, and each number has a row. Each row ascends. A number that no
-- group has stands for INCLUDE without sources, so a new group gets its number in that state. The moment of a number is
-- the earliest of its group. There is none if no group has the number, or if the group is INCLUDE without sources. The
-- schedules are counted.
pub record IsStored {K : Type 0} (number : K → ℕ) (items : List NumberedKey) (heads : List ScheduledHead) (rows : List (List (Source K))) (moments : FinMap nat_cmp ℕ) (schedules : ℕ) : Type 0 where
  pub ascending : IsAscending (λ (x : NumberedKey). x.key) items
  pub once : (n : ℕ) → times n (list_map (λ (x : NumberedKey). x.number) items) ≤ 1
  pub within : All (λ (x : NumberedKey). x.number < length rows) items
  pub rows_ascend : All (IsAscending (number_in number)) rows
  pub unused_are_empty : (n : ℕ) → set_of (λ x. x.number) items n ≡ false → slice_index_or rows n [] ≡ []
  pub unused_are_vacant : (n : ℕ) → set_of (λ x. x.number) items n ≡ false → slice_index_or heads n no_head ≡ no_head
  pub moments_are : (n : ℕ) → map.get moments n ≡ (if set_of (λ x. x.number) items n then earliest_of (moments_of (group_by number heads rows n)) else None)
  pub vacant_are_unheld : (n : ℕ) → set_of (λ x. x.number) items n ≡ true → is_vacant (group_by number heads rows n).group ≡ true → group_by number heads rows n ≡ unheld
  pub others_are_held : (n : ℕ) → set_of (λ x. x.number) items n ≡ true → is_vacant (group_by number heads rows n).group ≡ false → IsWellFormed (group_by number heads rows n).group
  pub schedules_are : schedules ≡ sum_by (λ (e : ℕ × ScheduledGroup). schedules_of e.1) (entries_of number items heads rows)
