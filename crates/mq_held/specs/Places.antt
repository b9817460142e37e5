-- The places of groups, and the groups that are due. A group's place is its rank in the ascending list of addresses.
use Rattle.std.specs.Prelude.{◌≡◌, ℕ, Bool, nat_le, List, map as list_map, filter, Option, None, Some, min, slice_get, slice_index_or}
use Rattle.std.specs.List.{list_any, count_by}
use Rattle.std.specs.FinMap as map
use Rattle.mq_sched.specs.Schedule.{ScheduledGroup}
use Rattle.mq_held.specs.Groups.{Groups, unheld}
use Rattle.mq_held.specs.Moments.{moments_of}

-- the group of this address is held, and has this place
pub record HasPlace (groups : Groups) (address place : ℕ) : Type 0 where
  pub address_is : slice_get (map.keys groups) place ≡ Some address

-- the group at a place
abbrev pub group_in : Groups → ℕ → ScheduledGroup
group_in groups place = slice_index_or (map.values groups) place unheld

-- a group has a moment at or before `now`
abbrev pub has_due : ℕ → ScheduledGroup → Bool
has_due now e = list_any (λ t. nat_le t now) (moments_of e)

-- the addresses of the groups that have a moment at or before `now`, ascending
abbrev pub addresses_due : ℕ → Groups → List ℕ
addresses_due now groups = list_map (λ (e : ℕ × ScheduledGroup). e.0) (filter (λ (e : ℕ × ScheduledGroup). has_due now e.1) (map.entries groups))

-- the number of these groups
abbrev pub due_in : ℕ → Groups → ℕ
due_in now groups = count_by (has_due now) (map.values groups)

-- a moment, or an earlier one if there is one
abbrev pub min_or : ℕ → Option ℕ → ℕ
min_or n None = n
min_or n (Some d) = min n d
