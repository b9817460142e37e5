-- Sources that a record names again.
use Rattle.std.specs.Prelude.{◌≡◌, ℕ, ◌+◌, ◌-◌, ◌*◌, ◌<◌, ◌≤◌, ◌==◌, ◌&&◌, ◌||◌, Bool, true, false, if◌then◌else◌, List, [], ◌∷◌, length, map as list_map, Option, None, is_some, nat_lt, IfSome, OnSome}
use Rattle.std.specs.FinMap as map
use Rattle.std.specs.List.{HoldsAt, list_all, list_any}
use Rattle.mq_count.specs.Spending.{Spends}
use Rattle.mq_sets.specs.Search.{bitlen}
use Rattle.mq_table.specs.declared.timers.SourceTimer.TheVariants.{Running}
use Rattle.mq_table.specs.Group.{is_include, is_stopped, retransmissions_of, timer_at}
use Rattle.mq_sched.specs.Schedule.{ScheduledGroup}
use Rattle.mq_held.specs.Groups.{Groups, group_at, running_in, sources_in, sources_of}
use Rattle.mq_held.specs.Held.{HeldState, IsRowWritten}
use Rattle.mq_held.specs.declared.timers_in_place.SourceRoom.{SourceRoom}

-- the group with one source's timer set to a new deadline; its remaining retransmissions stay
abbrev pub restarted : (deadline source : ℕ) → ScheduledGroup → ScheduledGroup
restarted deadline source e =
    let g = e.group in
    let timer = Running deadline (retransmissions_of (timer_at g source)) in
    record e { group = record g { sources = map.insert g.sources source timer } }

-- the group with the timers of these sources set to a new deadline
abbrev pub restarted_each : (deadline : ℕ) → List ℕ → ScheduledGroup → ScheduledGroup
restarted_each deadline [] e = e
restarted_each deadline (source ∷ sources) e = restarted_each deadline sources (restarted deadline source e)

-- a group has each of these sources
abbrev pub has_each : List ℕ → ScheduledGroup → Bool
has_each sources e = list_all (λ s. map.contains_key e.group.sources s) sources

-- the timer of one of these sources is stopped
abbrev pub some_stopped : List ℕ → ScheduledGroup → Bool
some_stopped sources e = list_any (λ s. is_stopped (timer_at e.group s)) sources

-- The limits allow one more source of the group of this address.
abbrev pub has_room : SourceRoom → Groups → (address : ℕ) → Bool
has_room room groups address = nat_lt (sources_of (group_at groups address)) room.group_sources && nat_lt (sources_in groups) room.sources

-- The effect of a call that sets the timers of named sources to a deadline. It does so if the group of this address has
-- each of them, or if it names a single source and lacks it, and `may_add` allows another. The result says whether the
-- filter is another then: one of the sources was stopped, or one is added in INCLUDE. Otherwise the result is None, and
-- nothing changes. A source that is added is written to the group's row. `old` and `new` count the moves before and
-- after.
pub record RestartsEach {K : Type 0} (number_of : K → ℕ) (address deadline : ℕ) (named : List K) (may_add : Bool) (result : Option Bool)
    (held left : HeldState) (old new : ℕ) : Type 0 where
  pub done : (let there = has_each (list_map number_of named) (group_at held.groups address) in
      is_some result ≡ (there || may_add && (length named == 1)))
  pub told : (let e = group_at held.groups address in
      IfSome result (λ changes. changes ≡ (if has_each (list_map number_of named) e then some_stopped (list_map number_of named) e else is_include e.group.mode)))
  pub groups : (let changed = restarted_each deadline (list_map number_of named) (group_at held.groups address) in
      left ≡ (if is_some result then record held { groups = map.insert held.groups address changed; ahead = left.ahead } else held))
  pub there : has_each (list_map number_of named) (group_at held.groups address) ≡ true →
      (left.ahead ≡ held.ahead) × Spends (length named) (length named + 1 + bitlen (running_in held.groups - 1)) old new
  pub added : has_each (list_map number_of named) (group_at held.groups address) ≡ false →
      (let size = sources_of (group_at held.groups address) in
      OnSome result ((own rows : ℕ) × (own ≤ size + 1) × IsRowWritten held size (size + 1) own (running_in held.groups) left.ahead rows
      × Spends rows (rows + 1 + bitlen (running_in held.groups - 1)) old new))
  pub still : result ≡ None → new ≡ old

-- The most comparisons to find whether a group has each named source. The first is found by binary search, and from
-- there the sources are walked over for the others.
abbrev pub most_looked : (sources named : ℕ) → ℕ
most_looked sources named = if named == 1 then bitlen sources else sources + bitlen sources

-- the most comparisons to set the timers of the named sources; `digits` are those of the number of other groups
abbrev pub most_set : (sources named digits : ℕ) → ℕ
most_set sources named digits = if named == 1 then bitlen sources + sources + 5 + digits else 3 * sources + bitlen sources + named + 4 + digits

-- an item with this number stands at `from` or after it
pub record StandsFrom {X : Type 0} (number_of : X → ℕ) (xs : List X) (number from : ℕ) : Type 0 where
  pub place : ℕ
  pub behind : from ≤ place
  pub within : place < length xs
  pub is : HoldsAt (λ x. number_of x ≡ number) xs place
