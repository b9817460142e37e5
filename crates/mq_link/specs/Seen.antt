-- The number of records of a datagram that have met each group, by the numbers of the groups.
use Rattle.std.specs.Prelude.{◌≡◌, ℕ, ◌+◌, ◌<◌, ◌≤◌, min, nat_lt, nat_le, Bool, false, if◌then◌else◌, List, length, slice_index, slice_set}
use Rattle.std.specs.FinMap as map
use Rattle.std.specs.List.{All, count_by}
use Rattle.mq_sets.specs.Slots.{times}
use Rattle.mq_held.specs.Held.{HeldState, HasNumber}
use Rattle.mq_link.specs.Record.{Seen, met}

-- no group was met
abbrev pub AreNone : List ℕ → Type 0
AreNone counts = (number : ℕ) → slice_index counts number ≡ 0

-- The counts after one more record has met the group of a number. Counts above four are not distinguished.
abbrev pub counted_again : List ℕ → ℕ → List ℕ
counted_again counts number =
    let before = slice_index counts number in
    if nat_le 4 before then counts else slice_set counts number (before + 1)

-- these numbers are those whose count isn't zero, each once
pub record AreListed (counts numbers : List ℕ) : Type 0 where
  pub once : (number : ℕ) → times number numbers ≡ (if nat_lt 0 (slice_index counts number) then 1 else 0)
  pub within : All (λ number. number < length counts) numbers
  pub count : length numbers ≡ count_by (nat_lt 0) counts

-- The counts are those of a map by address. A held group has its count, up to four, and no other group was met.
pub record AreMet (s : HeldState) (counts : List ℕ) (seen : Seen) : Type 0 where
  pub held : (address number : ℕ) → HasNumber s address number → slice_index counts number ≡ min 4 (met seen address)
  pub absent : (address : ℕ) → map.contains_key s.groups address ≡ false → met seen address ≡ 0
  pub unused : (number : ℕ) → 1 ≤ slice_index counts number → (address : ℕ) × HasNumber s address number

-- the groups that were met are those that pass the test
pub record AreMarked (s : HeldState) (counts : List ℕ) (test : ℕ → Bool) : Type 0 where
  pub seen : Seen
  pub are_met : AreMet s counts seen
  pub each : (address : ℕ) → nat_lt 0 (met seen address) ≡ test address

-- the number of groups that were met
abbrev pub met_in : List ℕ → ℕ
met_in counts = count_by (nat_lt 0) counts

-- a group that was held keeps its number
abbrev pub KeepsNumbers : (old new : HeldState) → Type 0
KeepsNumbers old new = (address number : ℕ) → HasNumber old address number → HasNumber new address number
