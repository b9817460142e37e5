-- The moments of groups, by the numbers of the groups, at the leaves of a tree.
use Rattle.std.specs.Prelude.{ℕ, ◌*◌, ◌<◌, ◌≤◌, ◌≡◌, ◌==◌, ◌&&◌, Bool, false, if◌then◌else◌, Option, None, Some, List, length, drop, slice_index, nat_lt, nat_le, refl}
use Rattle.std.specs.Coded.{Coded, code_by, coded×, coded_ℕ}
use Rattle.std.specs.Ordering.{nat_cmp}
use Rattle.std.specs.FinMap as map
use Rattle.std.specs.FinMap.{FinMap}
use Rattle.mq_table.specs.Maps.{entries_by}

-- an index, as a contract sees it: the moment of each number that it has, and the limit below which all numbers are
pub record DeadlinesState : Type 0 where
  pub moments : FinMap nat_cmp ℕ
  pub room : ℕ

-- the code of its parts, by which proofs distinguish indexes
abbrev pub deadlines_code : Coded DeadlinesState
deadlines_code =
    code_by (FinMap nat_cmp ℕ × ℕ) (coded× (map.code coded_ℕ coded_ℕ) coded_ℕ)
    (λ s. (s.moments, s.room))
    (λ p. record { moments = p.0; room = p.1 })
    (λ _. refl)

-- there is a moment, at or before `now`
abbrev pub has_come : ℕ → Option ℕ → Bool
has_come now None = false
has_come now (Some moment) = nat_le moment now

-- a number's moment is at or before `now`
abbrev pub is_number_due : FinMap nat_cmp ℕ → ℕ → ℕ → Bool
is_number_due moments now number = has_come now (map.get moments number)

-- this moment is the earliest of all
pub record IsEarliestMoment (moments : FinMap nat_cmp ℕ) (moment : ℕ) : Type 0 where
  pub is_one : (number : ℕ) × (map.get moments number ≡ Some moment)
  pub least : (number other : ℕ) → map.get moments number ≡ Some other → moment ≤ other

-- a number has a leaf, and the leaf has this number
abbrev pub has_leaf : List ℕ → List ℕ → ℕ → ℕ → Bool
has_leaf leaves numbers count number =
    let leaf = slice_index leaves number in
    nat_le count leaf && (nat_lt leaf (2 * count) && (slice_index numbers leaf == number))

-- the moment of a number, if it has a leaf
abbrev pub moment_at : List ℕ → List ℕ → List ℕ → ℕ → ℕ → Option ℕ
moment_at nodes leaves numbers count number =
    if has_leaf leaves numbers count number then Some (slice_index nodes (slice_index leaves number)) else None

abbrev pub moments_at : List ℕ → List ℕ → List ℕ → ℕ → FinMap nat_cmp ℕ
moments_at nodes leaves numbers count =
    map.from_entries (entries_by (moment_at nodes leaves numbers count) (drop count numbers))

-- each leaf has a number, whose leaf it is
pub record AreNumbered (leaves numbers : List ℕ) (count : ℕ) : Type 0 where
  pub size : length numbers ≡ 2 * count
  pub below : (leaf : ℕ) → count ≤ leaf → leaf < 2 * count → slice_index numbers leaf < length leaves
  pub leaf : (leaf : ℕ) → count ≤ leaf → leaf < 2 * count → slice_index leaves (slice_index numbers leaf) ≡ leaf
