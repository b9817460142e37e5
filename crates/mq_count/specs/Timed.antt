-- Moments of items, at most one for each.
use Rattle.std.specs.Prelude.{ℕ, zero, suc, min, Bool, false, nat_lt, List, [], ◌∷◌, Option, None, Some}
use Rattle.std.specs.List.{flat_map}
use Rattle.std.specs.Option.{option_to_list}

-- the earliest of a moment and some others
abbrev pub least : ℕ → List ℕ → ℕ
least n [] = n
least n (m ∷ ms) = min m (least n ms)

-- the moments of some items, by a function that returns the moment of an item
abbrev pub moments_by : {T : Type 0} → (T → Option ℕ) → List T → List ℕ
moments_by moment_of items = flat_map (λ x. option_to_list (moment_of x)) items

-- there is a moment, and it is later than now
abbrev pub lies_ahead : (now : ℕ) → Option ℕ → Bool
lies_ahead now None = false
lies_ahead now (Some moment) = nat_lt now moment

-- the comparisons for one item: one if it has a moment
abbrev pub compared : Option ℕ → ℕ
compared None = 0
compared (Some moment) = 1

-- the comparisons for the item at a place
abbrev pub compared_at : {T : Type 0} → (T → Option ℕ) → List T → (place : ℕ) → ℕ
compared_at moment_of [] place = 0
compared_at moment_of (x ∷ items) zero = compared (moment_of x)
compared_at moment_of (x ∷ items) (suc place) = compared_at moment_of items place
