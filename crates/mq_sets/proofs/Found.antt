-- The item of a list that a number finds.
use Rattle.mq_sets.proofs.Common.{ℕ, ◌≡◌, ◌==◌, arith, refl, List, [], ◌∷◌, map, ◌∙◌, ⊎_elim, option_map, nat_cmp, eq_by_cmp, cases_lt, eq-eqb, lt-ltb, le-ltb}
use Rattle.mq_sets.proofs.Common.{eqb_tells, item_with, FoundWhereMember, FoundHasNumber, MapsEachNumber}
use Rattle.std.proofs.lemmas.Cmp.{nat_cmp_total}
use Rattle.mq_sets.proofs.Ascents.{above-eqb, below-eqb}
use Rattle.std.specs.FinMap as map_of

module _ {X : Type 0} (number : X → ℕ) where
  pub found_where_member : FoundWhereMember number
  found_where_member [] n = refl
  found_where_member (x ∷ xs) n =
      ⊎_elim
      (λ same. rw same.0 refl)
      (λ other. rw other.0 (found_where_member xs n))
      (eqb_tells (number x) n)

  pub found_has_number : FoundHasNumber number
  found_has_number [] n = tt
  found_has_number (x ∷ xs) n =
      ⊎_elim
      (λ same. rw same.0 same.1)
      (λ other. rw other.0 (found_has_number xs n))
      (eqb_tells (number x) n)

-- the order of numbers tests their equality
eq_by_nat_cmp : (q m : ℕ) → eq_by_cmp nat_cmp q m ≡ (m == q)
eq_by_nat_cmp q m = grind (arith, lt-ltb, above-eqb, le-ltb, below-eqb, eq-eqb, cases_lt)

module _ {X V : Type 0} (number : X → ℕ) (value : X → V) where
  found_entry : (xs : List X) (n : ℕ) → map_of.find nat_cmp n (map (λ x. (number x, value x)) xs) ≡ option_map value (item_with number xs n)
  found_entry [] n = refl
  found_entry (x ∷ xs) n =
      ⊎_elim
      (λ same. rw (eq_by_nat_cmp n (number x), same.0) refl)
      (λ other. rw (eq_by_nat_cmp n (number x), other.0) (found_entry xs n))
      (eqb_tells (number x) n)

pub maps_each_number : {X V : Type 0} (number : X → ℕ) → MapsEachNumber V number
maps_each_number number value xs n =
    map_of.get-from_entries nat_cmp_total _ n ∙ found_entry number value xs n
