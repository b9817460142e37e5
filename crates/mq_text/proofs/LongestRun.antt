-- The longest run of zero groups.
use Rattle.std.proofs.Common.{◌≡◌, ℕ, zero, suc, ◌+◌, ◌-◌, ◌*◌, ◌<◌, ◌≤◌, ◌==◌, nat_lt, Bool, true, false, List, [], ◌∷◌, length, drop, inl, inr, refl, ap, sym}
use Rattle.std.proofs.Common.{◌∙◌, arith, add-one, length-drop, if◌then◌else◌}
use Rattle.std.proofs.lemmas.{Bool.cases_lt, Bool.Decides.nat_tests, List.drop-drop}
use Rattle.mq_text.specs.{declared.address_v6.ZeroGroups.ZeroGroups, AddressV6.zeros_ahead, AddressV6.longest_zeros, AddressV6.IsFirstLongest}

none_in_nothing : (place : ℕ) → zeros_ahead (drop place []) ≤ 0
none_in_nothing zero = omega arith
none_in_nothing (suc place) = omega arith

-- a bound for the zeros at the front and at each later place bounds them everywhere
bounded : (group : ℕ) (groups : List ℕ) (most : ℕ) → zeros_ahead (group ∷ groups) ≤ most
    → ((place : ℕ) → zeros_ahead (drop place groups) ≤ most) → (place : ℕ) → zeros_ahead (drop place (group ∷ groups)) ≤ most
bounded group groups most here later zero = here
bounded group groups most here later (suc place) = later place

fewer_before : (group : ℕ) (groups : List ℕ) (run : ZeroGroups) → zeros_ahead (group ∷ groups) < run.count → IsFirstLongest groups run
    → (place : ℕ) → place < run.place + 1 → zeros_ahead (drop place (group ∷ groups)) < run.count
fewer_before group groups run more longest zero before = more
fewer_before group groups run more longest (suc place) before = longest.first place (omega arith)

-- one group more at the front: the run is the longest that the others have, or the one at the front
by_front : (group : ℕ) (groups : List ℕ) (later : ZeroGroups) → IsFirstLongest groups later
    → (is_shorter : Bool) → nat_lt (zeros_ahead (group ∷ groups)) later.count ≡ is_shorter
    → IsFirstLongest (group ∷ groups)
    (if is_shorter then record { place = later.place + 1; count = later.count } else record { place = 0; count = zeros_ahead (group ∷ groups) })
by_front group groups later longest true shorter =
    let more : zeros_ahead (group ∷ groups) < later.count = grind (arith, nat_tests, shorter) in
    record {
      zeros = rw (add-one later.place) longest.zeros;
      longest = bounded group groups later.count (omega arith) longest.longest;
      first = fewer_before group groups later more longest;
    }
by_front group groups later longest false shorter =
    let more : later.count ≤ zeros_ahead (group ∷ groups) = grind (arith, nat_tests, shorter) in
    record {
      zeros = refl;
      longest = bounded group groups (zeros_ahead (group ∷ groups)) (omega arith) (λ place. let below = longest.longest place in omega arith);
      first = λ place before. absurd (omega arith);
    }

pub is_first_longest : (groups : List ℕ) → IsFirstLongest groups (longest_zeros groups)
is_first_longest [] = record { zeros = refl; longest = none_in_nothing; first = λ place before. absurd (omega arith) }
is_first_longest (group ∷ groups) = by_front group groups (longest_zeros groups) (is_first_longest groups)
    (nat_lt (zeros_ahead (group ∷ groups)) (longest_zeros groups).count) refl

-- no more zero groups stand anywhere than there are groups
pub zeros_within : (groups : List ℕ) → zeros_ahead groups ≤ length groups
zeros_within [] = omega arith
zeros_within (group ∷ groups) = by_first (zeros_within groups) (group == 0)
  where
    by_first : zeros_ahead groups ≤ length groups → (is_zero : Bool) → (if is_zero then zeros_ahead groups + 1 else 0) ≤ suc (length groups)
    by_first others true = omega arith
    by_first others false = omega arith

-- and behind some of those ahead no more than are ahead
not_more : (groups : List ℕ) (some : ℕ) → some ≤ zeros_ahead groups → zeros_ahead (drop some groups) ≤ zeros_ahead groups
not_more groups zero few = omega arith
not_more [] (suc some) few = omega arith
not_more (group ∷ groups) (suc some) few = by_first (not_more groups some) (group == 0) few
  where
    by_first : (some ≤ zeros_ahead groups → zeros_ahead (drop some groups) ≤ zeros_ahead groups) → (is_zero : Bool) →
        suc some ≤ (if is_zero then zeros_ahead groups + 1 else 0)
        → zeros_ahead (drop some groups) ≤ (if is_zero then zeros_ahead groups + 1 else 0)
    by_first others true few = let fewer = others (omega (arith, few)) in omega (arith, fewer)
    by_first others false few = absurd (omega (arith, few))

not_before : (groups : List ℕ) (a b : ZeroGroups) → IsFirstLongest groups a → IsFirstLongest groups b → a.count ≡ b.count → b.place ≤ a.place
not_before groups a b longest_a longest_b same =
    elim (cases_lt a.place b.place) [
      | inl before ↦ let fewer = longest_b.first a.place before in absurd (omega (arith, fewer, longest_a.zeros, same))
      | inr behind ↦ behind
    ]

-- so there is one such run
one_run : (groups : List ℕ) (a b : ZeroGroups) → IsFirstLongest groups a → IsFirstLongest groups b → a ≡ b
one_run groups a b longest_a longest_b =
    let up = longest_b.longest a.place in
    let down = longest_a.longest b.place in
    let count : a.count ≡ b.count = omega (arith, up, down, longest_a.zeros, longest_b.zeros) in
    let one = not_before groups a b longest_a longest_b count in
    let other = not_before groups b a longest_b longest_a (sym count) in
    let place : a.place ≡ b.place = omega (arith, one, other) in
    λ i. record { place = place i; count = count i }

-- The first run of all is the longest if fewer groups follow it than it has.
pub first_run : (groups : List ℕ) (place count : ℕ) → length groups ≡ 8 → ((k : ℕ) → k < place → zeros_ahead (drop k groups) ≡ 0) →
    zeros_ahead (drop place groups) ≡ count → 0 < count → 8 ≤ place + 2 * count
    → ◌≡◌ {A = ZeroGroups} (record { place = place; count = count }) (longest_zeros groups)
first_run groups place count eight before zeros some many = one_run groups (record { place = place; count = count }) (longest_zeros groups)
    (record { zeros = zeros; longest = longest; first = first }) (is_first_longest groups)
  where
    first : (k : ℕ) → k < place → zeros_ahead (drop k groups) < count
    first k less = let none = before k less in omega (arith, none, some)

    within : (k : ℕ) → place ≤ k → k ≤ place + count → zeros_ahead (drop k groups) ≤ count
    within k more less =
        let at : drop (k - place) (drop place groups) ≡ drop k groups = drop-drop (k - place) place groups ∙
        ap (λ (n : ℕ). drop n groups) (omega (arith, more)) in
        let fewer = not_more (drop place groups) (k - place) (omega (arith, zeros, less)) in
        rw (← at) (omega (arith, fewer, zeros))

    behind : (k : ℕ) → place + count < k → zeros_ahead (drop k groups) ≤ count
    behind k more =
        let few = zeros_within (drop k groups) in
        let left = length-drop k groups in
        omega (arith, few, left, eight, more, many)

    longest : (k : ℕ) → zeros_ahead (drop k groups) ≤ count
    longest k =
        elim (cases_lt k place) [
          | inl less ↦ let fewer = first k less in omega (arith, fewer)
          | inr more ↦ elim (cases_lt (place + count) k) [
            | inl past ↦ behind k past
            | inr less ↦ within k more less
          ]
        ]
