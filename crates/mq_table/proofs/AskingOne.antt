-- Asking for one source of a list.
use Rattle.mq_table.proofs.Common.{◌≡◌, ℕ, zero, suc, ◌<◌, ◌==◌, Bool, true, false, cond, ◌||◌, ◌&&◌, List, [], ◌∷◌, length, set, get_or, Some, refl, sym, ap}
use Rattle.mq_table.proofs.Common.{◌∙◌, arith, list_map, All, list_any, or-false, ne_eqb, eqb-false, eq-eqb, All-head, All-tail, IsAscending, set_of}
use Rattle.mq_table.proofs.Common.{IsAscending-tail, Source, is_ahead, deadline_of, Running, source_if_asked, is_asked_above, number_in}
use Rattle.mq_table.{specs.Retransmissions.source_asked, proofs.Asking.above_is_lowered, proofs.Asking.made_at, proofs.Places.or_none}

-- a function that leaves all items but that of a number, and a test that no other passes
module _ {X : Type 0} (number : X → ℕ) (n : ℕ) (f : X → X) (p : X → Bool) (alone : (x : X) → (number x ≡ n → ⊥) → (f x ≡ x) × (p x ≡ false)) where
  others_stay : (xs : List X) → All (λ x. number x ≡ n → ⊥) xs → (list_map f xs ≡ xs) × (list_any p xs ≡ false)
  others_stay [] others = (refl, refl)
  others_stay (x ∷ xs) others =
      let P : X → Type 0 = λ x. number x ≡ n → ⊥ in
      let first = alone x (All-head P x xs others) in
      let rest = others_stay xs (All-tail P x xs others) in
      (λ i. first.0 i ∷ rest.0 i, λ i. first.1 i || rest.1 i)

  pub absent_stays : (xs : List X) → set_of number xs n ≡ false → (list_map f xs ≡ xs) × (list_any p xs ≡ false)
  absent_stays [] absent = (refl, refl)
  absent_stays (x ∷ xs) absent =
      let parts = or_none (number x == n) (set_of number xs n) absent in
      let first = alone x (eqb-false (number x) n parts.0) in
      let rest = absent_stays xs parts.1 in
      (λ i. first.0 i ∷ rest.0 i, λ i. first.1 i || rest.1 i)

  pub one_changes : (xs : List X) (i : ℕ) (d : X) → IsAscending number xs → i < length xs → number (get_or xs i d) ≡ n →
      (set xs i (f (get_or xs i d)) ≡ list_map f xs) × (list_any p xs ≡ p (get_or xs i d))
  one_changes [] i d up within is = absurd (omega arith)
  one_changes (x ∷ xs) zero d up within is =
      let rest = others_stay xs (λ k e in_list same. omega (arith, up 0 (suc k) e (omega arith) (omega arith), is, same)) in
      (ap (λ ys. f x ∷ ys) (sym rest.0), ap (λ b. p x || b) rest.1 ∙ or-false (p x))
  one_changes (x ∷ xs) (suc i) d up within is =
      let above : number x < number (get_or xs i d) = up 0 (suc i) d (omega arith) within in
      let first = alone x (λ same. omega (arith, above, is, same)) in
      let rest = one_changes xs i d (IsAscending-tail number x xs up) (omega arith) is in
      (ap (λ y. y ∷ set xs i (f (get_or xs i d))) (sym first.0) ∙ ap (λ ys. f x ∷ ys) rest.0, ap (λ b. b || list_any p xs) first.1 ∙ rest.1)

-- a list of sources once one address is asked for, and the test of its timer for the limit
module _ {K : Type 0} (number : K → ℕ) (limit count : ℕ) (q : K) where
  abbrev made : Source K → Source K
  made = source_if_asked number limit count (set_of number (q ∷ []))

  abbrev test : Source K → Bool
  test = is_asked_above number limit (set_of number (q ∷ []))

  alone : (x : Source K) → (number_in number x ≡ number q → ⊥) → (made x ≡ x) × (test x ≡ false)
  alone x other = grind (arith, ne_eqb)

  pub asked_absent : (xs : List (Source K)) → set_of (number_in number) xs (number q) ≡ false → (xs ≡ list_map made xs) × (false ≡ list_any test xs)
  asked_absent xs absent = let stay = absent_stays (number_in number) (number q) made test alone xs absent in (sym stay.0, sym stay.1)

  pub asked_found : (xs : List (Source K)) (place : ℕ) (held : Source K) (is_above : Bool) → IsAscending (number_in number) xs → place < length xs →
      held ≡ get_or xs place held → number held.address ≡ number q → is_above ≡ is_ahead limit (deadline_of (Some held.timer))
      → (set xs place (made_at limit count true is_above held) ≡ list_map made xs) × (is_above ≡ list_any test xs)
  asked_found xs place held is_above up within is_held is above =
      let found : number_in number (get_or xs place held) ≡ number q = ap (number_in number) (sym is_held) ∙ is in
      let change = one_changes (number_in number) (number q) made test alone xs place held up within found in
      let same : (number q == number held.address) ≡ true = eq-eqb (number q) (number held.address) (sym is) in
      let lowered : made held ≡ made_at limit count true is_above held =
      ap (λ b. record { address = held.address; timer = cond (b || false) (source_asked limit count held.timer) held.timer }) same
      ∙ ap (λ t. record { address = held.address; timer = t })
      (above_is_lowered limit count held.timer ∙ ap (λ b. cond b (Running limit count) held.timer) (sym above)) in
      let tested : test held ≡ is_above = ap (λ b. (b || false) && is_ahead limit (deadline_of (Some held.timer))) same ∙ sym above in
      (ap (set xs place) (sym lowered ∙ ap made is_held) ∙ change.0, sym tested ∙ ap test is_held ∙ sym change.1)
