-- The one ascending list of a set.
use Rattle.mq_sets.proofs.Common.{ℕ, ◌<◌, ◌≤◌, ◌≡◌, true, false, ◌==◌, arith, refl, List, [], ◌∷◌, sym, ◌∙◌, ⊎_elim, All, cases_lt, eq-eqb, false≢true}
use Rattle.mq_sets.proofs.Common.{eqb_tells, All-weaker, All-cons, list_any_none, IsAscending, set_of, KnownBySet}
use Rattle.mq_sets.proofs.Ascents.{IsAscending-head, IsAscending-tail, above-eqb}

module _ {X : Type 0} (number : X → ℕ) where
  -- a number below all items is not in the set
  set_of-above : (xs : List X) (n : ℕ) → All (λ x. n < number x) xs → set_of number xs n ≡ false
  set_of-above xs n above =
      list_any_none (λ x. number x == n) xs (All-weaker (λ x. n < number x) (λ x. (number x == n) ≡ false) (λ x h. above-eqb (number x) n h) xs above)

  -- the first item's number is in the set
  set_of-first : (x : X) (xs : List X) → set_of number (x ∷ xs) (number x) ≡ true
  set_of-first x xs = rw (eq-eqb (number x) (number x) refl) refl

  -- the first items of two lists of one set: neither is below the other
  not_below : (x : X) (xs : List X) (y : X) (ys : List X) → IsAscending number (y ∷ ys) →
      ((n : ℕ) → set_of number (x ∷ xs) n ≡ set_of number (y ∷ ys) n) → number x < number y → ⊥
  not_below x xs y ys up same below =
      let above : All (λ z. number x < number z) (y ∷ ys) =
      All-cons (λ z. number x < number z) y ys below
      (All-weaker (λ z. number y < number z) (λ z. number x < number z) (λ z h. omega arith) ys (IsAscending-head number y ys up)) in
      false≢true (sym (set_of-above (y ∷ ys) (number x) above) ∙ sym (same (number x)) ∙ set_of-first x xs)

  same_rest : (x : X) (xs : List X) (y : X) (ys : List X) → number x ≡ number y → IsAscending number (x ∷ xs) → IsAscending number (y ∷ ys) →
      ((n : ℕ) → set_of number (x ∷ xs) n ≡ set_of number (y ∷ ys) n) → (n : ℕ) → set_of number xs n ≡ set_of number ys n
  same_rest x xs y ys first up_x up_y same n =
      ⊎_elim
      (λ is.
      let in_xs = set_of-above xs n
      (All-weaker (λ z. number x < number z) (λ z. n < number z) (λ z h. omega (arith, is.1)) xs (IsAscending-head number x xs up_x)) in
      let in_ys = set_of-above ys n
      (All-weaker (λ z. number y < number z) (λ z. n < number z) (λ z h. omega (arith, is.1)) ys (IsAscending-head number y ys up_y)) in
      in_xs ∙ sym in_ys)
      (λ other. rw (← first, other.0) at (same n))
      (eqb_tells (number x) n)

  pub known_by_set : ((a b : X) → number a ≡ number b → a ≡ b) → KnownBySet number
  known_by_set one_value [] [] up_x up_y same = refl
  known_by_set one_value [] (y ∷ ys) up_x up_y same = absurd (false≢true (same (number y) ∙ set_of-first y ys))
  known_by_set one_value (x ∷ xs) [] up_x up_y same = absurd (false≢true (sym (same (number x)) ∙ set_of-first x xs))
  known_by_set one_value (x ∷ xs) (y ∷ ys) up_x up_y same =
      ⊎_elim
      (λ (below : number x < number y). absurd (not_below x xs y ys up_y same below))
      (λ (from : number y ≤ number x).
      ⊎_elim
      (λ (above : number y < number x). absurd (not_below y ys x xs up_x (λ n. sym (same n)) above))
      (λ (upto : number x ≤ number y).
      let first : number x ≡ number y = omega arith in
      let rest = known_by_set one_value xs ys (IsAscending-tail number x xs up_x) (IsAscending-tail number y ys up_y)
      (same_rest x xs y ys first up_x up_y same) in
      rw (one_value x y first, rest) refl)
      (cases_lt (number y) (number x)))
      (cases_lt (number x) (number y))
