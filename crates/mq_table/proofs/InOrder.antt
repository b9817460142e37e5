-- Addresses that are looked for in their order among ascending sources that hold them all are found.
use Rattle.mq_table.proofs.Common.{◌≡◌, ℕ, min, length, ◌<◌, ◌≤◌, ◌==◌, Bool, true, false, cond, ◌||◌, List, [], ◌∷◌, drop, refl, sym, ap, ◌∙◌, inl, inr}
use Rattle.mq_table.proofs.Common.{⊎_elim, arith, list_map, All, false≢true, or_cases, or_left, eqb-true, eq-eqb, eqb_tells, All-head, All-tail, IsAscending}
use Rattle.mq_table.proofs.Common.{set_of, IsAscending-head, IsAscending-tail, below-eqb, Source, number_in, is_first}

-- a member of a list whose items are above a number is above it
member_above : {X : Type 0} (number : X → ℕ) (n s : ℕ) (xs : List X) → All (λ x. n < number x) xs → set_of number xs s ≡ true → n < s
member_above number n s [] above is = absurd (false≢true is)
member_above number n s (x ∷ xs) above is =
    let P = λ (x : _). n < number x in
    let first : n < number x = All-head P x xs above in
    elim (or_cases (number x == s) (set_of number xs s) is) [
      | inl here ↦ omega (arith, first, eqb-true (number x) s here)
      | inr later ↦ member_above number n s xs (All-tail P x xs above) later
    ]

not_below : {X : Type 0} (number : X → ℕ) (n : ℕ) (xs : List X) → All (λ x. n < number x) xs → set_of number xs n ≡ false
not_below number n xs above = by_test (set_of number xs n) refl
  where
    by_test : (b : Bool) → set_of number xs n ≡ b → b ≡ false
    by_test true is = absurd (omega (arith, member_above number n n xs above is))
    by_test false is = refl

-- sources that hold an address are some
pub some_held : {K : Type 0} (number : K → ℕ) (qs : List K) (xs : List (Source K)) →
    ((s : ℕ) → set_of number qs s ≡ true → set_of (number_in number) xs s ≡ true) → min 1 (length qs) ≤ length xs
some_held number [] xs held = omega arith
some_held number (q ∷ qs) [] held = absurd (false≢true (held (number q) (or_left (number q == number q) _ (eq-eqb (number q) (number q) refl))))
some_held number (q ∷ qs) (x ∷ xs) held = omega arith

module _ {K : Type 0} (number : K → ℕ) where
  -- source by source, the test whether the first of the addresses ahead is its own; a found address is passed
  abbrev pub found_in_order : List K → List (Source K) → List Bool
  found_in_order qs [] = []
  found_in_order qs (x ∷ xs) = is_first number qs (number x.address) ∷ found_in_order (cond (is_first number qs (number x.address)) (drop 1 qs) qs) xs

  abbrev pub are_asked : List K → List (Source K) → List Bool
  are_asked qs xs = list_map (λ (x : Source K). set_of number qs (number x.address)) xs

  -- an address below all sources makes no difference to them
  behind_first : (q : K) (qs : List K) (xs : List (Source K)) → All (λ x. number q < number_in number x) xs → are_asked qs xs ≡ are_asked (q ∷ qs) xs
  behind_first q qs [] above = refl
  behind_first q qs (x ∷ xs) above =
      let P : Source K → Type 0 = λ x. number q < number_in number x in
      let first : number q < number x.address = All-head P x xs above in
      let rest = behind_first q qs xs (All-tail P x xs above) in
      rw (below-eqb (number q) (number x.address) first) (ap (λ ys. set_of number qs (number x.address) ∷ ys) rest)

  none_asked : (xs : List (Source K)) → found_in_order [] xs ≡ are_asked [] xs
  none_asked [] = refl
  none_asked (x ∷ xs) = ap (λ ys. false ∷ ys) (none_asked xs)

  pub in_order : (xs : List (Source K)) (qs : List K) → IsAscending number qs → IsAscending (number_in number) xs →
      ((s : ℕ) → set_of number qs s ≡ true → set_of (number_in number) xs s ≡ true) → found_in_order qs xs ≡ are_asked qs xs
  in_order [] qs up_qs up_xs held = refl
  in_order (x ∷ xs) [] up_qs up_xs held = none_asked (x ∷ xs)
  in_order (x ∷ xs) (q ∷ qs) up_qs up_xs held =
      ⊎_elim
      (λ (same : ((number q == number x.address) ≡ true) × (number q ≡ number x.address)). rw same.0
      (ap (λ ys. true ∷ ys)
      (in_order xs qs (IsAscending-tail number q qs up_qs) (IsAscending-tail (number_in number) x xs up_xs)
      (λ s is. passed s is (omega (arith, member_above number (number q) s qs (IsAscending-head number q qs up_qs) is, same.1)))
      ∙ behind_first q qs xs (from_same same.1))))
      (λ (other : ((number q == number x.address) ≡ false) × ¬ (number q ≡ number x.address)).
      let ahead : number x.address < number q = later other.0 in
      rw (other.0, not_in_rest ahead)
      (ap (λ ys. false ∷ ys) (in_order xs (q ∷ qs) up_qs (IsAscending-tail (number_in number) x xs up_xs) (λ s is. behind s is (ahead_of ahead s is)))))
      (eqb_tells (number q) (number x.address))
    where
      from_same : number q ≡ number x.address → All (λ y. number q < number_in number y) xs
      from_same is k d within = omega (arith, is, IsAscending-head (number_in number) x xs up_xs k d within)

      behind : (s : ℕ) → set_of number (q ∷ qs) s ≡ true → number x.address < s → set_of (number_in number) xs s ≡ true
      behind s is above = rw (below-eqb (number x.address) s above) at (held s is)

      passed : (s : ℕ) → set_of number qs s ≡ true → number x.address < s → set_of (number_in number) xs s ≡ true
      passed s is above = behind s (or_right_of (number q == s) is) above
        where
          or_right_of : (b : Bool) {c : Bool} → c ≡ true → (b || c) ≡ true
          or_right_of true is = refl
          or_right_of false is = is

      later : (number q == number x.address) ≡ false → number x.address < number q
      later other = elim (or_cases (number x.address == number q) (set_of (number_in number) xs (number q))
          (held (number q) (rw (eq-eqb (number q) (number q) refl) refl))) [
            | inl here ↦ absurd (false≢true (sym other ∙ eq-eqb (number q) (number x.address) (sym (eqb-true (number x.address) (number q) here))))
            | inr found ↦ member_above (number_in number) (number x.address) (number q) xs (IsAscending-head (number_in number) x xs up_xs) found
          ]

      above_rest : number x.address < number q → All (λ y. number x.address < number y) qs
      above_rest ahead k d within = omega (arith, ahead, IsAscending-head number q qs up_qs k d within)

      not_in_rest : number x.address < number q → set_of number qs (number x.address) ≡ false
      not_in_rest ahead = not_below number (number x.address) qs (above_rest ahead)

      ahead_of : number x.address < number q → (s : ℕ) → set_of number (q ∷ qs) s ≡ true → number x.address < s
      ahead_of ahead s is = elim (or_cases (number q == s) (set_of number qs s) is) [
        | inl here ↦ omega (arith, ahead, eqb-true (number q) s here)
        | inr found ↦ member_above number (number x.address) s qs (above_rest ahead) found
      ]

  -- one source on: whether it is asked for, and what is ahead then
  pub one_on : (asked qs : List K) (x : Source K) (rest xs : List (Source K)) (first : Bool) → xs ≡ x ∷ rest → is_first number qs (number x.address)
      ≡ first → found_in_order qs xs ≡ are_asked asked xs
      → (set_of number asked (number x.address) ≡ first) × (found_in_order (cond first (drop 1 qs) qs) rest ≡ are_asked asked rest)
  one_on asked qs x rest xs first is is_first ahead =
      let both : first ∷ found_in_order (cond first (drop 1 qs) qs) rest ≡ are_asked asked (x ∷ rest) = rw is_first at (rw is at ahead) in
      (cc, cc)
