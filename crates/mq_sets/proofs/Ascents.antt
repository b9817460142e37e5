-- Ascending lists, taken apart and put together, and what a number finds in them.
use Rattle.mq_sets.proofs.Common.{ℕ, suc, ◌<◌, ◌≤◌, ◌≡◌, Bool, true, false, ◌==◌, arith, refl, List, [], ◌∷◌, ◌++◌, map, None, ap, ⊎_elim, All, filter}
use Rattle.mq_sets.proofs.Common.{eqb_tells, All-head, All-tail, All-append, All-map, All-weaker, AllPairs-cons, IsAscending, item_with}

-- two numbers, one below the other, do not test as equal
pub below-eqb : (a b : ℕ) → a < b → (a == b) ≡ false
below-eqb a b below = ⊎_elim (λ same. absurd (omega (arith, same.1))) (λ other. other.0) (eqb_tells a b)

pub above-eqb : (a b : ℕ) → b < a → (a == b) ≡ false
above-eqb a b above = ⊎_elim (λ same. absurd (omega (arith, same.1))) (λ other. other.0) (eqb_tells a b)

module _ {X : Type 0} (number : X → ℕ) where
  -- the items behind the first are ascending
  pub IsAscending-tail : (x : X) (xs : List X) → IsAscending number (x ∷ xs) → IsAscending number xs
  IsAscending-tail x xs up i j d before in_list = up (suc i) (suc j) d (omega arith) (omega arith)

  -- and above the first
  pub IsAscending-head : (x : X) (xs : List X) → IsAscending number (x ∷ xs) → All (λ y. number x < number y) xs
  IsAscending-head x xs up k d in_list = up 0 (suc k) d (omega arith) (omega arith)

  pub IsAscending-cons : (x : X) (xs : List X) → All (λ y. number x < number y) xs → IsAscending number xs → IsAscending number (x ∷ xs)
  IsAscending-cons x xs above up = AllPairs-cons (λ x y. number x < number y) x xs above up

  -- two ascending lists, one after the other
  pub IsAscending-append : (t : ℕ) (xs ys : List X) → IsAscending number xs → IsAscending number ys → All (λ x. number x < t) xs →
      All (λ y. t ≤ number y) ys → IsAscending number (xs ++ ys)
  IsAscending-append t [] ys up_xs up_ys below above = up_ys
  IsAscending-append t (x ∷ xs) ys up_xs up_ys below above =
      let rest = IsAscending-append t xs ys (IsAscending-tail x xs up_xs) up_ys (All-tail (λ x. number x < t) x xs below) above in
      let low : number x < t = All-head (λ x. number x < t) x xs below in
      let behind = All-weaker (λ y. t ≤ number y) (λ y. number x < number y) (λ y h. omega arith) ys above in
      IsAscending-cons x (xs ++ ys) (All-append (λ y. number x < number y) xs ys (IsAscending-head x xs up_xs) behind) rest

  -- an item that each number of the list differs from is not found
  pub item_with-none : (xs : List X) (n : ℕ) → All (λ x. (number x == n) ≡ false) xs → item_with number xs n ≡ None
  item_with-none [] n differ = refl
  item_with-none (x ∷ xs) n differ =
      let P : X → Type 0 = λ x. (number x == n) ≡ false in
      rw (All-head P x xs differ) (item_with-none xs n (All-tail P x xs differ))

  pub item_with-above : (xs : List X) (n : ℕ) → All (λ x. n < number x) xs → item_with number xs n ≡ None
  item_with-above xs n above =
      item_with-none xs n (All-weaker (λ x. n < number x) (λ x. (number x == n) ≡ false) (λ x h. above-eqb (number x) n h) xs above)

-- a map that keeps the numbers keeps the order
pub IsAscending-map : {X Y : Type 0} (number : Y → ℕ) (f : X → Y) (xs : List X) → IsAscending (λ x. number (f x)) xs → IsAscending number (map f xs)
IsAscending-map number f [] up = λ i j d before in_list. absurd (omega arith)
IsAscending-map number f (x ∷ xs) up =
    let P = λ (x : _). number (f x) in
    IsAscending-cons number (f x) (map f xs)
    (All-map (λ y. number (f x) < number y) f xs (IsAscending-head (λ x. number (f x)) x xs up))
    (IsAscending-map number f xs (IsAscending-tail (λ x. number (f x)) x xs up))

-- a filter that no item passes, and a filter that each passes
pub filter-none : {X : Type 0} (p : X → Bool) (xs : List X) → All (λ x. p x ≡ false) xs → filter p xs ≡ []
filter-none p [] none = refl
filter-none p (x ∷ xs) none =
    rw (All-head (λ x. p x ≡ false) x xs none) (filter-none p xs (All-tail (λ x. p x ≡ false) x xs none))

pub filter-all : {X : Type 0} (p : X → Bool) (xs : List X) → All (λ x. p x ≡ true) xs → filter p xs ≡ xs
filter-all p [] all = refl
filter-all p (x ∷ xs) all =
    rw (All-head (λ x. p x ≡ true) x xs all) (ap (λ ys. x ∷ ys) (filter-all p xs (All-tail (λ x. p x ≡ true) x xs all)))

-- the items behind the first of a list that is known by an equation
pub IsAscending-rest : {X : Type 0} (number : X → ℕ) (x : X) (xs ys : List X) → ys ≡ x ∷ xs → IsAscending number ys → IsAscending number xs
IsAscending-rest number x xs ys is up = IsAscending-tail number x xs (rw is at up)
