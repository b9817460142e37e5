-- The keys of numbers, among the items of an ordered set in which no number stands twice.
use Rattle.mq_held.proofs.Common.{ℕ, suc, ◌<◌, ◌≤◌, ◌≡◌, ◌==◌, Bool, true, false, cond, refl, List, [], ◌∷◌, length, get_or, sym, ap, ◌∙◌, subst, arith, ⊎_elim}
use Rattle.mq_held.proofs.Common.{list_map, filter, All, Contains, eq-eqb, true≢false, eqb_tells, get_or-map, length-map, All-head, All-tail, All-cons}
use Rattle.mq_held.proofs.Common.{list_any_at, sum_by-cons, IsAscending, set_of, NumberedKey, key_in, times, is_cell, is_cell-same, times-some}

-- the numbers of some items, and their keys
abbrev pub numbers_in : List NumberedKey → List ℕ
numbers_in items = list_map (λ x. x.number) items

abbrev pub keys_in : List NumberedKey → List ℕ
keys_in items = list_map (λ x. x.key) items

-- a test of a function's results
pub map-filter : {X Y : Type 0} (f : X → Y) (p : Y → Bool) (xs : List X) → list_map f (filter (λ x. p (f x)) xs) ≡ filter p (list_map f xs)
map-filter f p [] = refl
map-filter f p (x ∷ xs) = by_test (p (f x)) (map-filter f p xs)
  where
    by_test : (b : Bool) → list_map f (filter (λ x. p (f x)) xs) ≡ filter p (list_map f xs) →
        list_map f (cond b (x ∷ filter (λ x. p (f x)) xs) (filter (λ x. p (f x)) xs)) ≡ cond b (f x ∷ filter p (list_map f xs)) (filter p (list_map f xs))
    by_test true rest = ap (λ ys. f x ∷ ys) rest
    by_test false rest = rest

-- two tests that agree on all elements
pub filter-agree : {X : Type 0} (p q : X → Bool) (xs : List X) → All (λ x. p x ≡ q x) xs → filter p xs ≡ filter q xs
filter-agree p q [] same = refl
filter-agree p q (x ∷ xs) same =
    ap (λ b. cond b (x ∷ filter p xs) (filter p xs)) (All-head (λ x. p x ≡ q x) x xs same)
    ∙ ap (λ ys. cond (q x) (x ∷ ys) ys) (filter-agree p q xs (All-tail (λ x. p x ≡ q x) x xs same))

-- a number of some item stands among the numbers
pub times-item : (items : List NumberedKey) (n k : ℕ) (d : NumberedKey) → k < length items → (get_or items k d).number ≡ n → 1 ≤ times n (numbers_in items)
times-item items n k d within is =
    times-some (numbers_in items) n k 0 (omega (arith, within, length-map items (λ (x : NumberedKey). x.number)))
    (get_or-map (λ (x : NumberedKey). x.number) items k d 0 within ∙ is)

-- each number has the key of its item
pub key-of_item : (items : List NumberedKey) → ((n : ℕ) → times n (numbers_in items) ≤ 1) → All (λ x. key_in items x.number ≡ x.key) items
key-of_item [] once = λ k d within. absurd (omega (arith, within))
key-of_item (y ∷ items) once =
    All-cons (λ x. key_in (y ∷ items) x.number ≡ x.key) y items (rw (eq-eqb y.number y.number refl) refl)
    (λ k d within.
    let x = get_or items k d in
    ⊎_elim
    (λ same.
    absurd (omega (
      arith,
      once x.number,
      sum_by-cons (is_cell x.number) y.number (numbers_in items),
      is_cell-same x.number y.number same.1,
      times-item items x.number k d within refl,
    )))
    (λ other. rw other.0 (key-of_item items (λ n. omega (arith, once n, sum_by-cons (is_cell n) y.number (numbers_in items))) k d within))
    (eqb_tells y.number x.number))

pub number-is : (items : List NumberedKey) (n k : ℕ) (d : NumberedKey) → k < length items → (get_or items k d).number ≡ n →
    set_of (λ x. x.number) items n ≡ true
number-is items n k d within is =
    list_any_at (λ (x : NumberedKey). x.number == n) items k d within (eq-eqb (get_or items k d).number n is)

module _ (items : List NumberedKey) (once : (n : ℕ) → times n (numbers_in items) ≤ 1) where
  keys_of : (xs : List NumberedKey) → All (λ x. key_in items x.number ≡ x.key) xs → list_map (key_in items) (numbers_in xs) ≡ keys_in xs
  keys_of [] each = refl
  keys_of (x ∷ xs) each =
      ap (λ n. n ∷ list_map (key_in items) (numbers_in xs)) (All-head (λ x. key_in items x.number ≡ x.key) x xs each)
      ∙ ap (λ ns. x.key ∷ ns) (keys_of xs (All-tail (λ x. key_in items x.number ≡ x.key) x xs each))

  -- the keys of all numbers are the keys
  pub keys-by_number : list_map (key_in items) (numbers_in items) ≡ keys_in items
  keys-by_number = keys_of items (key-of_item items once)

  -- and an item that has a number has its key
  pub key-contained : (n a : ℕ) → Contains items (record { number = n; key = a }) → key_in items n ≡ a
  key-contained n a has =
      let x : NumberedKey = record { number = n; key = a } in
      let at = has.2 in
      subst (λ (y : NumberedKey). key_in items y.number ≡ y.key) at (key-of_item items once has.0 x has.1)

-- the first item with a number has this key
pub first-item : (items : List NumberedKey) (n : ℕ) → set_of (λ x. x.number) items n ≡ true → Contains items (record { number = n; key = key_in items n })
first-item [] n is = absurd (true≢false (sym is))
first-item (x ∷ items) n is =
    ⊎_elim
    (λ same.
    (0, omega arith, (λ i. record { number = same.1 i; key = at_first same.0 i })))
    (λ other.
    let rest = first-item items n (rw other.0 at is) in
    let key : key_in items n ≡ key_in (x ∷ items) n = rw other.0 refl in
    let within : suc rest.0 < length (x ∷ items) = omega (arith, rest.1) in
    subst (λ a. Contains (x ∷ items) (record { number = n; key = a })) key (suc rest.0, within, rest.2))
    (eqb_tells x.number n)
  where
    at_first : (x.number == n) ≡ true → x.key ≡ key_in (x ∷ items) n
    at_first same = rw same refl

-- the numbers are in the order of their keys
pub numbers-ascend : (items : List NumberedKey) → IsAscending (λ x. x.key) items → ((n : ℕ) → times n (numbers_in items) ≤ 1) →
    IsAscending (key_in items) (numbers_in items)
numbers-ascend items up once i j d before in_list =
    let size = length-map items (λ (x : NumberedKey). x.number) in
    let x : NumberedKey = record { number = d; key = 0 } in
    let j_in : j < length items = omega (arith, in_list, size) in
    let i_in : i < length items = omega (arith, before, j_in) in
    let at_i = key-of_item items once i x i_in in
    let at_j = key-of_item items once j x j_in in
    let above = up i j x before j_in in
    rw (get_or-map (λ (x : NumberedKey). x.number) items i x d i_in, get_or-map (λ (x : NumberedKey). x.number) items j x d j_in)
    (omega (arith, at_i, at_j, above))
