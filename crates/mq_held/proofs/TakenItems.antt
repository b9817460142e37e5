-- Items of numbers that are taken out of an order: what is left of the items.
use Rattle.mq_held.proofs.Common.{ℕ, zero, suc, ◌+◌, ◌<◌, ◌≤◌, ◌≡◌, ◌==◌, Bool, true, false, not, cond, ◌&&◌, ◌||◌, refl, List, [], ◌∷◌, ◌++◌, length, get_or}
use Rattle.mq_held.proofs.Common.{take, sym, ap, ◌∙◌, subst, arith, ⊎_elim, filter, All, Contains, remove, sum_by, eq-eqb, eqb-true, eqb_tells, get_or_default}
use Rattle.mq_held.proofs.Common.{take_more, All-head, All-tail, All-filter, list_any-append, list_any_none, list_any_at, sum_by-cons, sum_by_more_le}
use Rattle.mq_held.proofs.Common.{length-filter, count_by-le-length, any-filter_same, set_of, NumberedKey, IsWithout, items_by, times, filter-all, is_cell}
use Rattle.mq_held.proofs.Common.{is_cell-same, times-some, stands}
use Rattle.mq_held.proofs.{KeysByNumber.numbers_in, KeysByNumber.filter-agree, KeysByNumber.times-item, OrderedAmounts.times-filter}

-- true exactly if a number stands in a list
abbrev pub is_among : List ℕ → ℕ → Bool
is_among ns n = set_of (λ m. m) ns n

pub among-none : (ns : List ℕ) (n : ℕ) → times n ns ≡ 0 → is_among ns n ≡ false
among-none ns n none =
    list_any_none (λ m. m == n) ns (λ k d within.
    ⊎_elim
    (λ same. absurd (omega (arith, none, times-some ns n k d within same.1)))
    (λ other. other.0)
    (eqb_tells (get_or ns k d) n))

pub among-some : (ns : List ℕ) (n : ℕ) → 1 ≤ times n ns → is_among ns n ≡ true
among-some ns n some =
    let at = stands ns n some in
    list_any_at (λ m. m == n) ns at.0 0 at.1 (eq-eqb (get_or ns at.0 0) n at.2)

-- two filters one after the other
pub filter-filter : {X : Type 0} (p q : X → Bool) (xs : List X) → filter p (filter q xs) ≡ filter (λ x. q x && p x) xs
filter-filter p q [] = refl
filter-filter p q (x ∷ xs) = by_tests (q x) (p x) refl (filter-filter p q xs)
  where
    by_tests : (b c : Bool) → p x ≡ c → filter p (filter q xs) ≡ filter (λ x. q x && p x) xs
        → filter p (cond b (x ∷ filter q xs) (filter q xs)) ≡ cond (b && c) (x ∷ filter (λ x. q x && p x) xs) (filter (λ x. q x && p x) xs)
    by_tests true true is rest = rw is (ap (λ ys. x ∷ ys) rest)
    by_tests true false is rest = rw is rest
    by_tests false c is rest = rest

-- an item that is taken out by its number
without-at : (items : List NumberedKey) (n k : ℕ) (d : NumberedKey) → k < length items → ((m : ℕ) → times m (numbers_in items) ≤ 1) →
    (get_or items k d).number ≡ n
    → remove items k ≡ filter (λ x. not (n == x.number)) items
without-at [] n k d within once is = absurd (omega (arith, within))
without-at (x ∷ items) n zero d within once is =
    let others : All (λ (y : NumberedKey). not (n == y.number) ≡ true) items =
    λ j e in_list. ⊎_elim
    (λ same. absurd (omega (
      arith,
      once n,
      sum_by-cons (is_cell n) x.number (numbers_in items),
      is_cell-same n x.number is,
      times-item items n j e in_list (sym same.1),
    )))
    (λ other. ap not other.0)
    (eqb_tells n (get_or items j e).number) in
    sym (rw (eq-eqb n x.number (sym is)) (filter-all (λ (y : NumberedKey). not (n == y.number)) items others))
without-at (x ∷ items) n (suc k) d within once is =
    let inside : k < length items = omega (arith, within) in
    let rest = without-at items n k d inside (λ m. omega (arith, once m, sum_by-cons (is_cell m) x.number (numbers_in items))) is in
    ⊎_elim
    (λ same. absurd (omega (
      arith,
      once n,
      sum_by-cons (is_cell n) x.number (numbers_in items),
      is_cell-same n x.number (sym same.1),
      times-item items n k d inside is,
    )))
    (λ other. ap (λ ys. x ∷ ys) rest ∙
    sym (ap (λ b. cond (not b) (x ∷ filter (λ (y : NumberedKey). not (n == y.number)) items)
    (filter (λ (y : NumberedKey). not (n == y.number)) items)) other.0))
    (eqb_tells n x.number)

pub without-is : (old new : List NumberedKey) (n : ℕ) → ((m : ℕ) → times m (numbers_in old) ≤ 1) → IsWithout old new n →
    new ≡ filter (λ x. not (n == x.number)) old
without-is old new n once gone =
    let d : NumberedKey = record { number = n; key = 0 } in
    gone.rest ∙ without-at old n gone.rank d gone.there once (gone.is d)

-- the items left once one more number is removed
pub left-more : (items old new : List NumberedKey) (ns : List ℕ) (i n : ℕ) → i < length ns → n ≡ get_or ns i n →
    old ≡ filter (λ x. not (is_among (take i ns) x.number)) items
    → new ≡ filter (λ x. not (n == x.number)) old → new ≡ filter (λ x. not (is_among (take (i + 1) ns) x.number)) items
left-more items old new ns i n within here was is =
    is
    ∙ ap (filter (λ (x : NumberedKey). not (n == x.number))) was
    ∙ filter-filter (λ (x : NumberedKey). not (n == x.number)) (λ (x : NumberedKey). not (is_among (take i ns) x.number)) items
    ∙ filter-agree (λ (x : NumberedKey). not (is_among (take i ns) x.number) && not (n == x.number))
    (λ (x : NumberedKey). not (is_among (take (i + 1) ns) x.number)) items
    (λ k d in_list. tests (get_or items k d).number)
  where
    both : (a b : Bool) → (not a && not b) ≡ not (a || (b || false))
    both true b = refl
    both false true = refl
    both false false = refl

    tests : (m : ℕ) → (not (is_among (take i ns) m) && not (n == m)) ≡ not (is_among (take (i + 1) ns) m)
    tests m =
        both (is_among (take i ns) m) (n == m)
        ∙ ap not (sym (ap (λ xs. is_among xs m) (take_more ns i n within ∙ ap (λ x. take i ns ++ x ∷ []) (sym here)) ∙
        list_any-append (λ x. x == m) (take i ns) (n ∷ [])))

-- the next number is still there
pub still-there : (items old : List NumberedKey) (ns : List ℕ) (i n : ℕ) → i < length ns → n ≡ get_or ns i n → ((m : ℕ) → times m ns ≤ 1) →
    old ≡ filter (λ x. not (is_among (take i ns) x.number)) items
    → set_of (λ x. x.number) items n ≡ true → set_of (λ x. x.number) old n ≡ true
still-there items old ns i n within here once was held =
    let earlier : times n (take i ns) ≡ 0 = omega (arith, once n, sum_by_more_le (is_cell n) ns i n within, is_cell-same n (get_or ns i n) (sym here)) in
    let absent = among-none (take i ns) n earlier in
    ap (λ xs. set_of (λ (x : NumberedKey). x.number) xs n) was
    ∙ any-filter_same (λ (x : NumberedKey). x.number == n) (λ (x : NumberedKey). not (is_among (take i ns) x.number)) true
    (λ x same. ap (λ m. not (is_among (take i ns) m)) (eqb-true x.number n same) ∙ ap not absent) items
    ∙ held

pub length-left : (p : NumberedKey → Bool) (items : List NumberedKey) {left : List NumberedKey} → left ≡ filter p items → length left ≤ length items
length-left p items is = omega (arith, ap length is, length-filter p items, count_by-le-length p items)

pub length-vacant : (p : ℕ → Bool) (ns : List ℕ) {left : List ℕ} → left ≡ filter p ns → length left ≤ length ns
length-vacant p ns is = omega (arith, ap length is, length-filter p ns, count_by-le-length p ns)

-- each of fewer numbers still stands at most once
pub fewer-once : (p : ℕ → Bool) (ns : List ℕ) → ((m : ℕ) → times m ns ≤ 1) → (n : ℕ) → times n (filter p ns) ≤ 1
fewer-once p ns once n = omega (arith, times-filter p n ns, once n, part (p n))
  where
    part : (b : Bool) → cond b (times n ns) 0 ≤ times n ns
    part true = omega arith
    part false = omega arith

-- the items of some numbers that are left
pub items-left : (f : ℕ → ℕ) (p : ℕ → Bool) (items : List NumberedKey) → All (λ x. f x.number ≡ x.key) items →
    items_by f (filter p (numbers_in items)) ≡ filter (λ x. p x.number) items
items-left f p [] keys = refl
items-left f p (x ∷ items) keys = by_test (p x.number) (items-left f p items (All-tail (λ (x : NumberedKey). f x.number ≡ x.key) x items keys))
  where
    by_test : (b : Bool) → items_by f (filter p (numbers_in items)) ≡ filter (λ x. p x.number) items
        → items_by f (cond b (x.number ∷ filter p (numbers_in items)) (filter p (numbers_in items))) ≡ cond b (x ∷ filter (λ x. p x.number) items)
        (filter (λ x. p x.number) items)
    by_test true rest =
        let key : f x.number ≡ x.key = All-head (λ (x : NumberedKey). f x.number ≡ x.key) x items keys in
        ap (λ k. record { number = x.number; key = k } ∷ items_by f (filter p (numbers_in items))) key ∙ ap (λ ys. x ∷ ys) rest
    by_test false rest = rest

-- the items left are among the items
pub contains-filter : (p : NumberedKey → Bool) (items : List NumberedKey) (x : NumberedKey) → Contains (filter p items) x → Contains items x
contains-filter p items x has =
    subst (Contains items) has.2
    (All-filter p (Contains items) items (λ k d within. (k, within, get_or_default items k (get_or items k d) d within)) has.0 x has.1)

-- a sum over what is left, where nothing else adds to it
pub sum-left : {X : Type 0} (w : X → ℕ) (p : X → Bool) (xs : List X) → All (λ x. p x ≡ false → w x ≡ 0) xs → sum_by w (filter p xs) ≡ sum_by w xs
sum-left w p [] nothing = refl
sum-left w p (x ∷ xs) nothing = by_test (p x) refl (sum-left w p xs (All-tail (λ x. p x ≡ false → w x ≡ 0) x xs nothing))
  where
    by_test : (b : Bool) → p x ≡ b → sum_by w (filter p xs) ≡ sum_by w xs → sum_by w (cond b (x ∷ filter p xs) (filter p xs)) ≡ sum_by w (x ∷ xs)
    by_test true is rest = omega (arith, rest, sum_by-cons w x (filter p xs), sum_by-cons w x xs)
    by_test false is rest =
        let none : w x ≡ 0 = All-head (λ x. p x ≡ false → w x ≡ 0) x xs nothing is in
        omega (arith, rest, none, sum_by-cons w x xs)
