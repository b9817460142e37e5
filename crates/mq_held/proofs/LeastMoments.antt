-- The earliest of some moments.
use Rattle.mq_held.proofs.Common.{◌≡◌, ℕ, zero, suc, ◌<◌, length, get_or, ◌≤◌, min, Bool, true, ◌||◌, refl, List, [], ◌∷◌, ◌++◌, Some, sym, ap, ◌∙◌, arith}
use Rattle.mq_held.proofs.Common.{nat_le, option_to_list, All, list_any, or-false, All-head, All-tail, nat_tests, least, earliest_of, min_or}

pub least-append : (n : ℕ) (xs ys : List ℕ) → least n (xs ++ ys) ≡ least (least n ys) xs
least-append n [] ys = refl
least-append n (x ∷ xs) ys = ap (min x) (least-append n xs ys)

-- the least of a number and some moments, by the earliest of these
pub least-min : (n m : ℕ) (xs : List ℕ) → least (min n m) xs ≡ min n (least m xs)
least-min n m [] = refl
least-min n m (x ∷ xs) = ap (min x) (least-min n m xs) ∙ turned x n (least m xs)
  where
    turned : (a b c : ℕ) → min a (min b c) ≡ min b (min a c)
    turned a b c = omega arith

pub least-earliest : (n : ℕ) (xs : List ℕ) → least n xs ≡ min_or n (earliest_of xs)
least-earliest n [] = refl
least-earliest n (x ∷ xs) = by_min n x xs
  where
    by_min : (n x : ℕ) (xs : List ℕ) → min x (least n xs) ≡ min n (least x xs)
    by_min n x [] = omega arith
    by_min n x (y ∷ ys) =
        let rest = by_min n x ys in
        omega (arith, rest)

-- the earliest of the earliest of some and others
pub earliest-join : (xs ys : List ℕ) → earliest_of (option_to_list (earliest_of xs) ++ ys) ≡ earliest_of (xs ++ ys)
earliest-join [] ys = refl
earliest-join (x ∷ xs) ys = ap Some (swap x xs ys)
  where
    swap : (x : ℕ) (xs ys : List ℕ) → least (least x xs) ys ≡ least x (xs ++ ys)
    swap x [] ys = refl
    swap x (z ∷ xs) ys = least-min z (least x xs) ys ∙ ap (min z) (swap x xs ys)

pub earliest-join_right : (xs ys : List ℕ) → earliest_of (xs ++ option_to_list (earliest_of ys)) ≡ earliest_of (xs ++ ys)
earliest-join_right xs [] = refl
earliest-join_right [] (y ∷ ys) = refl
earliest-join_right (x ∷ xs) (y ∷ ys) =
    ap Some (least-append x xs (least y ys ∷ []) ∙ ap (λ n. least n xs) (turned x y ys) ∙ sym (least-append x xs (y ∷ ys)))
  where
    turned : (x y : ℕ) (ys : List ℕ) → min (least y ys) x ≡ min y (least x ys)
    turned x y [] = omega arith
    turned x y (z ∷ ys) =
        let rest = turned x y ys in
        omega (arith, rest)

-- some moment is at or before another where the earliest is
pub due-earliest : (now : ℕ) (xs : List ℕ) (d : ℕ) → earliest_of xs ≡ Some d → list_any (λ t. nat_le t now) xs ≡ nat_le d now
due-earliest now [] d is = cc
due-earliest now (x ∷ xs) d is =
    let e : least x xs ≡ d = cc in
    by_least x xs ∙ ap (λ n. nat_le n now) e
  where
    or_min : (a b : ℕ) → (nat_le a now || nat_le b now) ≡ nat_le (min a b) now
    or_min a b = grind (arith, nat_tests)

    by_least : (x : ℕ) (xs : List ℕ) → (nat_le x now || list_any (λ t. nat_le t now) xs) ≡ nat_le (least x xs) now
    by_least x [] = or-false (nat_le x now)
    by_least x (y ∷ ys) = or_turned (nat_le x now) (nat_le y now) (list_any (λ t. nat_le t now) ys) ∙ ap (λ b. nat_le y now || b) (by_least x ys) ∙
        or_min y (least x ys)
      where
        or_turned : (a b c : Bool) → (a || (b || c)) ≡ (b || (a || c))
        or_turned true true c = refl
        or_turned _ _ c = refl

below-all : (d n : ℕ) (ds : List ℕ) → All (λ deadline. d ≤ deadline) ds → min d (least n ds) ≡ min d n
below-all d n [] below = refl
below-all d n (x ∷ ds) below =
    let rest = below-all d n ds (All-tail (λ deadline. d ≤ deadline) x ds below) in
    let first : d ≤ x = All-head (λ deadline. d ≤ deadline) x ds below in
    omega (arith, rest, first)

-- the least of a number and some moments, if one moment is at or before the others
pub least-bounds : (n : ℕ) (ds : List ℕ) (d k : ℕ) → k < length ds → get_or ds k d ≡ d → All (λ deadline. d ≤ deadline) ds → least n ds ≡ min n d
least-bounds n [] d k within is below = absurd (omega arith)
least-bounds n (x ∷ ds) d zero within is below =
    let rest = below-all d n ds (All-tail (λ deadline. d ≤ deadline) x ds below) in
    omega (arith, rest, is)
least-bounds n (x ∷ ds) d (suc k) within is below =
    let rest = least-bounds n ds d k (omega arith) is (All-tail (λ deadline. d ≤ deadline) x ds below) in
    let first : d ≤ x = All-head (λ deadline. d ≤ deadline) x ds below in
    omega (arith, rest, first)
