-- The sizes of pages, after an insert, a split and in a list of full pages.
use Rattle.mq_sets.proofs.Common.{ℕ, zero, suc, ◌+◌, ◌-◌, ◌*◌, min, refl, ⊎_elim, ◌<◌, ◌≤◌, ◌≡◌, List, [], ◌∷◌, ◌++◌, length, set, get_or, arith, sum, All}
use Rattle.mq_sets.proofs.Common.{cases_lt, sum_by-cons, All-cons, All-head, All-tail, All-nil, All-set, small_pairs, AreFilled, length-append, length-set}

-- fewer neighbours of fewer pages
pub small_pairs-tail : (x : ℕ) (xs : List ℕ) → small_pairs xs ≤ small_pairs (x ∷ xs)
small_pairs-tail x [] = omega arith
small_pairs-tail x (y ∷ xs) = omega arith

-- few pages, where neighbours are full enough
pub few_pages : (xs : List ℕ) → small_pairs xs ≡ 0 → 128 * length xs ≤ sum xs + 128
few_pages [] full = omega arith
few_pages (a ∷ []) full = omega arith
few_pages (a ∷ b ∷ xs) full =
    let tail = small_pairs-tail b xs in
    let rest = few_pages xs (omega arith) in
    omega (arith, full, rest, sum_by-cons (λ x. x) a (b ∷ xs), sum_by-cons (λ x. x) b xs)

-- two pages or more
pub two_pages : (xs : List ℕ) → small_pairs xs ≡ 0 → 2 ≤ length xs → 256 ≤ sum xs
two_pages [] full two = absurd (omega arith)
two_pages (a ∷ []) full two = absurd (omega arith)
two_pages (a ∷ b ∷ xs) full two = omega (arith, full, sum_by-cons (λ x. x) a (b ∷ xs), sum_by-cons (λ x. x) b xs)

-- a page that grows
pub small_pairs-grown : (xs : List ℕ) (i v : ℕ) → i < length xs → get_or xs i 0 ≤ v → small_pairs (set xs i v) ≤ small_pairs xs
small_pairs-grown [] i v within more = omega arith
small_pairs-grown (a ∷ []) zero v within more = omega arith
small_pairs-grown (a ∷ []) (suc i) v within more = omega arith
small_pairs-grown (a ∷ b ∷ xs) zero v within more = omega arith
small_pairs-grown (a ∷ b ∷ xs) (suc zero) v within more =
    let rest = small_pairs-grown (b ∷ xs) zero v (omega arith) more in
    omega (arith, rest)
small_pairs-grown (a ∷ b ∷ xs) (suc (suc i)) v within more =
    let rest = small_pairs-grown (b ∷ xs) (suc i) v (omega arith) more in
    omega (arith, rest)

pub AreFilled-grown : (xs : List ℕ) (i v : ℕ) → i < length xs → get_or xs i 0 ≤ v → v ≤ 511 → 1 ≤ v → AreFilled xs → AreFilled (set xs i v)
AreFilled-grown xs i v within more room some known =
    let same = length-set xs i v in
    let pairs = small_pairs-grown xs i v within more in
    record {
      some = omega (arith, same, known.some);
      within = All-set (λ n. n ≤ 511) xs i v room known.within;
      none_empty = λ two. All-set (λ n. 1 ≤ n) xs i v some (known.none_empty (omega (arith, two, same)));
      pairs = omega (arith, pairs, known.pairs);
    }

-- a full page that is split
small_pairs-halved : (xs ys : List ℕ) → All (λ n. 1 ≤ n) (xs ++ 511 ∷ ys) → small_pairs (xs ++ 511 ∷ ys) ≡ 0 → small_pairs (xs ++ 255 ∷ 256 ∷ ys) ≡ 0
small_pairs-halved [] [] some none = omega arith
small_pairs-halved [] (y ∷ ys) some none = omega (arith, none)
small_pairs-halved (x ∷ []) ys some none =
    let rest = small_pairs-halved [] ys (All-tail (λ n. 1 ≤ n) x (511 ∷ ys) some) (omega (arith, none, small_pairs-tail x (511 ∷ ys))) in
    let positive = All-head (λ n. 1 ≤ n) x (511 ∷ ys) some in
    omega (arith, rest, positive)
small_pairs-halved (x ∷ y ∷ xs) ys some none =
    let rest = small_pairs-halved (y ∷ xs) ys (All-tail (λ n. 1 ≤ n) x (y ∷ (xs ++ 511 ∷ ys)) some)
    (omega (arith, none, small_pairs-tail x (y ∷ (xs ++ 511 ∷ ys)))) in
    omega (arith, rest, none)

-- a fact about each page, if one page becomes two
All-halved : (P : ℕ → Type 0) (xs ys : List ℕ) (x a b : ℕ) → P a → P b → All P (xs ++ x ∷ ys) → All P (xs ++ a ∷ b ∷ ys)
All-halved P [] ys x a b at_a at_b all = All-cons P a (b ∷ ys) at_a (All-cons P b ys at_b (All-tail P x ys all))
All-halved P (y ∷ xs) ys x a b at_a at_b all =
    All-cons P y (xs ++ a ∷ b ∷ ys) (All-head P y (xs ++ x ∷ ys) all) (All-halved P xs ys x a b at_a at_b (All-tail P y (xs ++ x ∷ ys) all))

-- none of the pages is empty where one is full
positive : (xs ys : List ℕ) → AreFilled (xs ++ 511 ∷ ys) → All (λ n. 1 ≤ n) (xs ++ 511 ∷ ys)
positive [] [] known = All-cons (λ n. 1 ≤ n) 511 [] (omega arith) (All-nil (λ n. 1 ≤ n))
positive [] (y ∷ ys) known = known.none_empty (omega arith)
positive (x ∷ xs) ys known = let long = length-append xs (511 ∷ ys) in known.none_empty (omega (arith, long))

pub AreFilled-halved : (xs ys : List ℕ) → AreFilled (xs ++ 511 ∷ ys) → AreFilled (xs ++ 255 ∷ 256 ∷ ys)
AreFilled-halved xs ys known =
    let more = length-append xs (255 ∷ 256 ∷ ys) in
    record {
      some = omega (arith, more);
      within = All-halved (λ n. n ≤ 511) xs ys 511 255 256 (omega arith) (omega arith) known.within;
      none_empty = λ two. All-halved (λ n. 1 ≤ n) xs ys 511 255 256 (omega arith) (omega arith) (positive xs ys known);
      pairs = small_pairs-halved xs ys (positive xs ys known) known.pairs;
    }

-- the neighbours before a page, and those from it on
small_pairs-parts : (xs : List ℕ) (a : ℕ) (ys : List ℕ) → small_pairs (xs ++ a ∷ ys) ≡ small_pairs (xs ++ a ∷ []) + small_pairs (a ∷ ys)
small_pairs-parts [] a ys = omega arith
small_pairs-parts (x ∷ []) a ys = omega arith
small_pairs-parts (x ∷ y ∷ xs) a ys = let rest = small_pairs-parts (y ∷ xs) a ys in omega (arith, rest)

end-grown : (xs : List ℕ) (a b : ℕ) → a ≤ b → small_pairs (xs ++ b ∷ []) ≤ small_pairs (xs ++ a ∷ [])
end-grown [] a b more = omega arith
end-grown (x ∷ []) a b more = omega arith
end-grown (x ∷ y ∷ xs) a b more = let rest = end-grown (y ∷ xs) a b more in omega (arith, rest)

end-filled : (xs : List ℕ) (a b : ℕ) → All (λ n. 1 ≤ n) (xs ++ a ∷ []) → 255 ≤ b → small_pairs (xs ++ a ∷ []) ≡ 0 → small_pairs (xs ++ b ∷ []) ≡ 0
end-filled [] a b some enough none = refl
end-filled (x ∷ []) a b some enough none = let first = All-head (λ n. 1 ≤ n) x (a ∷ []) some in omega (arith, first, enough)
end-filled (x ∷ y ∷ xs) a b some enough none =
    let rest = end-filled (y ∷ xs) a b (All-tail (λ n. 1 ≤ n) x (y ∷ (xs ++ a ∷ [])) some) enough (omega (arith, none)) in
    omega (arith, rest, none)

end-at : (xs : List ℕ) (a b : ℕ) → small_pairs (xs ++ a ∷ []) ≡ 0 → ((k : ℕ) → length xs ≡ k + 1 → 256 ≤ get_or xs k 0 + b) → small_pairs (xs ++ b ∷ []) ≡ 0
end-at [] a b none left = refl
end-at (x ∷ []) a b none left = let last = left 0 refl in omega (arith, last)
end-at (x ∷ y ∷ xs) a b none left =
    let rest = end-at (y ∷ xs) a b (omega (arith, none)) (λ k long. left (suc k) (omega (arith, long))) in
    omega (arith, rest, none)

head-grown : (ys : List ℕ) (a b : ℕ) → a ≤ b → small_pairs (b ∷ ys) ≤ small_pairs (a ∷ ys)
head-grown [] a b more = omega arith
head-grown (y ∷ ys) a b more = omega arith

All-joined : (P : ℕ → Type 0) (xs ys : List ℕ) (a b c : ℕ) → P c → All P (xs ++ a ∷ b ∷ ys) → All P (xs ++ c ∷ ys)
All-joined P [] ys a b c at all = All-cons P c ys at (All-tail P b ys (All-tail P a (b ∷ ys) all))
All-joined P (x ∷ xs) ys a b c at all =
    All-cons P x (xs ++ c ∷ ys) (All-head P x (xs ++ a ∷ b ∷ ys) all) (All-joined P xs ys a b c at (All-tail P x (xs ++ a ∷ b ∷ ys) all))

All-at : (P : ℕ → Type 0) (xs : List ℕ) (x : ℕ) (ys : List ℕ) → All P (xs ++ x ∷ ys) → P x
All-at P [] x ys all = All-head P x ys all
All-at P (z ∷ xs) x ys all = All-at P xs x ys (All-tail P z (xs ++ x ∷ ys) all)

-- a page loses a number and joins the next page
pub filled-right : (xs ys : List ℕ) (s less y : ℕ) → s ≡ less + 1 → min (min less y) (less + y - 255) ≡ 0 → AreFilled (xs ++ s ∷ y ∷ ys) →
    AreFilled (xs ++ (less + y) ∷ ys)
filled-right xs ys s less y one small known =
    let long = length-append xs (s ∷ y ∷ ys) in
    let short = length-append xs ((less + y) ∷ ys) in
    let some = known.none_empty (omega (arith, long)) in
    let parts = small_pairs-parts xs s (y ∷ ys) in
    let after = small_pairs-parts xs (less + y) ys in
    let pairs = known.pairs in
    let here = All-head (λ n. n ≤ 511) y ys (All-tail (λ n. n ≤ 511) s (y ∷ ys) (All-behind xs (s ∷ y ∷ ys) known.within)) in
    let front = end-filled xs s (less + y) (All-once xs s (y ∷ ys) some) (omega (arith, parts, pairs, one)) (omega (arith, parts, pairs)) in
    let back = head-grown ys y (less + y) (omega arith) in
    record {
      some = omega (arith, short);
      within = All-joined (λ n. n ≤ 511) xs ys s y (less + y) (omega (arith, small, here, one, All-at (λ n. n ≤ 511) xs s (y ∷ ys) known.within)) known.within;
      none_empty = λ two. All-joined (λ n. 1 ≤ n) xs ys s y (less + y) (omega (arith, parts, pairs, one)) some;
      pairs = omega (arith, after, front, back, parts, pairs);
    }
  where
    All-behind : (xs ys : List ℕ) → All (λ n. n ≤ 511) (xs ++ ys) → All (λ n. n ≤ 511) ys
    All-behind [] ys all = all
    All-behind (x ∷ xs) ys all = All-behind xs ys (All-tail (λ n. n ≤ 511) x (xs ++ ys) all)

    All-once : (xs : List ℕ) (s : ℕ) (ys : List ℕ) → All (λ n. 1 ≤ n) (xs ++ s ∷ ys) → All (λ n. 1 ≤ n) (xs ++ s ∷ [])
    All-once [] s ys all = All-cons (λ n. 1 ≤ n) s [] (All-head (λ n. 1 ≤ n) s ys all) (All-nil (λ n. 1 ≤ n))
    All-once (x ∷ xs) s ys all = All-cons (λ n. 1 ≤ n) x (xs ++ s ∷ []) (All-head (λ n. 1 ≤ n) x (xs ++ s ∷ ys) all)
        (All-once xs s ys (All-tail (λ n. 1 ≤ n) x (xs ++ s ∷ ys) all))

-- a page loses a number and goes into the one before it
pub filled-left : (xs ys : List ℕ) (x s less : ℕ) → s ≡ less + 1 → min (min x less) (x + less - 255) ≡ 0 → AreFilled (xs ++ x ∷ s ∷ ys) →
    AreFilled (xs ++ (x + less) ∷ ys)
filled-left xs ys x s less one small known =
    let long = length-append xs (x ∷ s ∷ ys) in
    let short = length-append xs ((x + less) ∷ ys) in
    let some = known.none_empty (omega (arith, long)) in
    let parts = small_pairs-parts xs x (s ∷ ys) in
    let after = small_pairs-parts xs (x + less) ys in
    let pairs = known.pairs in
    let here : x ≤ 511 = All-at (λ n. n ≤ 511) xs x (s ∷ ys) known.within in
    let first : 1 ≤ x = All-at (λ n. 1 ≤ n) xs x (s ∷ ys) some in
    let front = end-grown xs x (x + less) (omega arith) in
    let back = behind ys (omega (arith, parts, pairs)) first in
    record {
      some = omega (arith, short);
      within = All-joined (λ n. n ≤ 511) xs ys x s (x + less) (omega (arith, small, here, first)) known.within;
      none_empty = λ two. All-joined (λ n. 1 ≤ n) xs ys x s (x + less) (omega (arith, first)) some;
      pairs = omega (arith, after, front, back, parts, pairs);
    }
  where
    behind : (ys : List ℕ) → small_pairs (x ∷ s ∷ ys) ≡ 0 → 1 ≤ x → small_pairs ((x + less) ∷ ys) ≡ 0
    behind [] none first = refl
    behind (y ∷ ys) none first = omega (arith, none, first, one)

-- a page loses a number and stays as it is else
pub filled-less : (xs ys : List ℕ) (s less : ℕ) → s ≡ less + 1 → ((k : ℕ) → length xs ≡ k + 1 → (1 ≤ less) × (256 ≤ get_or xs k 0 + less)) →
    (0 < length ys → (1 ≤ less) × (256 ≤ less + get_or ys 0 0)) → AreFilled (xs ++ s ∷ ys) → AreFilled (xs ++ less ∷ ys)
filled-less xs ys s less one left right known =
    let long = length-append xs (s ∷ ys) in
    let same = length-append xs (less ∷ ys) in
    let parts = small_pairs-parts xs s ys in
    let after = small_pairs-parts xs less ys in
    let pairs = known.pairs in
    let front = end-at xs s less (omega (arith, parts, pairs)) (λ k at. (left k at).1) in
    let back = behind ys (omega (arith, parts, pairs)) right in
    record {
      some = omega (arith, same);
      within = All-other (λ n. n ≤ 511) xs ys s less (λ all. omega (arith, all, one)) known.within;
      none_empty = λ two. All-other (λ n. 1 ≤ n) xs ys s less (λ all. some_left (omega (arith, two, same))) (known.none_empty (omega (arith, two, long, same)));
      pairs = omega (arith, after, front, back);
    }
  where
    All-other : (P : ℕ → Type 0) (xs ys : List ℕ) (a b : ℕ) → (P a → P b) → All P (xs ++ a ∷ ys) → All P (xs ++ b ∷ ys)
    All-other P [] ys a b turns all = All-cons P b ys (turns (All-head P a ys all)) (All-tail P a ys all)
    All-other P (x ∷ xs) ys a b turns all = All-cons P x (xs ++ b ∷ ys) (All-head P x (xs ++ a ∷ ys) all)
        (All-other P xs ys a b turns (All-tail P x (xs ++ a ∷ ys) all))

    some_left : 1 ≤ length xs + length ys → 1 ≤ less
    some_left more =
        ⊎_elim
        (λ (behind : 0 < length ys). (right behind).0)
        (λ (none : length ys ≤ 0). (left (length xs - 1) (omega (arith, more, none))).0)
        (cases_lt 0 (length ys))

    behind : (ys : List ℕ) → small_pairs (s ∷ ys) ≡ 0 → (0 < length ys → (1 ≤ less) × (256 ≤ less + get_or ys 0 0)) → small_pairs (less ∷ ys) ≡ 0
    behind [] none right = refl
    behind (y ∷ ys) none right = let at = right (omega arith) in omega (arith, none, at.1)
