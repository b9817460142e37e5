-- The number of a list's items that pass a test.
use Rattle.mq_sched.proofs.Common.{ℕ, ◌+◌, ◌<◌, ◌≤◌, ◌≡◌, Bool, true, false, cond, arith, refl, List, [], ◌∷◌, length, get_or, map, ap, All, count_by, All-head}
use Rattle.mq_sched.proofs.Common.{All-tail, fold-map, sum_by-le, sum_by-cons, get_or-le-sum_by}

module _ (p : ℕ → Bool) where
  -- an item that passes counts, and where none does nothing counts
  pub count-some : (xs : List ℕ) (k d : ℕ) → k < length xs → p (get_or xs k d) ≡ true → 1 ≤ count_by p xs
  count-some xs k d in_list passes =
      let part = get_or-le-sum_by (λ x. cond (p x) 1 0) xs k d in_list in rw passes at part

  pub count-none : (xs : List ℕ) → All (λ x. p x ≡ false) xs → count_by p xs ≡ 0
  count-none xs none =
      let few = sum_by-le (λ x. cond (p x) 1 0) 0 xs (λ k d in_list. rw (none k d in_list) (omega arith)) in omega arith

  pub count-map : (h : ℕ → ℕ) (xs : List ℕ) → count_by p (map h xs) ≡ count_by (λ x. p (h x)) xs
  count-map h xs = fold-map (λ a x. a + cond (p x) 1 0) h 0 xs

-- two tests that agree at each item count alike
pub count-agree : (p q : ℕ → Bool) (xs : List ℕ) → All (λ x. p x ≡ q x) xs → count_by p xs ≡ count_by q xs
count-agree p q [] same = refl
count-agree p q (x ∷ xs) same =
    let first = ap {B = ℕ} (λ b. cond b 1 0) (All-head (λ y. p y ≡ q y) x xs same) in
    let rest = count-agree p q xs (All-tail (λ y. p y ≡ q y) x xs same) in
    omega (arith, first, rest, sum_by-cons (λ y. cond (p y) 1 0) x xs, sum_by-cons (λ y. cond (q y) 1 0) x xs)
