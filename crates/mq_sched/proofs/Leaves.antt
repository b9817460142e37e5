-- The sum over all leaves of a tree, which is that below its top node.
use Rattle.mq_sched.proofs.Common.{ℕ, zero, suc, ◌+◌, ◌-◌, ◌*◌, ◌<◌, ◌≤◌, ◌≡◌, ◌==◌, arith, refl, List, get_or, sym, ap, ◌∙◌, ⊎_elim, ◌⊎◌, inl, inr, nat_le}
use Rattle.mq_sched.proofs.Common.{if◌then◌else◌, cases_lt, cases_eq, lt-ltb, le-ltb, le-leb, lt-leb, eq-eqb, ne_eqb, and_left, sum_below, one_if_due}
use Rattle.mq_sched.proofs.Common.{is_leaf_due}
use Rattle.mq_sched.proofs.Below.{sum_below-leaf, sum_below-node}

-- a sum of consecutive items
pub sum_from : (ℕ → ℕ) → ℕ → ℕ → ℕ
sum_from g zero from = 0
sum_from g (suc k) from = g from + sum_from g k (from + 1)

sum_from-last : (g : ℕ → ℕ) (k from : ℕ) → sum_from g (suc k) from ≡ sum_from g k from + g (from + k)
unfolding sum_from
sum_from-last g zero from = let same : from + 0 ≡ from = omega arith in rw same (omega arith)
sum_from-last g (suc k) from =
    let rest = sum_from-last g k (from + 1) in let same : from + 1 + k ≡ from + suc k = omega arith in let at = ap g same in omega (arith, rest, at)

-- two sums of items that are alike
sum_from-agree : (g h : ℕ → ℕ) (k from : ℕ) → ((node : ℕ) → from ≤ node → node < from + k → g node ≡ h node) → sum_from g k from ≡ sum_from h k from
unfolding sum_from
sum_from-agree g h zero from same = refl
sum_from-agree g h (suc k) from same =
    let first = same from (omega arith) (omega arith) in
    let rest = sum_from-agree g h k (from + 1) (λ node low high. same node (omega arith) (omega arith)) in
    omega (arith, first, rest)

sum_from-first : (g : ℕ → ℕ) (k from : ℕ) → sum_from g (suc k) from ≡ g from + sum_from g k (from + 1)
unfolding sum_from
sum_from-first g k from = refl

sum_from-none : (g : ℕ → ℕ) (from : ℕ) → sum_from g 0 from ≡ 0
unfolding sum_from
sum_from-none g from = refl

module _ (f : ℕ → ℕ) (n : ℕ) where
  -- the sum over the nodes from i to 2i - 1 is that over the next such nodes
  next_nodes : (i : ℕ) → 1 ≤ i → i < n → sum_from (sum_below f n) i i ≡ sum_from (sum_below f n) (suc i) (i + 1)
  next_nodes zero some below = absurd (omega arith)
  next_nodes (suc j) some below =
      let i = suc j in
      let at_first : i + 1 + j ≡ 2 * i = omega arith in
      let at_last : i + 1 + i ≡ 2 * i + 1 = omega arith in
      let first = sum_from-first (sum_below f n) j i in
      let more = rw at_first at (sum_from-last (sum_below f n) j (i + 1)) in
      let last = rw at_last at (sum_from-last (sum_below f n) i (i + 1)) in
      omega (arith, first, more, last, sum_below-node f n i some below)

  all_nodes : (i : ℕ) → i < n → sum_below f n 1 ≡ sum_from (sum_below f n) (suc i) (i + 1)
  all_nodes zero below =
      let first = sum_from-first (sum_below f n) 0 1 in let none = sum_from-none (sum_below f n) 2 in omega (arith, first, none)
  all_nodes (suc i) below =
      let before = all_nodes i (omega arith) in
      let same : i + 1 ≡ suc i = omega arith in
      before ∙ ap (λ k. sum_from (sum_below f n) (suc i) k) same ∙ next_nodes (suc i) (omega arith) below

  -- so below the top node it is the sum over the leaves
  pub sum_below-top : 0 < n → sum_below f n 1 ≡ sum_from f n n
  sum_below-top some =
      let last : suc (n - 1) ≡ n = omega arith in
      let from : n - 1 + 1 ≡ n = omega arith in
      all_nodes (n - 1) (omega arith)
      ∙ ap (λ k. sum_from (sum_below f n) k (n - 1 + 1)) last
      ∙ ap (λ k. sum_from (sum_below f n) n k) from
      ∙ sum_from-agree (sum_below f n) f n n (λ node low high. sum_below-leaf f n node low)

ones_from : (k from : ℕ) → sum_from (λ _. 1) k from ≡ k
ones_from zero from = sum_from-none (λ _. 1) from
ones_from (suc k) from = let rest = ones_from k (from + 1) in omega (arith, rest, sum_from-first (λ _. 1) k from)

-- as many leaves as there are
pub ones-top : (n : ℕ) → 0 < n → sum_below (λ _. 1) n 1 ≡ n
ones-top n some = sum_below-top (λ _. 1) n some ∙ ones_from n n

module _ (nodes : List ℕ) (now leaf : ℕ) where
  one_off : (node : ℕ) → (node ≡ leaf → ⊥) → one_if_due nodes now leaf node ≡ 0
  one_off node other = rw (and_left (node == leaf) (nat_le (get_or nodes node 0) now) (ne_eqb node leaf other)) refl

  none_from : (k from : ℕ) → (leaf < from) ⊎ (from + k ≤ leaf) → sum_from (one_if_due nodes now leaf) k from ≡ 0
  none_from zero from off = sum_from-none (one_if_due nodes now leaf) from
  none_from (suc k) from off =
      let rest = none_from k (from + 1) (⊎_elim (λ (low : leaf < from). inl (omega arith)) (λ (high : from + suc k ≤ leaf). inr (omega arith)) off) in
      let first = one_off from (λ same. ⊎_elim (λ (low : leaf < from). absurd (omega arith)) (λ (high : from + suc k ≤ leaf). absurd (omega arith)) off) in
      omega (arith, rest, first, sum_from-first (one_if_due nodes now leaf) k from)

  one_from : (k from : ℕ) → from ≤ leaf → leaf < from + k → sum_from (one_if_due nodes now leaf) k from ≡ one_if_due nodes now leaf leaf
  one_from zero from low high = absurd (omega arith)
  one_from (suc k) from low high =
      ⊎_elim
      (λ (same : from ≡ leaf).
      let rest = none_from k (from + 1) (inl (omega arith)) in
      let at = ap (one_if_due nodes now leaf) same in
      omega (arith, rest, at, sum_from-first (one_if_due nodes now leaf) k from))
      (λ (differs : from ≡ leaf → ⊥).
      let rest = one_from k (from + 1)
      (⊎_elim (λ (below : from < leaf). omega arith) (λ (upto : leaf ≤ from). absurd (differs (omega arith))) (cases_lt from leaf)) (omega arith) in
      omega (arith, rest, one_off from differs, sum_from-first (one_if_due nodes now leaf) k from))
      (cases_eq from leaf)

  -- and one for a leaf that is due
  pub one-top : (n : ℕ) → 0 < n → sum_below (one_if_due nodes now leaf) n 1 ≡ (if is_leaf_due nodes n now leaf then 1 else 0)
  one-top n some =
      sum_below-top (one_if_due nodes now leaf) n some
      ∙ ⊎_elim
      (λ (low : leaf < n). none_from n n (inl low) ∙ sym (rw (lt-leb n leaf low) refl))
      (λ (from : n ≤ leaf).
      ⊎_elim
      (λ (below : leaf < 2 * n).
      one_from n n from (omega arith) ∙ rw (le-leb n leaf from, lt-ltb leaf (2 * n) below, eq-eqb leaf leaf refl) refl)
      (λ (past : 2 * n ≤ leaf).
      none_from n n (inr (omega arith)) ∙ sym (rw (le-leb n leaf from, le-ltb leaf (2 * n) past) refl))
      (cases_lt leaf (2 * n)))
      (cases_lt leaf n)
