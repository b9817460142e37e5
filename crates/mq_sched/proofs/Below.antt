-- Sums over the leaves at or below a node of a tree.
use Rattle.mq_sched.proofs.Common.{ℕ, zero, suc, ◌+◌, ◌*◌, ◌/◌, ◌<◌, ◌≤◌, ◌≡◌, ◌==◌, Bool, true, false, arith, refl, List, length, get_or, sym, ap, ◌∙◌, ⊎_elim}
use Rattle.mq_sched.proofs.Common.{nat_le, if◌then◌else◌, cases_lt, lt-ltb, le-ltb, lt-leb, and_right, bitlen, bitlen-half, HasEarlier, IsTreeBut, sum_to_depth}
use Rattle.mq_sched.proofs.Common.{sum_below, one_if_due, first_below, second_below}
use Rattle.mq_sched.proofs.DeadlineTree.{no_earlier}

module _ (f : ℕ → ℕ) (n : ℕ) where
  to_depth-node : (depth node : ℕ) → node < n → sum_to_depth f n (suc depth) node ≡ sum_to_depth f n depth (2 * node) + sum_to_depth f n depth (2 * node + 1)
  unfolding sum_to_depth
  to_depth-node depth node below = rw (lt-ltb node n below) refl

  to_depth-none : (node : ℕ) → sum_to_depth f n zero node ≡ f node
  unfolding sum_to_depth
  to_depth-none node = refl

  to_depth-leaf : (depth node : ℕ) → n ≤ node → sum_to_depth f n depth node ≡ f node
  unfolding sum_to_depth
  to_depth-leaf zero node from = refl
  to_depth-leaf (suc depth) node from = rw (le-ltb node n from) refl

  -- deeper than the leaves there is nothing more
  deep_enough : (depth node : ℕ) → 1 ≤ node → n ≤ node + depth → sum_to_depth f n (suc depth) node ≡ sum_to_depth f n depth node
  deep_enough zero node some deep = to_depth-leaf 1 node (omega arith) ∙ sym (to_depth-leaf 0 node (omega arith))
  deep_enough (suc depth) node some deep =
      ⊎_elim
      (λ (below : node < n).
      let left = deep_enough depth (2 * node) (omega arith) (omega arith) in
      let right = deep_enough depth (2 * node + 1) (omega arith) (omega arith) in
      let more = to_depth-node (suc depth) node below in
      let less = to_depth-node depth node below in
      omega (arith, left, right, more, less))
      (λ (from : n ≤ node). to_depth-leaf (suc (suc depth)) node from ∙ sym (to_depth-leaf (suc depth) node from))
      (cases_lt node n)

  pub sum_below-leaf : (node : ℕ) → n ≤ node → sum_below f n node ≡ f node
  unfolding sum_below
  sum_below-leaf node from = to_depth-leaf n node from

  pub sum_below-node : (node : ℕ) → 1 ≤ node → node < n → sum_below f n node ≡ sum_below f n (2 * node) + sum_below f n (2 * node + 1)
  unfolding sum_below
  sum_below-node node some below = sym (deep_enough n node some (omega arith)) ∙ to_depth-node n node below

-- at least one leaf stands at or below a node
ones-to_depth : (n depth node : ℕ) → 1 ≤ sum_to_depth (λ _. 1) n depth node
ones-to_depth n zero node =
    ⊎_elim
    (λ (below : node < n). omega (arith, to_depth-none (λ _. 1) n node))
    (λ (from : n ≤ node). omega (arith, to_depth-leaf (λ _. 1) n zero node from))
    (cases_lt node n)
ones-to_depth n (suc depth) node =
    ⊎_elim
    (λ (below : node < n).
    omega (arith, to_depth-node (λ _. 1) n depth node below, ones-to_depth n depth (2 * node), ones-to_depth n depth (2 * node + 1)))
    (λ (from : n ≤ node). omega (arith, to_depth-leaf (λ _. 1) n (suc depth) node from))
    (cases_lt node n)

pub ones-below : (n node : ℕ) → 1 ≤ sum_below (λ _. 1) n node
unfolding sum_below
ones-below n node = ones-to_depth n n node

-- a node that isn't due counts for no leaf
one-if_later : (nodes : List ℕ) (now leaf node : ℕ) → now < get_or nodes node 0 → one_if_due nodes now leaf node ≡ 0
one-if_later nodes now leaf node later = rw (and_right (node == leaf) (nat_le (get_or nodes node 0) now) (lt-leb (get_or nodes node 0) now later)) refl

module _ (nodes : List ℕ) (lefts : List Bool) (now leaf : ℕ) (known : IsTreeBut nodes lefts 0) where
  none-to_depth : (depth node : ℕ) → 1 ≤ node → now < get_or nodes node 0 → sum_to_depth (one_if_due nodes now leaf) (length lefts) depth node ≡ 0
  none-to_depth zero node some later = to_depth-none (one_if_due nodes now leaf) (length lefts) node ∙ one-if_later nodes now leaf node later
  none-to_depth (suc depth) node some later =
      ⊎_elim
      (λ (below : node < length lefts).
      let low = no_earlier nodes node (get_or lefts node false) (known.each node some below (λ same. absurd (omega arith))) in
      let left = none-to_depth depth (2 * node) (omega arith) (omega (arith, low.0)) in
      let right = none-to_depth depth (2 * node + 1) (omega arith) (omega (arith, low.1)) in
      omega (arith, left, right, to_depth-node (one_if_due nodes now leaf) (length lefts) depth node below))
      (λ (from : length lefts ≤ node).
      to_depth-leaf (one_if_due nodes now leaf) (length lefts) (suc depth) node from ∙ one-if_later nodes now leaf node later)
      (cases_lt node (length lefts))

  -- below a node that is not due no leaf is
  pub none_below : (node : ℕ) → 1 ≤ node → now < get_or nodes node 0 → sum_below (one_if_due nodes now leaf) (length lefts) node ≡ 0
  unfolding sum_below
  none_below node some later = none-to_depth (length lefts) node some later

-- the two nodes below a node. The first has its deadline.
pub record AreBelow (nodes : List ℕ) (count node first_node second_node : ℕ) : Type 0 where
  pub sums : (f : ℕ → ℕ) → sum_below f count node ≡ sum_below f count first_node + sum_below f count second_node
  pub first : get_or nodes first_node 0 ≡ get_or nodes node 0
  pub behind : (node < first_node) × (node < second_node)
  pub within : (first_node < 2 * count) × (second_node < 2 * count)
  pub first_deeper : bitlen first_node ≡ bitlen node + 1
  pub second_deeper : bitlen second_node ≡ bitlen node + 1

deeper : (node below : ℕ) → 1 ≤ node → below / 2 ≡ node → bitlen below ≡ bitlen node + 1
deeper node below some half = let digits = bitlen-half below (omega arith) in let same = ap bitlen half in omega (arith, digits, same)

-- the two nodes below one of a tree
are_below : (nodes : List ℕ) (count node : ℕ) (b : Bool) → 1 ≤ node → node < count → HasEarlier nodes node b →
    AreBelow nodes count node (if b then 2 * node else 2 * node + 1) (if b then 2 * node + 1 else 2 * node)
are_below nodes count node true some below has = record {
  sums = λ f. sum_below-node f count node some below;
  first = sym has.0;
  behind = (omega arith, omega arith);
  within = (omega arith, omega arith);
  first_deeper = deeper node (2 * node) some (omega arith);
  second_deeper = deeper node (2 * node + 1) some (omega arith);
}
are_below nodes count node false some below has = record {
  sums = λ f. omega (arith, sum_below-node f count node some below);
  first = sym has.0;
  behind = (omega arith, omega arith);
  within = (omega arith, omega arith);
  first_deeper = deeper node (2 * node + 1) some (omega arith);
  second_deeper = deeper node (2 * node) some (omega arith);
}

pub AreBelow-from_tree : (nodes : List ℕ) (lefts : List Bool) (node : ℕ) → IsTreeBut nodes lefts 0 → 1 ≤ node → node < length lefts →
    AreBelow nodes (length lefts) node (first_below lefts node) (second_below lefts node)
AreBelow-from_tree nodes lefts node known some below =
    are_below nodes (length lefts) node (get_or lefts node false) some below (known.each node some below (λ same. absurd (omega arith)))
