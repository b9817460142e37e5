-- A tree that loses a leaf.
use Rattle.mq_sched.proofs.Common.{ℕ, ◌+◌, ◌-◌, ◌*◌, ◌/◌, ◌<◌, ◌≤◌, ◌≡◌, ◌==◌, Bool, arith, List, length, get_or, set, take, ◌⊎◌, length-set, if◌then◌else◌}
use Rattle.mq_sched.proofs.Common.{cases_eq, eq-eqb, ne_eqb, get_or-set_same, get_or-set_other, get_or-take, length-take-le, IsTreeBut, first_below}
use Rattle.mq_sched.proofs.Common.{second_below, leaf_before}
use Rattle.mq_sched.proofs.DeadlineTree.{earlier-agree, first_has}

-- the deadline of the later one of the last two leaves goes to a leaf, and then that of the earlier one to the node above
module _ (nodes : List ℕ) (last leaf first second x y : ℕ) (room : (leaf < length nodes) × (last < length nodes))
    (pair : first + second ≡ 4 * last + 1) (is_x : x ≡ get_or nodes second 0) (is_y : y ≡ get_or (set nodes leaf x) first 0) where
  written : (at : ℕ) → get_or (set nodes leaf x) at 0 ≡ get_or nodes (if at == leaf then second else at) 0
  written at = grind (arith, eq-eqb, get_or-set_same, ne_eqb, get_or-set_other, cases_eq)

  -- each node has the deadline that went there
  pub went_to : (at : ℕ) → get_or (set (set nodes leaf x) last y) at 0 ≡ get_or nodes (leaf_before last leaf second at) 0
  went_to at = grind (arith, eq-eqb, get_or-set_same, length-set, written, ne_eqb, get_or-set_other, cases_eq)

  -- any other node is unchanged, and so is the node above the last two if it keeps the earlier deadline
  pub stayed : (at : ℕ) → (at ≡ leaf → ⊥) → (at ≡ last → (first ≡ leaf → ⊥) × (get_or nodes last 0 ≡ get_or nodes first 0)) →
      get_or (set (set nodes leaf x) last y) at 0 ≡ get_or nodes at 0
  stayed at off keeps = grind (arith, get_or-set_same, length-set, get_or-set_other, cases_eq)

-- which two nodes stand below one
pub pair_below : (lefts : List Bool) (node : ℕ) → (first_below lefts node + second_below lefts node ≡ 4 * node + 1) ×
    ((2 * node ≤ first_below lefts node) × (2 * node ≤ second_below lefts node))
pair_below lefts node = grind arith

-- the tree without its last two leaves, but for the node above that whose deadline is another
pub shrunk : (nodes : List ℕ) (lefts : List Bool) (leaf changed x y : ℕ) → IsTreeBut nodes lefts 0 → 0 < length lefts → length lefts ≤ leaf →
    leaf < 2 * length lefts
    → x ≡ get_or nodes (second_below lefts (length lefts - 1)) 0 → y ≡ get_or (set nodes leaf x) (first_below lefts (length lefts - 1)) 0
    → ((leaf < 2 * (length lefts - 1)) × (changed ≡ leaf)) ⊎ ((2 * (length lefts - 1) ≤ leaf) × (changed ≡ length lefts - 1))
    → IsTreeBut (take (2 * (length lefts - 1)) (set (set nodes leaf x) (length lefts - 1) y)) (take (length lefts - 1) lefts) (changed / 2)
shrunk nodes lefts leaf changed x y known some from below is_x is_y cases =
    grind (arith, pair_below, length-set, length-take-le, get_or-take, stayed, first_has, earlier-agree)
