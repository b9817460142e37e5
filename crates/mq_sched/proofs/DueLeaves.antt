-- The leaves that are due, one after another, and what finding them spends.
use Rattle.mq_sched.proofs.Common.{ℕ, ◌+◌, ◌-◌, ◌*◌, ◌<◌, ◌≤◌, ◌≡◌, ◌==◌, min, arith, List, length, get_or, set, take, count_by, le-leb, take_more_set}
use Rattle.mq_sched.proofs.Common.{sum_by_push, Spends, Spends-join, Spends-join_within, sum_below, one_if_due}
use Rattle.std.proofs.Math.Bool.{and-true}
use Rattle.mq_sched.proofs.Below.{sum_below-leaf}

-- a leaf is written that is due
pub leaf_written : {X : Type 0} (f : X → ℕ) (nodes : List ℕ) (leaves : List X) (x : X) {node : ℕ} → f x ≡ node → (n now from leaf : ℕ) →
    from < length leaves → n ≤ node → get_or nodes node 0 ≤ now
    → count_by (λ other. f other == leaf) (take (from + 1) (set leaves from x)) ≡ count_by (λ other. f other == leaf)
    (take from leaves) + sum_below (one_if_due nodes now leaf) n node
leaf_written f nodes leaves x h1 n now from leaf h2 h3 h4 = grind (arith, sum_below-leaf, le-leb, and-true, take_more_set, sum_by_push)

-- the comparisons below a due node: at the node with its deadline, for a look at the other one, and,
-- if that one is due too, there
module _ {old mid seen : ℕ} (first all other height : ℕ) (some : 1 ≤ first) (within : first ≤ all) (more : 1 ≤ other)
    (one : Spends (min first (all - 1)) (min (all - 1) (first * height)) old mid) (look : Spends 1 1 mid seen) where
  pub spent_on_one : Spends (min first (all + other - 1)) (min (all + other - 1) (first * (height + 1))) old seen
  spent_on_one = grind (arith, Spends-join_within)

  pub spent_on_both : {new : ℕ} (second : ℕ) → 1 ≤ second → second ≤ other →
      Spends (min second (other - 1)) (min (other - 1) (second * height)) seen new → Spends (min (first + second) (all + other - 1))
      (min (all + other - 1) ((first + second) * (height + 1))) old new
  spent_on_both second some_too within_too two = grind (arith, Spends-join_within, Spends-join)
