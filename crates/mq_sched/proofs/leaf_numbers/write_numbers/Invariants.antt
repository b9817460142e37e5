use Rattle.mq_sched.proofs.Common.{ℕ, ◌<◌, ◌≤◌, ◌≡◌, get_or}
use Rattle.mq_sched.proofs.leaf_numbers.write_numbers.Given as goal

abbrev pub invariant-loop-leaf : goal.invariant-loop-leaf
invariant-loop-leaf l =
    record {
      written : (k : ℕ) → k < l.leaf-index → get_or l.leaves k 0 ≡ get_or l.numbers (get_or l.initial.leaves k 0) 0;
      rest : (k : ℕ) → l.leaf-index ≤ k → get_or l.leaves k 0 ≡ get_or l.initial.leaves k 0;
    }
