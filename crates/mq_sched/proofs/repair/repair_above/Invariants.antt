use Rattle.mq_sched.proofs.Common.{ℕ, ◌+◌, ◌-◌, ◌/◌, ◌<◌, ◌≤◌, ◌≡◌, Bool, false, List, length, get_or, Spends, bitlen, IsTreeBut, KeepsOther, written_above}
use Rattle.mq_sched.proofs.repair.repair_above.Given as goal

abbrev pub invariant-loop-node : goal.invariant-loop-node
invariant-loop-node l =
    record {
      tree : IsTreeBut l.nodes l.lefts (l.node / 2);
      kept : KeepsOther l.nodes l.lefts l.node;
      within : 0 < l.node → l.node < length l.nodes;
      leaves : (leaf : ℕ) → length l.initial.lefts ≤ leaf → get_or l.nodes leaf 0 ≡ get_or l.initial.nodes leaf 0;
      lower : l.node ≤ l.from;
      spent : Spends (bitlen (l.from / 2) - bitlen (l.node / 2)) (bitlen (l.from / 2) - bitlen (l.node / 2)) l.initial.m l.m;
      below : (node : ℕ) → node < l.node → get_or l.lefts node false ≡ get_or l.initial.lefts node false;
      moves : (written : ℕ) × Spends written written l.initial.moves l.moves ×
          ((after : List Bool) → ((node : ℕ) → l.node ≤ node → get_or after node false ≡ get_or l.lefts node false)
          → written_above l.initial.lefts after l.from l.from ≡ written + written_above l.initial.lefts after l.node l.node);
    }

abbrev pub decreases-loop-node : goal.decreases-loop-node
decreases-loop-node l = l.node
