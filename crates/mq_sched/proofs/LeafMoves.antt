-- The new leaves of a tree once one is removed.
use Rattle.mq_sched.proofs.Common.{ℕ, ◌+◌, ◌*◌, ◌<◌, ◌≤◌, ◌≡◌, arith, nat_tests, leaf_before, leaf_after}

-- each other leaf is among those left, and keeps its deadline
pub after_given_up : (last given_up later leaf : ℕ) → last + 1 ≤ given_up → given_up < 2 * last + 2 → 2 * last ≤ later → later < 2 * last + 2 →
    last + 1 ≤ leaf → leaf < 2 * last + 2 → (leaf ≡ given_up → ⊥)
    → (last ≤ leaf_after last given_up later leaf) × (leaf_after last given_up later leaf < 2 * last) ×
    (leaf_before last given_up later (leaf_after last given_up later leaf) ≡ leaf)
after_given_up last given_up later leaf from below tail end low high other =
    (grind (arith, nat_tests), grind (arith, nat_tests), grind (arith, nat_tests))

-- each leaf left has the deadline of another leaf than the removed one
pub before_given_up : (last given_up later leaf : ℕ) → last + 1 ≤ given_up → given_up < 2 * last + 2 → 2 * last ≤ later → later < 2 * last + 2 →
    last ≤ leaf → leaf < 2 * last
    → (last + 1 ≤ leaf_before last given_up later leaf) × (leaf_before last given_up later leaf < 2 * last + 2) ×
    (leaf_before last given_up later leaf ≡ given_up → ⊥) × (leaf_after last given_up later (leaf_before last given_up later leaf) ≡ leaf)
before_given_up last given_up later leaf from below tail end low high =
    (grind (arith, nat_tests), grind (arith, nat_tests), λ same. grind (arith, nat_tests), grind (arith, nat_tests))
