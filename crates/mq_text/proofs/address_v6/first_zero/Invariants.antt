use Rattle.std.proofs.Common.{◌≡◌, ◌≤◌, ◌<◌, ◌-◌, ℕ, drop}
use Rattle.mq_text.specs.AddressV6 as words
use Rattle.mq_text.proofs.address_v6.first_zero.Given as goal

-- the groups before the place aren't zero
abbrev pub invariant-loop-place : goal.invariant-loop-place
invariant-loop-place l =
    record {
      others : (place : ℕ) → place < l.place → words.zeros_ahead (drop place l.groups) ≡ 0;
      within : l.place ≤ 8;
    }

abbrev pub decreases-loop-place : goal.decreases-loop-place
decreases-loop-place l = 8 - l.place
