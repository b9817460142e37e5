use Rattle.std.proofs.Common.{◌≡◌, ◌≤◌, ◌-◌, ◌+◌, drop, length}
use Rattle.mq_text.specs.AddressV6 as words
use Rattle.mq_text.proofs.address_v6.zeros_ahead.Given as goal

-- so many zeros are at the front, and those ahead of the others follow them
abbrev pub invariant-loop-count : goal.invariant-loop-count
invariant-loop-count l =
    record {
      zeros : words.zeros_ahead l.groups ≡ l.count + words.zeros_ahead (drop l.count l.groups);
      within : l.count ≤ length l.groups;
    }

abbrev pub decreases-loop-count : goal.decreases-loop-count
decreases-loop-count l = length l.groups - l.count
