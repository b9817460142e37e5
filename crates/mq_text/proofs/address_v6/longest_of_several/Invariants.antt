use Rattle.std.proofs.Common.{◌≡◌, ◌≤◌, ◌+◌, drop}
use Rattle.mq_text.specs.AddressV6 as words
use Rattle.mq_text.proofs.address_v6.longest_of_several.Given as goal

-- the run found among the groups after the place
abbrev pub invariant-loop-place : goal.invariant-loop-place
invariant-loop-place l =
    record {
      place : l.place ≤ 8;
      zeros : l.zeros ≡ words.zeros_ahead (drop l.place l.groups);
      count : l.run.count ≡ (words.longest_zeros (drop l.place l.groups)).count;
      first : l.run.place ≡ l.place + (words.longest_zeros (drop l.place l.groups)).place;
      few : l.zeros + l.place ≤ 8;
      within : l.run.place + l.run.count ≤ 8;
    }

abbrev pub decreases-loop-place : goal.decreases-loop-place
decreases-loop-place l = l.place
