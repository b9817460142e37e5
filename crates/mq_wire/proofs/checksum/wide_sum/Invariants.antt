use Rattle.mq_wire.proofs.Common.{◌≡◌, ◌+◌, ◌*◌, ◌^◌, ◌≤◌, length, ones_complement, sum_of_words}
use Rattle.mq_wire.proofs.checksum.wide_sum.Given as goal

-- the words so far and those that are left have the sum of all words
abbrev pub invariant-loop-rest : goal.invariant-loop-rest
invariant-loop-rest l =
    record {
      same : ones_complement (l.sum + sum_of_words l.rest) ≡ ones_complement (sum_of_words l.bytes);
      small : l.sum + length l.rest * 2 ^ 61 ≤ length l.bytes * 2 ^ 61;
    }

abbrev pub decreases-loop-rest : goal.decreases-loop-rest
decreases-loop-rest l = length l.rest
