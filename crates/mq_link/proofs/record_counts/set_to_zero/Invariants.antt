use Rattle.std.proofs.Common.{◌≡◌, length}
use Rattle.mq_link.proofs.ListedNumbers.{IsLeft}
use Rattle.mq_link.proofs.record_counts.set_to_zero.Given as goal

-- a count that isn't zero is of a number left
abbrev pub invariant-loop-number : goal.invariant-loop-number
invariant-loop-number g l = IsLeft l.counts.items l.fn.numbers l.number-index × (length l.counts.items ≡ length l.fn.counts.items)
