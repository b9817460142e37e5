-- the rest without entries is all without entries
use Rattle.mq_check.proofs.Common.{◌≡◌, length}
use Rattle.mq_check.specs.Waiting.{emptied}
use Rattle.mq_check.proofs.waiting.Waiting.clear.Given as goal

abbrev pub invariant-loop-entry : goal.invariant-loop-entry
invariant-loop-entry g l = emptied l.fn.self ≡ emptied l.self

abbrev pub decreases-loop-entry : goal.decreases-loop-entry
decreases-loop-entry g l = length l.self.entries
