-- the loop leaves of the waiting entries what it leaves of all
use Rattle.mq_check.proofs.Common.{◌≡◌, length}
use Rattle.mq_check.specs.Waiting.{purged}
use Rattle.mq_check.proofs.waiting.Waiting.forget.Given as goal

abbrev pub invariant-loop-entry : goal.invariant-loop-entry
invariant-loop-entry g l = purged l.within l.now l.fn.self ≡ purged l.within l.now l.self

abbrev pub decreases-loop-entry : goal.decreases-loop-entry
decreases-loop-entry g l = length l.self.entries
