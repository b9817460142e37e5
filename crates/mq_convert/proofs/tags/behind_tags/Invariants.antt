use Rattle.mq_convert.proofs.Common.{◌≡◌, length, behind_tags}
use Rattle.mq_convert.proofs.tags.behind_tags.Given as goal

abbrev pub invariant-loop-addresses : goal.invariant-loop-addresses
invariant-loop-addresses l = behind_tags l.addresses l.kind l.rest ≡ behind_tags l.addresses l.fn.kind l.payload

abbrev pub decreases-loop-addresses : goal.decreases-loop-addresses
decreases-loop-addresses l = length l.rest
