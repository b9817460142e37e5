use Rattle.mq_convert.proofs.Common.{◌≡◌, take, list_any}
use Rattle.mq_convert.specs.Networks.{is_same}
use Rattle.mq_convert.proofs.networks.is_among.Given as goal

-- the test of the networks so far
abbrev pub invariant-loop-other : goal.invariant-loop-other
invariant-loop-other l = l.found ≡ list_any (is_same l.network) (take l.other-index l.networks)
