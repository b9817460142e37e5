use Rattle.std.proofs.Common.{List, ℕ}
use Rattle.mq_link.proofs.LoweredSoFar.{IsLowered}
use Rattle.mq_link.proofs.query_heard.lower_sources.Given as goal

-- the sources so far are lowered, and with those that are left they are all
abbrev pub invariant-loop-source : goal.invariant-loop-source
invariant-loop-source g l = (done : List ℕ) × IsLowered l.fn.timing l.fn.now l.fn.sources l.source-iterator l.fn.group l.fn.m l.group l.m done
