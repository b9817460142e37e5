use Rattle.mq_sets.proofs.Common.{◌-◌}
use Rattle.mq_sets.proofs.Narrowing.{IsNarrowed}
use Rattle.mq_sets.proofs.searching.find.Given as goal

abbrev pub invariant-loop-low : goal.invariant-loop-low
invariant-loop-low g l =
    IsNarrowed g.T.Keyed.key_number l.items (g.K.Key.number l.key) l.initial.m l.m l.low l.high

abbrev pub decreases-loop-low : goal.decreases-loop-low
decreases-loop-low g l = l.high - l.low
