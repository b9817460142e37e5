use Rattle.mq_sets.proofs.Common.{◌-◌, key_at}
use Rattle.mq_sets.proofs.Narrowing.{IsNarrowed}
use Rattle.mq_sets.proofs.firsts.search.Given as goal

abbrev pub invariant-loop-low : goal.invariant-loop-low
invariant-loop-low g l =
    IsNarrowed (λ x. key_at g.K.Key.number l.keys (g.T.First.first_of x)) l.items (g.K.Key.number l.key) l.initial.m l.m l.low l.high

abbrev pub decreases-loop-low : goal.decreases-loop-low
decreases-loop-low g l = l.high - l.low
