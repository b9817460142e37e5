use Rattle.mq_table.proofs.Common.{◌<◌, AllWithin, Spends, number_in}
use Rattle.mq_table.proofs.merged_runs.find_ahead.Given as goal

-- the sources passed are below the name
abbrev pub invariant-loop-place : goal.invariant-loop-place
invariant-loop-place g l = record {
  below : AllWithin (λ x. number_in g.K.Key.number x < g.K.Key.number l.fn.name) l.sources 0 l.place;
  spent : Spends l.place l.place l.initial.m l.m;
}
