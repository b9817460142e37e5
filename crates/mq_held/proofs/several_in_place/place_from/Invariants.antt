use Rattle.mq_held.proofs.Common.{◌≤◌, length, ◌-◌, Spends, number_in, StandsFrom}
use Rattle.mq_held.proofs.several_in_place.place_from.Given as goal

-- the source stands at the place or after
abbrev pub invariant-loop-place : goal.invariant-loop-place
invariant-loop-place g l = record {
  from : l.fn.from ≤ l.place;
  there : StandsFrom (number_in g.K.Key.number) l.row (g.K.Key.number l.name) l.place;
  spent : Spends (l.place - l.fn.from) (l.place - l.fn.from) l.initial.m l.m;
}

abbrev pub decreases-loop-place : goal.decreases-loop-place
decreases-loop-place g l = length l.row - l.place
