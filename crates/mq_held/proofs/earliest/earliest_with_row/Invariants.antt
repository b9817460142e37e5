use Rattle.mq_held.proofs.Common.{◌≡◌, ◌≤◌, ◌-◌, ◌++◌, length, take, flat_map, option_to_list, timer_moments}
use Rattle.mq_held.proofs.earliest.earliest_with_row.Given as goal

-- the one moment of those so far, if there is one
abbrev pub invariant-loop-start : goal.invariant-loop-start
invariant-loop-start g l = record {
  within : l.place ≤ length l.row;
  start : option_to_list l.start ≡ option_to_list l.fn.first ++ flat_map timer_moments (take l.place l.row);
  meter : l.m ≡ l.initial.m;
}

abbrev pub decreases-loop-start : goal.decreases-loop-start
decreases-loop-start g l = length l.row - l.place
