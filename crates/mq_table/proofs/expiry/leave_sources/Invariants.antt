use Rattle.mq_table.proofs.Common.{◌≡◌, ◌≤◌, ◌-◌, length, take, drop, vec_capacity, filter_map, list_any, Spends, running_among, runs_out, source_left}
use Rattle.mq_table.proofs.expiry.leave_sources.Given as goal

-- the places up to `left` have the rest of the passed sources; those ahead are unchanged
abbrev pub invariant-loop-place : goal.invariant-loop-place
invariant-loop-place g l = record {
  behind : l.left ≤ l.place;
  within : l.place ≤ length l.initial.sources.items;
  len : length l.sources.items ≡ length l.initial.sources.items;
  made : take l.left l.sources.items ≡ filter_map (source_left l.mode l.now) (take l.place l.initial.sources.items);
  ran_out : l.ran_out ≡ list_any (runs_out l.now) (take l.place l.initial.sources.items);
  rest : drop l.place l.sources.items ≡ drop l.place l.initial.sources.items;
  capacity : vec_capacity l.sources ≡ vec_capacity l.initial.sources;
  spent : Spends (running_among (take l.place l.initial.sources.items)) (running_among (take l.place l.initial.sources.items)) l.initial.m l.m;
}

abbrev pub decreases-loop-place : goal.decreases-loop-place
decreases-loop-place g l = length l.sources.items - l.place
