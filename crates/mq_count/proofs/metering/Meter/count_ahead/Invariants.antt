use Rattle.mq_count.proofs.Common.{◌≡◌, ◌≤◌, ◌-◌, length, true, lies_ahead}
use Rattle.std.specs.List.{AllWithin}
use Rattle.mq_count.proofs.metering.Meter.count_ahead.Given as goal

-- those so far lie ahead
abbrev pub invariant-loop-ahead : goal.invariant-loop-ahead
invariant-loop-ahead g l = record {
  within : l.ahead ≤ length l.items;
  ahead : AllWithin (λ x. lies_ahead l.now (g.T.Timed.moment_of x) ≡ true) l.items 0 l.ahead;
  meter : l.self ≡ l.initial.self;
}

abbrev pub decreases-loop-ahead : goal.decreases-loop-ahead
decreases-loop-ahead g l = length l.items - l.ahead
