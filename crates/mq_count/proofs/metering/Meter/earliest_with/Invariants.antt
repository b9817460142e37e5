use Rattle.mq_count.proofs.Common.{◌≡◌, ◌+◌, length, take, least, moments_by}
use Rattle.mq_count.proofs.metering.Meter.earliest_with.Given as goal

-- the earliest so far, and how many items had no moment
abbrev pub invariant-loop-x : goal.invariant-loop-x
invariant-loop-x g l = record {
  earliest : l.earliest ≡ least l.fn.first (moments_by g.T.Timed.moment_of (take l.x-index l.items));
  without : l.without + length (moments_by g.T.Timed.moment_of (take l.x-index l.items)) ≡ l.x-index;
  meter : l.self ≡ l.initial.self;
}
