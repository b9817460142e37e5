-- Values of the worked examples: the timing of the standards' defaults, and a timer. Moments are milliseconds.
use Rattle.std.specs.Prelude.{ℕ}
use Rattle.mq_table.specs.declared.timing.Timing.{Timing}
use Rattle.mq_table.specs.Group.{SourceTimer, Running}

-- the defaults of RFC 3376 section 8 and RFC 3810 section 9
abbrev pub default_timing : Timing
default_timing = record {
  robustness = 2;
  query_seconds = 125;
  response_interval = 10000;
  last_member_interval = 1000;
  last_member_query_count = 0;
}

-- a running timer with no retransmission to go
abbrev pub until : ℕ → SourceTimer
until deadline = Running deadline 0
