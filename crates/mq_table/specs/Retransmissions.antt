-- Retransmissions of group-and-source-specific queries, kept with the timers of the sources that they ask for. They are
-- started, counted and dropped (RFC 3376 section 6.6.3.2, RFC 3810 section 7.6.3.2).
use Rattle.std.specs.Prelude.{ℕ, ◌-◌, Bool, if◌then◌else◌, nat_lt, Some}
use Rattle.std.specs.List.{list_any}
use Rattle.std.specs.FinMap as map
use Rattle.mq_table.specs.declared.timing.Timing.{Timing}
use Rattle.mq_table.specs.Sets.{Set}
use Rattle.mq_table.specs.Maps.{kept}
use Rattle.mq_table.specs.Group.{GroupState, SourceTimer, Stopped, Running, is_ahead, deadline_of, timer_at, retransmissions_of}
use Rattle.mq_table.specs.Timing.{last_member_count}
use Rattle.mq_table.specs.Lowering.{lowered_to}

-- some source that the group holds passes a test
abbrev pub some_source : Set → GroupState → Bool
some_source test g = list_any test (map.keys g.sources)

abbrev pub has_retransmissions : GroupState → Set
has_retransmissions g s = nat_lt 0 (retransmissions_of (timer_at g s))

-- the sources whose timer is above the last member query time
abbrev pub above : Timing → ℕ → GroupState → Set
above timing now g s = is_ahead (lowered_to timing now) (deadline_of (timer_at g s))

-- the timer, lowered to the limit with `count` retransmissions to go if it is above the limit
abbrev pub source_asked : (limit count : ℕ) → SourceTimer → SourceTimer
source_asked limit count Stopped = Stopped
source_asked limit count (Running d n) = if nat_lt limit d then Running limit count else Running d n

-- The group after sources are asked for. Their timers above the last member query time are lowered to it, and the
-- number of retransmissions of each is set to the last member query count.
abbrev pub retransmissions_started : Timing → ℕ → Set → GroupState → GroupState
retransmissions_started timing now asked g =
    let limit = lowered_to timing now in
    let count = last_member_count timing in
    record g {
      sources = kept (λ s timer. Some (if asked s then source_asked limit count timer else timer)) g.sources;
    }

-- a timer with one retransmission fewer
abbrev pub source_counted : SourceTimer → SourceTimer
source_counted Stopped = Stopped
source_counted (Running d n) = Running d (n - 1)

abbrev pub retransmissions_counted : GroupState → GroupState
retransmissions_counted g = record g { sources = kept (λ s timer. Some (source_counted timer)) g.sources }

-- a timer without retransmissions
abbrev pub source_cleared : SourceTimer → SourceTimer
source_cleared Stopped = Stopped
source_cleared (Running d n) = Running d 0

abbrev pub retransmissions_cleared : GroupState → GroupState
retransmissions_cleared g = record g { sources = kept (λ s timer. Some (source_cleared timer)) g.sources }
