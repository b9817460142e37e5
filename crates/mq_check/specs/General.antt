-- General queries of the checked querier, which has its own phase. RFC 3376 sections 6.6.2, 8.2, 8.6 and 8.7, RFC 3810
-- sections 7.6.2, 9.2, 9.6 and 9.7.
use Rattle.std.specs.Prelude.{ℕ, ◌+◌, ◌-◌, ◌&&◌, ◌||◌, not, nat_lt, nat_le, Bool, true, false, if◌then◌else◌, Option, None, Some}
use Rattle.mq_table.specs.declared.timing.Timing.{Timing}
use Rattle.mq_table.specs.Timing.{query_interval, startup_interval, startup_count}
use Rattle.mq_check.specs.declared.phase.Phase.{Phase}
use Rattle.mq_check.specs.declared.phase.Phase.TheVariants.{Starting, Heard, Returned, NotQuerier}
use Rattle.mq_check.specs.Entries.{is_within}

-- The phase at the start of a capture, at 0. The start of the querier isn't known. So its first intervals may be
-- startup intervals, one fewer than the startup queries.
abbrev pub phase_at_start : Timing → Phase
phase_at_start timing = Starting (startup_count timing - 1)

-- The greatest Robustness Variable that a check allows for, if it is above 7.
abbrev pub greatest_variable : ℕ
greatest_variable = 255

abbrev pub phase_for : Timing → (above_7 : Bool) → Phase
phase_for timing true = Starting (greatest_variable - 1)
phase_for timing false = phase_at_start timing

-- more than a query interval and the tolerance has passed
abbrev pub is_late : (within : ℕ) → Timing → (passed : ℕ) → Bool
is_late within timing passed = nat_lt (query_interval timing + within) passed

-- the interval is a startup interval, if `startup` more may still come
abbrev pub is_of_start : (within : ℕ) → Timing → (startup interval : ℕ) → Bool
is_of_start within timing startup interval =
    nat_lt 0 startup && is_within within interval (startup_interval timing)

-- the interval between two general queries is the query interval, or a startup interval
abbrev pub is_interval : (within : ℕ) → Timing → (startup interval : ℕ) → Bool
is_interval within timing startup interval =
    is_of_start within timing startup interval || is_within within interval (query_interval timing)

-- the number of startup intervals that may still come: one fewer after a startup interval, and none after any other
abbrev pub startup_left : (within : ℕ) → Timing → (startup interval : ℕ) → ℕ
startup_left within timing startup interval =
    if is_of_start within timing startup interval then startup - 1 else 0

-- The time between a general query and the one before it, or the start of the capture, if it is wrong.
abbrev pub unless : Bool → ℕ → Option ℕ
unless true n = None
unless false n = Some n

abbrev pub wrong_interval : (within : ℕ) → Timing → (moment : ℕ) → Phase → Option ℕ
wrong_interval within timing moment (Starting startup) = unless (not (is_late within timing moment)) moment
wrong_interval within timing moment (Heard before startup) =
    unless (is_interval within timing startup (moment - before)) (moment - before)
wrong_interval within timing moment Returned = None
wrong_interval within timing moment NotQuerier = None

abbrev pub phase_behind : (within : ℕ) → Timing → (moment : ℕ) → Phase → Phase
phase_behind within timing moment (Starting startup) = Heard moment startup
phase_behind within timing moment (Heard before startup) =
    Heard moment (startup_left within timing startup (moment - before))
phase_behind within timing moment Returned = Heard moment 0
phase_behind within timing moment NotQuerier = NotQuerier

-- The time without general queries up to a moment, if it is too long. At this moment the role is lost or the capture
-- ends.
abbrev pub silence_up_to : (within : ℕ) → Timing → (moment : ℕ) → Phase → Option ℕ
silence_up_to within timing moment (Starting startup) = unless (not (is_late within timing moment)) moment
silence_up_to within timing moment (Heard before startup) =
    unless (not (is_late within timing (moment - before))) (moment - before)
silence_up_to within timing moment Returned = None
silence_up_to within timing moment NotQuerier = None

-- The phase after the router becomes querier again. The general query that it sends then may have been seen earlier,
-- within the tolerance.
abbrev pub phase_again : (within : ℕ) → (moment : ℕ) → (last : Option ℕ) → Phase
phase_again within moment None = Returned
phase_again within moment (Some last) = if nat_le moment (last + within) then Heard last 0 else Returned
