-- Values of the worked examples of schedules and of the election.
use Rattle.std.specs.Prelude.{ℕ, Option, Some}
use Rattle.mq_table.specs.declared.timing.Timing.{Timing}
use Rattle.mq_table.specs.Examples.{default_timing}
use Rattle.mq_sched.specs.Schedule.{QuerySchedule}

-- 232.1.1.1
abbrev pub the_group : ℕ
the_group = 3892379905

abbrev pub scheduled : ℕ → ℕ → Option QuerySchedule
scheduled sendings due = Some (record { sendings = sendings; due = due })

-- the defaults with another robustness variable, and with the values that a query announces
abbrev pub robust : ℕ → Timing
robust robustness = record default_timing { robustness = robustness }

abbrev pub announced_timing : Timing
announced_timing = record default_timing { robustness = 3; query_seconds = 60 }
