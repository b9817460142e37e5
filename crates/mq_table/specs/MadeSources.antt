-- The sources of a list after a change that adds none.
use Rattle.std.specs.Prelude.{ℕ, ◌==◌, Bool, false, not, if◌then◌else◌, nat_lt, List, length, Option, Some}
use Rattle.mq_count.specs.Timed.{moments_by}
use Rattle.mq_table.specs.declared.sources.Source.{Source}
use Rattle.mq_table.specs.Group.{FilterMode, SourceTimer, Stopped, Running, deadline_of}
use Rattle.mq_table.specs.Expiry.{source_expired}
use Rattle.mq_table.specs.Lowering.{source_lowered}
use Rattle.mq_table.specs.Retransmissions.{source_counted, source_cleared}
use Rattle.mq_table.specs.declared.retransmissions.Recount.{Recount}
use Rattle.mq_table.specs.declared.retransmissions.Recount.TheVariants.{OneFewer, NoneLeft}
use Rattle.mq_table.specs.MergedRecord.{source_with}

-- a timer expires by `now`
abbrev pub timer_runs_out : (now : ℕ) → SourceTimer → Bool
timer_runs_out now Stopped = false
timer_runs_out now (Running d n) = not (nat_lt now d)

-- the source after the expiry of timers, if it stays
abbrev pub source_left : {K : Type 0} → FilterMode → ℕ → Source K → Option (Source K)
source_left mode now x = source_with x.address (source_expired mode now x.timer)

-- the timer of a source expires by `now`
abbrev pub runs_out : {K : Type 0} → (now : ℕ) → Source K → Bool
runs_out now x = timer_runs_out now x.timer

-- the number of sources with a running timer
abbrev pub running_among : {K : Type 0} → List (Source K) → ℕ
running_among sources = length (moments_by (λ x. deadline_of (Some x.timer)) sources)

-- the source, lowered if it has number n
abbrev pub source_lowered_at : {K : Type 0} → (K → ℕ) → (limit n : ℕ) → Source K → Option (Source K)
source_lowered_at number limit n x =
    Some (record { address = x.address; timer = if number x.address == n then source_lowered limit x.timer else x.timer })

-- a timer with its retransmissions counted anew
abbrev pub timer_recounted : Recount → SourceTimer → SourceTimer
timer_recounted OneFewer timer = source_counted timer
timer_recounted NoneLeft timer = source_cleared timer

abbrev pub source_recounted : {K : Type 0} → Recount → Source K → Source K
source_recounted recount x = record { address = x.address; timer = timer_recounted recount x.timer }

-- a source with one retransmission fewer
abbrev pub item_counted : {K : Type 0} → Source K → Source K
item_counted x = record { address = x.address; timer = source_counted x.timer }
