-- A group that is held stays held, whatever is asked, sent or dropped.
use Rattle.mq_sched.proofs.Common.{◌≡◌, ℕ, Bool, true, false, cond, Some, refl, arith, Timing, Set, SourceTimer, Stopped, Running, is_running, IsWellFormed}
use Rattle.mq_sched.proofs.Common.{last_member_count, lowered_to, source_cleared, source_asked, source_counted, retransmissions_counted, ScheduledGroup}
use Rattle.mq_sched.proofs.Common.{cleared}
use Rattle.mq_sched.proofs.Common.{sources_asked, acted, is_due, after_round}
use Rattle.mq_table.proofs.Held.{IsWellFormed-replaced, IsWellFormed-group_lowered}

asked_runs : (limit count : ℕ) (b : Bool) (t : SourceTimer) → is_running (Some (cond b (source_asked limit count t) t)) ≡ is_running (Some t)
asked_runs limit count b t = grind arith

held_sources_asked : (timing : Timing) (now : ℕ) (asked : Set) (e : ScheduledGroup) → IsWellFormed e.group →
    IsWellFormed (sources_asked timing now asked e).group
held_sources_asked timing now asked e =
    IsWellFormed-replaced e.group e.group.mode (λ s t. cond (asked s) (source_asked (lowered_to timing now) (last_member_count timing) t) t) (λ m. m)
    (λ s t. asked_runs (lowered_to timing now) (last_member_count timing) (asked s) t)

pub held_acted : (is_querier : Bool) (timing : Timing) (now : ℕ) (query_group : Bool) (query : Set) (e : ScheduledGroup) → IsWellFormed e.group →
    IsWellFormed (acted is_querier timing now query_group query e).group
held_acted is_querier timing now query_group query e held = grind (arith, held_sources_asked, IsWellFormed-group_lowered)

counted_runs : (t : SourceTimer) → is_running (Some (source_counted t)) ≡ is_running (Some t)
counted_runs Stopped = refl
counted_runs (Running d n) = refl

pub held_after_round : (timing : Timing) (now : ℕ) (e : ScheduledGroup) → IsWellFormed e.group → IsWellFormed (after_round timing now e).group
held_after_round timing now e held = by_due (is_due now e.schedule.sources_due)
  where
    by_due : (b : Bool) → IsWellFormed (cond b (retransmissions_counted e.group) e.group)
    by_due true = IsWellFormed-replaced e.group e.group.mode (λ s. source_counted) (λ m. m) (λ s t. counted_runs t) held
    by_due false = held

cleared_runs : (t : SourceTimer) → is_running (Some (source_cleared t)) ≡ is_running (Some t)
cleared_runs Stopped = refl
cleared_runs (Running d n) = refl

pub held_cleared : (e : ScheduledGroup) → IsWellFormed e.group → IsWellFormed (cleared e).group
held_cleared e = IsWellFormed-replaced e.group e.group.mode (λ s. source_cleared) (λ m. m) (λ s t. cleared_runs t)
