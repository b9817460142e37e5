-- Asking for a group or for sources makes no timer end later.
use Rattle.mq_laws.proofs.Common.{ℕ, Bool, true, false, cond, Option, sym, subst, arith, option_map, timer_at, deadline_of, group_deadline, lowered_to}
use Rattle.mq_laws.proofs.Common.{source_asked, Set, last_member_count, SourceTimer, Timing, ScheduledGroup, group_asked, sources_asked, acted, IsNoLater}
use Rattle.mq_laws.proofs.Common.{timer_at-sources_asked}

no_later_refl : (d : Option ℕ) → IsNoLater d d
no_later_refl d = grind arith

asked_no_later : (limit count : ℕ) (b : Bool) (t : Option SourceTimer)
    → IsNoLater (deadline_of t) (deadline_of (cond b (option_map (source_asked limit count) t) t))
asked_no_later limit count b t = grind arith

sources_asked_no_later : (timing : Timing) (now : ℕ) (asked : Set) (e : ScheduledGroup) (s : ℕ)
    → IsNoLater (deadline_of (timer_at e.group s)) (deadline_of (timer_at (sources_asked timing now asked e).group s))
sources_asked_no_later timing now asked e s = subst (λ t. IsNoLater (deadline_of (timer_at e.group s)) (deadline_of t))
    (sym (timer_at-sources_asked timing now asked e s)) (asked_no_later (lowered_to timing now) (last_member_count timing) (asked s) (timer_at e.group s))

pub acted_group_no_later : (is_querier : Bool) (timing : Timing) (now : ℕ) (query_group : Bool) (query : Set) (e : ScheduledGroup)
    → IsNoLater (group_deadline e.group.mode) (group_deadline (acted is_querier timing now query_group query e).group.mode)
acted_group_no_later is_querier timing now query_group query e = grind arith

pub acted_sources_no_later : (is_querier : Bool) (timing : Timing) (now : ℕ) (query_group : Bool) (query : Set) (e : ScheduledGroup) (s : ℕ)
    → IsNoLater (deadline_of (timer_at e.group s)) (deadline_of (timer_at (acted is_querier timing now query_group query e).group s))
acted_sources_no_later false timing now query_group query e s = no_later_refl (deadline_of (timer_at e.group s))
acted_sources_no_later true timing now false query e s = sources_asked_no_later timing now query e s
acted_sources_no_later true timing now true query e s = sources_asked_no_later timing now query (group_asked timing now e) s
