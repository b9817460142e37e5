-- A deadline once it is lowered, and once it is lowered twice.
use Rattle.mq_laws.proofs.Common.{ℕ, Bool, cond, Option, sym, subst, arith, option_map, timer_at-sources_lowered, GroupState, timer_at, deadline_of}
use Rattle.mq_laws.proofs.Common.{group_deadline, lowered_to, mode_lowered, source_lowered, sources_lowered, Set, FilterMode, SourceTimer, Timing, IsNoLater}

pub group_no_later : (limit : ℕ) (mode : FilterMode) → IsNoLater (group_deadline mode) (group_deadline (mode_lowered limit mode))
group_no_later limit mode = grind arith

source_no_later : (limit : ℕ) (b : Bool) (t : Option SourceTimer) → IsNoLater (deadline_of t) (deadline_of (cond b (option_map (source_lowered limit) t) t))
source_no_later limit b t = grind arith

pub sources_no_later : (timing : Timing) (now : ℕ) (asked : Set) (g : GroupState) (s : ℕ)
    → IsNoLater (deadline_of (timer_at g s)) (deadline_of (timer_at (sources_lowered timing now asked g) s))
sources_no_later timing now asked g s = subst (λ t. IsNoLater (deadline_of (timer_at g s)) (deadline_of t))
    (sym (timer_at-sources_lowered timing now asked g s)) (source_no_later (lowered_to timing now) (asked s) (timer_at g s))
