-- The end of timers leaves only what is still ahead.
use Rattle.mq_table.proofs.Common.{ℕ, ◌<◌, Bool, true, false, cond, Option, IfSome, sym, subst, arith, ltb-true, option_and_then, nat_cmp, GroupState}
use Rattle.mq_table.proofs.Common.{FilterMode, Include, Exclude, SourceTimer, is_vacant, vacant, deadline_of, group_deadline, ahead, mode_expired, at_zero}
use Rattle.mq_table.proofs.Common.{source_expired, expired, AllAhead}
use Rattle.mq_table.proofs.{Maps.get-kept, Composed.ended_at}
use Rattle.std.specs.FinMap as map

ahead_of : (now : ℕ) (o : Option ℕ) → IfSome (option_and_then (ahead now) o) (λ d. now < d)
ahead_of now o = grind (arith, ltb-true)

mode_ahead : (now : ℕ) (mode : FilterMode) → IfSome (group_deadline (mode_expired now mode)) (λ d. now < d)
mode_ahead now mode = grind (arith, ltb-true)

zero_ahead : (now : ℕ) (mode : FilterMode) → IfSome (deadline_of (at_zero mode)) (λ d. now < d)
zero_ahead now Include = tt
zero_ahead now (Exclude d) = tt

source_ahead : (mode : FilterMode) (now : ℕ) (t : Option SourceTimer) → IfSome (deadline_of (option_and_then (source_expired mode now) t)) (λ d. now < d)
source_ahead mode now t = grind (arith, zero_ahead, ltb-true)

vacant_ahead : (now : ℕ) → AllAhead now vacant
vacant_ahead now = record { group = tt; sources = λ s. subst (λ t. IfSome (deadline_of t) (λ d. now < d)) (sym (map.get-empty nat_cmp s)) tt; v1 = tt; v2 = tt }

ended_ahead : (now : ℕ) (g : GroupState) → AllAhead now (ended_at now g)
ended_ahead now g = grind (arith, mode_ahead, get-kept, source_ahead, ahead_of)

pub AllAhead-expired : (now : ℕ) (g : GroupState) → AllAhead now (expired now g)
AllAhead-expired now g = by_held (is_vacant (ended_at now g))
  where
    by_held : (b : Bool) → AllAhead now (cond b vacant (ended_at now g))
    by_held true = vacant_ahead now
    by_held false = ended_ahead now g
