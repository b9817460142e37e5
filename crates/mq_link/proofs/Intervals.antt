-- The timing in force differs from the configured one in the variables alone that queries of other routers carry.
use Rattle.mq_link.proofs.Common.{ℕ, Bool, true, false, cond, refl, Option, None, Some, Timing, Announced, ElectionState, Querier, is_querier, election_at}
use Rattle.mq_link.proofs.Common.{adopted, heard, deadline_ended, returned, general_is_due, after_general, ticked, KeepsIntervals}
use Rattle.std.specs.Prelude.{nat_lt, not, ◌||◌}

pub kept-election_at : (configured : Timing) (start : ℕ) → KeepsIntervals configured (election_at configured start).timing
kept-election_at configured start = record { response = refl; last_member = refl }

kept_adopted : (configured : Timing) (is_other : Bool) (said : Option Announced) (timing : Timing) → KeepsIntervals configured timing →
    KeepsIntervals configured (adopted configured is_other said timing)
kept_adopted configured is_other None timing kept = kept
kept_adopted configured is_other (Some said) timing kept = record { response = kept.response; last_member = kept.last_member }

pub kept-heard : (configured : Timing) (own now source : ℕ) (said : Option Announced) (e : ElectionState) → KeepsIntervals configured e.timing →
    KeepsIntervals configured (heard configured own now source said e).timing
kept-heard configured own now source said e kept = kept_adopted configured (nat_lt source own || not (is_querier e.role)) said e.timing kept

kept_returned : (configured : Timing) (now : ℕ) (e : ElectionState) → KeepsIntervals configured e.timing →
    KeepsIntervals configured (returned configured now e).timing
kept_returned configured now e kept = by_end (deadline_ended now e.role)
  where
    by_end : (b : Bool) → KeepsIntervals configured (cond b (record { role = Querier now 0; timing = configured }) e).timing
    by_end true = record { response = refl; last_member = refl }
    by_end false = kept

pub kept-ticked : (configured : Timing) (now : ℕ) (e : ElectionState) → KeepsIntervals configured e.timing →
    KeepsIntervals configured (ticked configured now e).timing
kept-ticked configured now e kept =
    let r : ElectionState = returned configured now e in
    let before = kept_returned configured now e kept in
    by_due r before (general_is_due now r.role)
  where
    by_due : (r : ElectionState) → KeepsIntervals configured r.timing → (b : Bool) →
        KeepsIntervals configured (cond b (record { role = after_general r.timing now r.role; timing = r.timing }) r).timing
    by_due r before true = before
    by_due r before false = before
