-- A tick leaves nothing for the election to do at or before its moment.
use Rattle.mq_sched.proofs.Common.{◌≡◌, ℕ, ◌+◌, ◌<◌, Bool, true, false, cond, arith, ltb, leb-false, Timing, query_interval, startup_interval}
use Rattle.mq_sched.specs.Election.{Role, Querier, Other, ElectionState, deadline_ended, general_is_due, after_general, ticked, next_moment}

later_general : (timing : Timing) (now : ℕ) (b : Bool) → 0 < timing.query_seconds → now < now + cond b (startup_interval timing) (query_interval timing)
later_general timing now true positive = omega arith
later_general timing now false positive = omega arith

after_due : (timing : Timing) (now : ℕ) (role : Role) → 0 < timing.query_seconds → general_is_due now role ≡ true →
    now < next_moment (after_general timing now role)
after_due timing now (Querier due queries) positive e = later_general timing now (ltb 1 queries) positive
after_due timing now (Other address d) positive e = cc

not_due : (now : ℕ) (role : Role) → deadline_ended now role ≡ false → general_is_due now role ≡ false → now < next_moment role
not_due now (Querier due queries) ended due_now = leb-false due now due_now
not_due now (Other address d) ended due_now = leb-false d now ended

sent_or_not : (now : ℕ) (e : ElectionState) → 0 < e.timing.query_seconds → deadline_ended now e.role ≡ false → (b : Bool) →
    general_is_due now e.role ≡ b → now < next_moment (cond b (record { role = after_general e.timing now e.role; timing = e.timing }) e).role
sent_or_not now e positive ended true h = after_due e.timing now e.role positive h
sent_or_not now e positive ended false h = not_due now e.role ended h

-- a router that has just returned is querier, so no other querier's deadline stands
pub later_moment : (configured : Timing) (now : ℕ) (e : ElectionState) → 0 < configured.query_seconds → 0 < e.timing.query_seconds →
    now < next_moment (ticked configured now e).role
later_moment configured now e own_positive positive = grind (arith, sent_or_not)
