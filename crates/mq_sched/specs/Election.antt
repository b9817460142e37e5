-- The election of a link's querier. The router with the lowest address is querier (RFC 3376 section 6.6.2, RFC 3810
-- section 7.6.2), as long as it is heard (sections 8.5 and 9.5). The S flag of a query does not suppress the election
-- (sections 4.1.5 and 5.1.7).
use Rattle.std.specs.Prelude.{ℕ, ◌+◌, ◌-◌, min, Bool, true, false, not, ◌&&◌, ◌||◌, if◌then◌else◌, nat_lt, nat_le, ◌==◌, List, [], ◌∷◌, Option, None, Some}
use Rattle.mq_table.specs.declared.timing.Timing.{Timing}
use Rattle.mq_table.specs.Timing.{query_interval, other_querier_present, startup_interval, startup_count}
use Rattle.mq_sched.specs.declared.announced.Announced.{Announced}
use Rattle.mq_sched.specs.Sending.{SentQuery, GeneralQuery}

-- The role of a router. The querier has the moment of its next general query, and the number of startup queries still
-- to go. Any other router has the source address of the last query that set its deadline. Until this deadline that
-- querier is assumed to be there.
pub data Role : Type 0 where
  Querier : (due startup_queries : ℕ) → Role
  Other : (address deadline : ℕ) → Role

-- the role, and the timing in force
pub record ElectionState : Type 0 where
  pub role : Role
  pub timing : Timing

abbrev pub is_querier : Role → Bool
is_querier (Querier due startup_queries) = true
is_querier (Other address deadline) = false

-- The state at the start: the router is querier, and all startup queries are to go (sections 8.7 and 9.7). RFC 2236
-- section 3, whose election RFC 3376 section 6.6.2 takes; RFC 3810 section 7.6.2.
abbrev pub election_at : Timing → ℕ → ElectionState
election_at configured start =
    record { role = Querier start (startup_count configured); timing = configured }

-- a value that a query carried; zero stands for none, and restores the configured value
abbrev pub heard_or : ℕ → ℕ → ℕ
heard_or configured value = if value == 0 then configured else value

-- The timing after a query. A router adopts the robustness variable of every query that has one. If it isn't querier,
-- it also adopts the query interval (RFC 3376 sections 4.1.6 and 4.1.7, RFC 3810 sections 5.1.8 and 5.1.9).
abbrev pub adopted : Timing → (is_other : Bool) → Option Announced → Timing → Timing
adopted configured is_other None timing = timing
adopted configured is_other (Some said) timing = record timing {
  robustness = heard_or configured.robustness said.robustness;
  query_seconds =
      if is_other then heard_or configured.query_seconds said.query_seconds else timing.query_seconds;
}

-- a query from this source takes the role from a querier
abbrev pub loses_role : (own source : ℕ) → Role → Bool
loses_role own source role = is_querier role && nat_lt source own

-- The state after a query was received, in this order. If its address is lower than the router's own, the router is no
-- longer querier. Then the timing is adopted. Then a lower address sets the deadline, by the adopted timing.
abbrev pub heard : (configured : Timing) → (own now source : ℕ) → Option Announced
    → ElectionState → ElectionState
heard configured own now source announced e =
    let lower = nat_lt source own in
    let is_other = lower || not (is_querier e.role) in
    let timing = adopted configured is_other announced e.timing in
    record { role = if lower then Other source (now + other_querier_present timing) else e.role; timing = timing }

-- the other querier's deadline has come
abbrev pub deadline_ended : ℕ → Role → Bool
deadline_ended now (Querier due startup_queries) = false
deadline_ended now (Other address deadline) = nat_le deadline now

-- The state after the end of that deadline. The router is querier again, with the configured timing and a general query
-- that is due at once, and without another startup.
abbrev pub returned : (configured : Timing) → ℕ → ElectionState → ElectionState
returned configured now e =
    if deadline_ended now e.role
    then record { role = Querier now 0; timing = configured }
    else e

abbrev pub general_is_due : ℕ → Role → Bool
general_is_due now (Querier due startup_queries) = nat_le due now
general_is_due now (Other address deadline) = false

-- The role after a general query, with the moment of the next. While startup queries are still to go, it is due after
-- the startup interval, and otherwise after the query interval. RFC 3376 sections 8.2, 8.6 and 8.7, RFC 3810 sections
-- 9.2, 9.6 and 9.7.
abbrev pub after_general : Timing → ℕ → Role → Role
after_general timing now (Querier due startup_queries) =
    let interval = if nat_lt 1 startup_queries then startup_interval timing else query_interval timing in
    Querier (now + interval) (startup_queries - 1)
after_general timing now (Other address deadline) = Other address deadline

-- The state after a tick: the end of the other querier's deadline, and then the general query, if it is due. One is
-- sent, however late the tick comes.
abbrev pub ticked : (configured : Timing) → ℕ → ElectionState → ElectionState
ticked configured now e =
    let r = returned configured now e in
    if general_is_due now r.role
    then record { role = after_general r.timing now r.role; timing = r.timing }
    else r

abbrev pub general_messages : (configured : Timing) → ℕ → ElectionState → List SentQuery
general_messages configured now e =
    if general_is_due now (returned configured now e).role then GeneralQuery ∷ [] else []

-- A variable in force after another configuration. If its configured value changes, the new one is in force at once.
-- Otherwise it stays, as configured or as adopted.
abbrev pub reconfigured_value : (before configured in_force : ℕ) → ℕ
reconfigured_value before configured in_force = if configured == before then in_force else configured

abbrev pub timing_reconfigured : (before configured : Timing) → Timing → Timing
timing_reconfigured before configured timing = record configured {
  robustness = reconfigured_value before.robustness configured.robustness timing.robustness;
  query_seconds = reconfigured_value before.query_seconds configured.query_seconds timing.query_seconds;
}

-- the other querier has no lower address than the router
abbrev pub outranks : (own : ℕ) → Role → Bool
outranks own (Querier due startup_queries) = false
outranks own (Other address deadline) = not (nat_lt address own)

-- The role under another timing. The next general query is due at most one query interval from now, as group timers of
-- this timing need it.
abbrev pub role_reconfigured : Timing → ℕ → Role → Role
role_reconfigured timing now (Querier due startup_queries) = Querier (min due (now + query_interval timing)) startup_queries
role_reconfigured timing now (Other address deadline) = Other address deadline

-- The state after another own address and other variables are configured. A querier stays querier. Another router stays
-- querier, until its deadline, if its address is lower than the own one. Otherwise this router is querier at once, as
-- after that deadline.
abbrev pub reconfigured : (before configured : Timing) → (own now : ℕ) → ElectionState → ElectionState
reconfigured before configured own now e =
    let timing = timing_reconfigured before configured e.timing in
    if outranks own e.role
    then record { role = Querier now 0; timing = configured }
    else record { role = role_reconfigured timing now e.role; timing = timing }

-- the next moment of the election: the general query, or the end of the other querier's deadline
abbrev pub next_moment : Role → ℕ
next_moment (Querier due startup_queries) = due
next_moment (Other address deadline) = deadline
