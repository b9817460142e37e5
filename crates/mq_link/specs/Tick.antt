-- The effect of a moment on a link. Timers end, the election may have something to do, and queries that are due are
-- sent (RFC 3376 sections 6.5, 6.6.2 and 6.6.3, RFC 3810 sections 7.5, 7.6.2 and 7.6.3).
use Rattle.std.specs.Prelude.{ℕ, max, if◌then◌else◌, List, [], ◌++◌, Option, None, Some}
use Rattle.std.specs.List.{flat_map}
use Rattle.std.specs.FinMap as map
use Rattle.mq_table.specs.declared.timing.Timing.{Timing}
use Rattle.mq_table.specs.Maps.{kept}
use Rattle.mq_table.specs.Group.{is_vacant}
use Rattle.mq_table.specs.Expiry.{expired}
use Rattle.mq_sched.specs.Schedule.{ScheduledGroup, settled}
use Rattle.mq_sched.specs.Sending.{SentQuery, messages_due, after_round}
use Rattle.mq_sched.specs.Election.{ticked, general_messages, next_moment}
pub use Rattle.mq_held.specs.Moments.{those_of, moments_of, moments_in, least}
use Rattle.mq_wire.specs.Family.{Family}
use Rattle.mq_link.specs.Family.{per_query}
use Rattle.mq_link.specs.Configuration.{Configuration}
use Rattle.mq_link.specs.State.{Groups, LinkState}

-- the moment of a call; a moment before the last one counts as the last one
abbrev pub moment_of : LinkState → ℕ → ℕ
moment_of state now = max state.last now

-- the group after its timers have ended, and its schedule; a group that is INCLUDE({}) then is no longer held
abbrev pub group_expired : ℕ → ScheduledGroup → ScheduledGroup
group_expired now e =
    let g = expired now e.group in
    record { group = g; schedule = settled g e.schedule }

abbrev pub if_held : ScheduledGroup → Option ScheduledGroup
if_held e = if is_vacant e.group then None else Some e

unfoldable pub groups_expired : ℕ → Groups → Groups
groups_expired now groups = kept (λ group e. if_held (group_expired now e)) groups

-- the queries of all groups that are due, by ascending group
unfoldable pub queries_due : Family → Timing → ℕ → Groups → List SentQuery
queries_due family timing now groups =
    flat_map (λ (e : ℕ × ScheduledGroup). messages_due (per_query family) timing now e.0 e.1) (map.entries groups)

unfoldable pub groups_after_round : Timing → ℕ → Groups → Groups
groups_after_round timing now groups = kept (λ group e. Some (after_round timing now e)) groups

-- The state after a call, its queries in order, and the timing by which they are sent.
pub record Step : Type 0 where
  pub state : LinkState
  pub queries : List SentQuery
  pub timing : Timing

-- A tick at a moment, in this order: the end of timers, the end of the other querier's deadline, and queries. First
-- goes the general query, if it is due, and then the queries that are due for the groups. However late the tick comes,
-- each is sent once.
abbrev pub tick_at : Configuration → (moment : ℕ) → LinkState → Step
tick_at config moment state =
    let groups = groups_expired moment state.groups in
    let election = ticked config.timing moment state.election in
    record {
      state = record {
        groups = groups_after_round election.timing moment groups;
        election = election;
        last = moment;
        counters = state.counters;
      };
      queries =
          general_messages config.timing moment state.election
          ++ queries_due config.family election.timing moment groups;
      timing = election.timing;
    }

abbrev pub tick_of : Configuration → (now : ℕ) → LinkState → Step
tick_of config now state = tick_at config (moment_of state now) state

-- the next moment at which a tick has something to do: the earliest of all deadlines and due moments
abbrev pub next_of : LinkState → ℕ
next_of state = least (next_moment state.election.role) (moments_in state.groups)

-- the step of a link that has waited until a moment, and sent nothing
abbrev pub waited : (moment : ℕ) → LinkState → Step
waited moment state =
    record { state = record state { last = moment }; queries = []; timing = state.election.timing }
