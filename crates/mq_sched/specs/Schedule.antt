-- The specific queries that are still to go for one group. The retransmissions of a source are kept with its timer;
-- here is the moment when the next is due (RFC 3376 section 6.6.3, RFC 3810 section 7.6.3).
use Rattle.std.specs.Prelude.{◌≡◌, ℕ, ◌<◌, if◌then◌else◌, Option, None, Some, IfSome, is_some}
use Rattle.mq_table.specs.declared.timers.FilterMode.TheVariants.{Include}
use Rattle.mq_table.specs.Group.{GroupState, is_include}
use Rattle.mq_table.specs.Retransmissions.{some_source, has_retransmissions, retransmissions_cleared}
-- the number of sendings of a query that are still to go, and the moment when the next is due
pub use Rattle.mq_sched.specs.declared.queries.QuerySchedule.{QuerySchedule}

-- the number of sendings, and 0 without a query
abbrev pub query_sendings : Option QuerySchedule → ℕ
query_sendings None = 0
query_sendings (Some q) = q.sendings

-- The queries to go for a group. They are its group-specific query, and the moment of the next
-- group-and-source-specific queries for the sources that have retransmissions to go.
pub record ScheduleState : Type 0 where
  pub group_query : Option QuerySchedule
  pub sources_due : Option ℕ

-- a group with its schedule
pub record ScheduledGroup : Type 0 where
  pub group : GroupState
  pub schedule : ScheduleState

abbrev pub no_schedule : ScheduleState
no_schedule = record { group_query = None; sources_due = None }

-- The schedule fits its group. Only EXCLUDE has a group query, which has a sending to go. There is a moment for sources
-- exactly if a source has a retransmission to go.
pub record IsScheduleOf (g : GroupState) (schedule : ScheduleState) : Type 0 where
  pub exclude_only : g.mode ≡ Include → schedule.group_query ≡ None
  pub group_sendings : IfSome schedule.group_query (λ q. 0 < q.sendings)
  pub sources_retransmissions : is_some schedule.sources_due ≡ some_source (has_retransmissions g) g

-- The schedule after a record or expired timers have changed its group. A group in INCLUDE has no group query. If no
-- source has a retransmission to go, nothing is due for sources.
abbrev pub settled : GroupState → ScheduleState → ScheduleState
settled g schedule = record {
  group_query = if is_include g.mode then None else schedule.group_query;
  sources_due = if some_source (has_retransmissions g) g then schedule.sources_due else None;
}

-- The group after its router is no longer querier: all that was to go is dropped, and no timer changes. RFC 3376
-- section 6.6.2, RFC 3810 section 7.6.2.
abbrev pub cleared : ScheduledGroup → ScheduledGroup
cleared e = record { group = retransmissions_cleared e.group; schedule = no_schedule }
