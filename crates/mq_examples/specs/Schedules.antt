-- The terms of the worked examples of schedules and of the election.
use Rattle.std.specs.Prelude.{◌≡◌, ℕ, true, List, [], ◌∷◌, Option, None, Some}
use Rattle.mq_table.specs.declared.kind.Kind.{Kind}
use Rattle.mq_table.specs.declared.timing.Timing.{Timing}
use Rattle.mq_table.specs.declared.timers.FilterMode.{FilterMode}
use Rattle.mq_table.specs.declared.timers.FilterMode.TheVariants.{Include, Exclude}
use Rattle.mq_table.specs.declared.timers.SourceTimer.{SourceTimer}
use Rattle.mq_table.specs.declared.timers.SourceTimer.TheVariants.{Running}
use Rattle.mq_table.specs.Group.{GroupState}
use Rattle.mq_table.specs.Examples.{default_timing}
use Rattle.mq_examples.specs.Groups.{group_in, group_with, naming}
use Rattle.mq_table.specs.Table.{change_of}
use Rattle.mq_sched.specs.declared.queries.QuerySchedule.{QuerySchedule}
use Rattle.mq_sched.specs.Schedule.{ScheduledGroup}
use Rattle.mq_sched.specs.Sending.{SentQuery, after_change, messages_due, after_round}
use Rattle.mq_sched.specs.declared.announced.Announced.{Announced}
use Rattle.mq_sched.specs.Election.{Querier, Other, ElectionState}
use Rattle.mq_sched.specs.Examples.{the_group, scheduled}

-- the sources that a message of IGMP holds in a packet of 1500 octets (RFC 3376 section 4.1.8)
abbrev pub per_query : ℕ
per_query = 366

-- a group with its schedule
abbrev pub scheduled_group : GroupState → Option QuerySchedule → Option ℕ → ScheduledGroup
scheduled_group g group_query sources_due =
    record { group = g; schedule = record { group_query = group_query; sources_due = sources_due } }

-- a group without older hosts, with its schedule
abbrev pub with_schedule : FilterMode → List (ℕ × SourceTimer) → Option QuerySchedule → Option ℕ
    → ScheduledGroup
with_schedule mode sources group_query sources_due =
    scheduled_group (group_in mode sources) group_query sources_due

-- these queries are sent at a moment, and leave this group
pub record Sends (now : ℕ) (e : ScheduledGroup) (queries : List SentQuery) (after : ScheduledGroup)
    : Type 0 where
  pub queries_sent : messages_due per_query default_timing now the_group e ≡ queries
  pub leaves : after_round default_timing now e ≡ after

-- a group of the querier after a record at a moment
abbrev pub recorded_at : ℕ → ScheduledGroup → Kind → List ℕ → ScheduledGroup
recorded_at now e kind named =
    let change = change_of default_timing now e.group kind (naming named) in
    after_change true default_timing now change e.schedule

-- a group of the querier after a record at 1000, if nothing was to go
abbrev pub recorded : GroupState → Kind → List ℕ → ScheduledGroup
recorded g kind named = recorded_at 1000 (scheduled_group g None None) kind named

abbrev pub querier : Timing → ℕ → ℕ → ElectionState
querier timing due startup_queries = record { role = Querier due startup_queries; timing = timing }

-- the state while the router with the address 2 is querier
abbrev pub other_until : Timing → ℕ → ElectionState
other_until timing deadline = record { role = Other 2 deadline; timing = timing }

-- the defaults with this many specific queries
abbrev pub counted : ℕ → Timing
counted count = record default_timing { last_member_query_count = count }

abbrev pub announced : ℕ → ℕ → Option Announced
announced robustness query_seconds =
    Some (record { robustness = robustness; query_seconds = query_seconds })

-- INCLUDE({1, 2}) after both have been blocked and asked for at 2000, and then after 1 is allowed at 2500
abbrev pub blocked : ScheduledGroup
blocked = with_schedule Include ((1, Running 4000 1) ∷ (2, Running 4000 1) ∷ []) None (Some 3000)

abbrev pub refreshed : ScheduledGroup
refreshed = with_schedule Include ((1, Running 262500 1) ∷ (2, Running 4000 1) ∷ []) None (Some 3000)

-- the group of IGMPv2 hosts after a Leave at 2000, for which it is asked, and after a Report at 2500
abbrev pub after_leave : ScheduledGroup
after_leave = scheduled_group (group_with (Exclude 4000) [] None (Some 261000)) (scheduled 1 3000) None

abbrev pub reported_v2 : ScheduledGroup
reported_v2 = scheduled_group (group_with (Exclude 262500) [] None (Some 262500)) (scheduled 1 3000) None
