-- Specific queries: their start, their sending, and what is still to go afterwards. RFC 3376 sections 6.6.3.1 and
-- 6.6.3.2, RFC 3810 sections 7.6.3.1 and 7.6.3.2.
use Rattle.std.specs.Prelude.{ℕ, ◌+◌, ◌-◌, Bool, true, false, if◌then◌else◌, nat_lt, nat_le, List, [], ◌∷◌, ◌++◌, map as list_map, filter, Option, None, Some}
use Rattle.std.specs.FinMap as map
use Rattle.mq_table.specs.declared.timing.Timing.{Timing}
use Rattle.mq_table.specs.Sets.{Set, ◌∩◌, ◌∖◌}
use Rattle.mq_table.specs.Group.{GroupState, is_include, is_ahead, group_deadline}
use Rattle.mq_table.specs.Timing.{last_member_count}
use Rattle.mq_table.specs.Table.{GroupChange}
use Rattle.mq_table.specs.Lowering.{lowered_to, group_lowered}
use Rattle.mq_table.specs.Retransmissions.{some_source, has_retransmissions, above, retransmissions_started, retransmissions_counted}
use Rattle.mq_sched.specs.Portions.{portions_of}
use Rattle.mq_sched.specs.Schedule.{QuerySchedule, ScheduleState, ScheduledGroup, settled}

-- A query that a router sends. It is general, to a group, or to a group for some of its sources, which ascend (RFC 3376
-- section 4.1.11, RFC 3810 section 5.1.13). `suppress` is the flag Suppress Router-Side Processing: routers that
-- receive it lower nothing (sections 4.1.5 and 5.1.7).
pub data SentQuery : Type 0 where
  GeneralQuery : SentQuery
  GroupQuery : (group : ℕ) (suppress : Bool) → SentQuery
  SourcesQuery : (group : ℕ) (suppress : Bool) (sources : List ℕ) → SentQuery

-- Send Q(G). The group timer is lowered, and the last member query count of queries are to go, the first now. INCLUDE
-- has no group timer, and no row of the tables asks for its group.
abbrev pub group_asked : Timing → ℕ → ScheduledGroup → ScheduledGroup
group_asked timing now e = record {
  group = group_lowered timing now e.group;
  schedule = record {
    group_query =
        if is_include e.group.mode
        then e.schedule.group_query
        else Some (record { sendings = last_member_count timing; due = now });
    sources_due = e.schedule.sources_due;
  };
}

-- Send Q(G,asked). Each source asked for whose timer is above the last member query time is lowered to it, and gets the
-- last member query count of retransmissions. If there is one, a sending is due now; otherwise the schedule stays.
abbrev pub sources_asked : Timing → ℕ → Set → ScheduledGroup → ScheduledGroup
sources_asked timing now asked e =
    let g = e.group in
    record {
      group = retransmissions_started timing now asked g;
      schedule = record {
        group_query = e.schedule.group_query;
        sources_due = if some_source (asked ∩ above timing now g) g then Some now else e.schedule.sources_due;
      };
    }

-- The effect of a row's queries, which only the querier sends. RFC 3376 sections 6.4.2 and 6.6.3.2, RFC 3810 sections
-- 7.1 and 7.4.2.
abbrev pub acted : (is_querier : Bool) → Timing → ℕ → (query_group : Bool) → (query : Set)
    → ScheduledGroup → ScheduledGroup
acted false timing now query_group query e = e
acted true timing now query_group query e =
    sources_asked timing now query (if query_group then group_asked timing now e else e)

-- a group and its schedule after a record: the change, what it drops, and what it asks
abbrev pub after_change : (is_querier : Bool) → Timing → ℕ → GroupChange → ScheduleState → ScheduledGroup
after_change is_querier timing now change schedule =
    let e : ScheduledGroup = record { group = change.group; schedule = settled change.group schedule } in
    acted is_querier timing now change.query_group change.query e

abbrev pub is_due : ℕ → Option ℕ → Bool
is_due now None = false
is_due now (Some due) = nat_le due now

abbrev pub group_due : Option QuerySchedule → Option ℕ
group_due None = None
group_due (Some q) = Some q.due

-- the sources that pass a test, ascending
abbrev pub sources_where : Set → GroupState → List ℕ
sources_where test g = filter test (map.keys g.sources)

-- The queries for a list of sources, in portions of what one message holds. No query has an empty list.
abbrev pub sources_queries : (per_query group : ℕ) → Bool → List ℕ → List SentQuery
sources_queries per_query group suppress sources = list_map (SourcesQuery group suppress) (portions_of per_query sources)

abbrev pub group_messages : Timing → ℕ → ℕ → ScheduledGroup → List SentQuery
group_messages timing now group e =
    if is_due now (group_due e.schedule.group_query)
    then GroupQuery group (is_ahead (lowered_to timing now) (group_deadline e.group.mode)) ∷ []
    else []

-- The queries for the sources that have retransmissions to go. Those whose timer is above the last member query time go
-- with S set, and then the others with S clear.
abbrev pub waiting_messages : (per_query : ℕ) → Timing → ℕ → ℕ → GroupState → List SentQuery
waiting_messages per_query timing now group g =
    sources_queries per_query group true (sources_where (has_retransmissions g ∩ above timing now g) g)
    ++ sources_queries per_query group false (sources_where (has_retransmissions g ∖ above timing now g) g)

abbrev pub source_messages : (per_query : ℕ) → Timing → ℕ → ℕ → ScheduledGroup → List SentQuery
source_messages per_query timing now group e =
    if is_due now e.schedule.sources_due then waiting_messages per_query timing now group e.group else []

-- The queries of a group in one round, at or after the moment that is due. First goes its group query, with S set if
-- the group timer is above the last member query time. Then go the sources that have retransmissions to go: with S set
-- those whose timer is above that time, and then the others with S clear. The sources of either flag go in ascending
-- order, in as few messages as hold them.
abbrev pub messages_due : (per_query : ℕ) → Timing → ℕ → (group : ℕ) → ScheduledGroup → List SentQuery
messages_due per_query timing now group e =
    group_messages timing now group e ++ source_messages per_query timing now group e

-- the group query with one sending fewer, and the next after the last member query interval, if one is still to go
abbrev pub group_counted : Timing → ℕ → Option QuerySchedule → Option QuerySchedule
group_counted timing now None = None
group_counted timing now (Some q) =
    if nat_le q.due now
    then (
    if nat_lt 1 q.sendings
    then Some (record { sendings = q.sendings - 1; due = now + timing.last_member_interval })
    else None)
    else Some q

-- the moment when the sources are due next, if one has a retransmission to go
abbrev pub sources_due_next : Timing → ℕ → GroupState → Option ℕ
sources_due_next timing now g =
    if some_source (has_retransmissions g) g then Some (now + timing.last_member_interval) else None

-- The state after a round, however late it comes. Each query that was sent has one sending fewer.
abbrev pub after_round : Timing → ℕ → ScheduledGroup → ScheduledGroup
after_round timing now e =
    let due = is_due now e.schedule.sources_due in
    let g = if due then retransmissions_counted e.group else e.group in
    record {
      group = g;
      schedule = record {
        group_query = group_counted timing now e.schedule.group_query;
        sources_due = if due then sources_due_next timing now g else e.schedule.sources_due;
      };
    }
