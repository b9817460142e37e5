-- The terms of the worked examples of a link. Groups and links are listed: each source with its timer, each group with
-- its sources and its schedule.
use Rattle.std.specs.Prelude.{◌≡◌, ℕ, zero, suc, ◌+◌, ◌-◌, ◌*◌, ◌/◌, ◌%◌, ◌^◌, Bool, true, false, List, [], ◌∷◌, map as list_map, Option, None, Some}
use Rattle.std.specs.FinMap as map
use Rattle.mq_wire.specs.Family.{Igmp, Mld}
use Rattle.mq_wire.specs.declared.records.RecordView.{RecordView}
use Rattle.mq_table.specs.declared.timing.Timing.{Timing}
use Rattle.mq_table.specs.declared.timers.FilterMode.{FilterMode}
use Rattle.mq_table.specs.declared.timers.FilterMode.TheVariants.{Exclude}
use Rattle.mq_table.specs.declared.timers.SourceTimer.{SourceTimer}
use Rattle.mq_table.specs.Group.{GroupState}
use Rattle.mq_table.specs.Examples.{default_timing}
use Rattle.mq_sched.specs.declared.queries.QuerySchedule.{QuerySchedule}
use Rattle.mq_sched.specs.Schedule.{ScheduleState, ScheduledGroup, no_schedule}
use Rattle.mq_sched.specs.Sending.{SentQuery}
use Rattle.mq_sched.specs.Election.{ElectionState, Querier, Other}
use Rattle.mq_sched.specs.Examples.{robust}
use Rattle.mq_link.specs.declared.configuration.Limits.{Limits}
use Rattle.mq_link.specs.declared.answers.Received.{Received}
use Rattle.mq_link.specs.declared.answers.DropReason.{DropReason}
use Rattle.mq_link.specs.declared.answers.MessageKind.{MessageKind}
use Rattle.mq_link.specs.declared.answers.Refusal.{Refusal}
use Rattle.mq_link.specs.Configuration.{Configuration}
use Rattle.mq_link.specs.declared.ranges.GroupRange.{GroupRange}
use Rattle.mq_link.specs.Configured.{configured}
use Rattle.mq_link.specs.Counters.{Counters, Verdict, no_counts}
use Rattle.mq_link.specs.State.{Groups, LinkState, forwards}
use Rattle.mq_link.specs.Tick.{Step, tick_of, next_of}
use Rattle.mq_link.specs.Record.{Setting, judged, all_judged}
use Rattle.mq_link.specs.Receive.{Envelope, receipt_of}

-- the octets of a number, the most significant first
abbrev pub octets : ℕ → ℕ → List ℕ
octets zero number = []
octets (suc n) number = number / 256 ^ n % 256 ∷ octets n number

-- an address of IPv4, and the hosts 10.0.0.1 and so on
abbrev pub ipv4 : (a b c d : ℕ) → ℕ
ipv4 a b c d = ((a * 256 + b) * 256 + c) * 256 + d

abbrev pub host : ℕ → ℕ
host n = ipv4 10 0 0 n

abbrev pub default_limits : Limits
default_limits = record { groups = 1024; group_sources = 366; sources = 16384; scheduled = 256 }

-- a range of groups
abbrev pub range : (address length : ℕ) → Bool → GroupRange
range address length allows = record { address = address; length = length; allows = allows }

-- the defaults, for the routers 10.0.0.9 and fe80::1
abbrev pub igmp : Configuration
igmp = configured Igmp default_timing default_limits (host 9) false

abbrev pub mld : Configuration
mld =
    configured Mld default_timing (record { groups = 1024; group_sources = 89; sources = 16384; scheduled = 256 })
    (0xfe80 * 2 ^ 112 + 1) false

-- the defaults of IGMP with other limits, and with the source-specific range kept
abbrev pub limited : (groups group_sources sources scheduled : ℕ) → Configuration
limited groups group_sources sources scheduled =
    configured Igmp default_timing (record { groups = groups; group_sources = group_sources; sources = sources; scheduled = scheduled })
    (host 9) false

abbrev pub source_specific_igmp : Configuration
source_specific_igmp = record igmp { source_specific = true }

-- a configuration of IGMP with these variables, and with this address
abbrev pub timed : (robustness query_seconds response_interval last_member_interval : ℕ) → Configuration
timed robustness query_seconds response_interval last_member_interval = record igmp {
  timing = record {
    robustness = robustness;
    query_seconds = query_seconds;
    response_interval = response_interval;
    last_member_interval = last_member_interval;
    last_member_query_count = 0;
  };
}

-- the configuration of IGMP with this last member query count
abbrev pub queried : ℕ → Configuration
queried count = record igmp { timing = record igmp.timing { last_member_query_count = count } }

abbrev pub owned : ℕ → Configuration
owned own = record igmp { own = own }

-- the defaults of MLD with more sources a group, with another address, and with the source-specific range kept
abbrev pub mld_limited : (group_sources : ℕ) → Configuration
mld_limited group_sources =
    configured Mld default_timing (record { groups = 1024; group_sources = group_sources; sources = 16384; scheduled = 256 })
    (0xfe80 * 2 ^ 112 + 1) false

abbrev pub mld_owned : ℕ → Configuration
mld_owned own = record mld { own = own }

abbrev pub source_specific_mld : Configuration
source_specific_mld = record mld { source_specific = true }

-- fe80::n, 2001:db8::1, ff0e::1234 and ff3e::1
abbrev pub link_local : ℕ → ℕ
link_local n = 0xfe80 * 2 ^ 112 + n

abbrev pub a_source : ℕ
a_source = 0x20010db8 * 2 ^ 96 + 1

abbrev pub a_group : ℕ
a_group = 0xff0e * 2 ^ 112 + 0x1234

abbrev pub a_source_specific_group : ℕ
a_source_specific_group = 0xff3e * 2 ^ 112 + 1

-- a datagram of MLD to ff02::16
abbrev pub mld_from : (source hop_limit : ℕ) → (alert : Bool) → Envelope
mld_from source hop_limit alert =
    record { source = source; destination = 0xff02 * 2 ^ 112 + 0x16; hop_limit = hop_limit; alert = alert }

-- a datagram of IGMP from a host
abbrev pub from : ℕ → Envelope
from n = record { source = host n; destination = 0; hop_limit = 1; alert = false }

-- A listed group: its sources with their timers, and its schedule.
pub record ListedGroup : Type 0 where
  pub mode : FilterMode
  pub sources : List (ℕ × SourceTimer)
  pub v1 : Option ℕ
  pub v2 : Option ℕ
  pub schedule : ScheduleState

abbrev pub group_listed : ListedGroup → GroupState
group_listed k = record { mode = k.mode; sources = map.from_entries k.sources; v1 = k.v1; v2 = k.v2 }

abbrev pub as_held : ListedGroup → ScheduledGroup
as_held k = record { group = group_listed k; schedule = k.schedule }

-- a listed group without older hosts, and without a schedule or with one
abbrev pub listed : FilterMode → List (ℕ × SourceTimer) → ListedGroup
listed mode sources = record { mode = mode; sources = sources; v1 = None; v2 = None; schedule = no_schedule }

abbrev pub listed_due : FilterMode → List (ℕ × SourceTimer) → Option QuerySchedule → Option ℕ → ListedGroup
listed_due mode sources group_query sources_due = record {
  mode = mode;
  sources = sources;
  v1 = None;
  v2 = None;
  schedule = record { group_query = group_query; sources_due = sources_due };
}

-- EXCLUDE({}, {}) with hosts of version 2, or of version 1, and its query
abbrev pub listed_v2 : (deadline v2 : ℕ) → Option QuerySchedule → ListedGroup
listed_v2 deadline v2 group_query = record {
  mode = Exclude deadline;
  sources = [];
  v1 = None;
  v2 = Some v2;
  schedule = record { group_query = group_query; sources_due = None };
}

abbrev pub listed_v1 : (deadline v1 : ℕ) → ListedGroup
listed_v1 deadline v1 =
    record { mode = Exclude deadline; sources = []; v1 = Some v1; v2 = None; schedule = no_schedule }

-- Groups listed by ascending address, and a link of them.
abbrev pub ListedGroups : Type 0
ListedGroups = List (ℕ × ListedGroup)

abbrev pub as_groups : ListedGroups → Groups
as_groups gs = map.from_entries (list_map (λ (e : ℕ × ListedGroup). (e.0, as_held e.1)) gs)

pub record ListedLink : Type 0 where
  pub groups : ListedGroups
  pub election : ElectionState
  pub last : ℕ
  pub counters : Counters

abbrev pub as_link : ListedLink → LinkState
as_link l = record { groups = as_groups l.groups; election = l.election; last = l.last; counters = l.counters }

-- a querier with the default timing, whose next general query is due, and `startup` startup queries to go
abbrev pub querier : (due startup : ℕ) → ElectionState
querier due startup = record { role = Querier due startup; timing = default_timing }

-- a state in which another router is querier
abbrev pub other : (address deadline : ℕ) → Timing → ElectionState
other address deadline timing = record { role = Other address deadline; timing = timing }

-- a link after a moment, with counters at zero
abbrev pub after : (last : ℕ) → ElectionState → ListedGroups → ListedLink
after last election groups = record { groups = groups; election = election; last = last; counters = no_counts }

-- a link before its second general query, which is due at 31250
abbrev pub early : (last : ℕ) → ListedGroups → ListedLink
early last groups = after last (querier 31250 1) groups

-- a link after its startup, with a general query due
abbrev pub late : (last due : ℕ) → ListedGroups → ListedLink
late last due groups = after last (querier due 0) groups

-- A step leaves these groups, this election and this moment, and sends these queries.
pub record Leaves (step : Step) (queries : List SentQuery) (l : ListedLink) : Type 0 where
  pub queries_handed : step.queries ≡ queries
  pub groups : step.state.groups ≡ as_groups l.groups
  pub election : step.state.election ≡ l.election
  pub last : step.state.last ≡ l.last

-- a tick has these effects
pub record TicksTo (config : Configuration) (now : ℕ) (before : ListedLink) (queries : List SentQuery) (after : ListedLink)
    : Type 0 where
  pub leaves : Leaves (tick_of config now (as_link before)) queries after

-- a datagram has these effects, and this answer
pub record Comes (config : Configuration) (envelope : Envelope) (bytes : List ℕ) (now : ℕ) (before : ListedLink)
    (answer : Received) (queries : List SentQuery) (after : ListedLink) : Type 0 where
  pub answer_is : (receipt_of config envelope bytes now (as_link before)).answer ≡ answer
  pub leaves : Leaves (receipt_of config envelope bytes now (as_link before)).step queries after

-- a record for a group, of a kind by its number
abbrev pub saying : (group kind : ℕ) → List ℕ → RecordView ℕ
saying group kind sources = record { kind = kind; group = group; sources = sources }

-- A record that comes as the first of its datagram has this verdict, leaves these groups and sends these queries.
pub record Becomes (at : Setting) (r : RecordView ℕ) (before : ListedGroups) (verdict : Verdict)
    (queries : List SentQuery) (after : ListedGroups) : Type 0 where
  pub verdict_is : (judged at map.empty r (as_groups before)).verdict ≡ verdict
  pub groups : (judged at map.empty r (as_groups before)).groups ≡ as_groups after
  pub queries_sent : (judged at map.empty r (as_groups before)).queries ≡ queries

-- Some records of one datagram have these verdicts, one after the other.
pub record BecomeAll (at : Setting) (rs : List (RecordView ℕ)) (before : ListedGroups) (verdicts : List Verdict)
    (queries : List SentQuery) (after : ListedGroups) : Type 0 where
  pub verdicts_are : (all_judged at map.empty rs (as_groups before)).verdicts ≡ verdicts
  pub groups : (all_judged at map.empty rs (as_groups before)).groups ≡ as_groups after
  pub queries_sent : (all_judged at map.empty rs (as_groups before)).queries ≡ queries

-- The setting of a querier with the default timing, or with another robustness variable. The last is of a router that
-- isn't querier.
abbrev pub asking : Configuration → (now : ℕ) → Setting
asking config now = record { config = config; election = querier 31250 1; now = now }

abbrev pub asking_once : Configuration → (now : ℕ) → Setting
asking_once config now =
    record { config = config; election = record { role = Querier 31250 1; timing = robust 1 }; now = now }

abbrev pub listening : (now : ℕ) → Setting
listening now = record { config = igmp; election = other (host 2) 260000 default_timing; now = now }

-- A datagram leaves these counts. They are of datagrams received, dropped in all and dropped for a reason, of messages
-- of a kind, and of records. The records were applied, ignored, refused, and refused by a name.
abbrev pub counts_of : DropReason → MessageKind → Refusal → Counters → List ℕ
counts_of reason kind name c =
    c.received ∷ c.dropped ∷ c.dropped_by reason ∷ c.spelled kind ∷ c.applied ∷ c.ignored ∷ c.refused ∷ c.refused_by name ∷ []

pub record CountsTo (config : Configuration) (envelope : Envelope) (bytes : List ℕ) (now : ℕ) (before : ListedLink)
    (reason : DropReason) (kind : MessageKind) (name : Refusal) (counts : List ℕ) : Type 0 where
  pub counts_are :
      counts_of reason kind name (receipt_of config envelope bytes now (as_link before)).step.state.counters ≡ counts

-- a link with counters at their greatest values
abbrev pub with_full_counters : ListedLink → ListedLink
with_full_counters l = record l { counters = record no_counts { received = 2 ^ 64 - 1; dropped = 2 ^ 64 - 2 } }

-- a tick has something to do next at this moment
pub record NextIs (l : ListedLink) (moment : ℕ) : Type 0 where
  pub next : next_of (as_link l) ≡ moment

-- the group forwards the source, or does not
pub record Forwards (l : ListedLink) (group source : ℕ) (answer : Bool) : Type 0 where
  pub forwarded : forwards (as_link l) group source ≡ answer
