-- The effect of a record on a link, in six steps that may each end it. RFC 3376 sections 6.4 and 7.3.2, RFC 3810
-- sections 7.4 and 8.3.2; the limits are this project's.
use Rattle.std.specs.Prelude.{◌≡◌, ℕ, ◌+◌, ◌==◌, Bool, true, false, not, ◌&&◌, nat_lt, nat_le, if◌then◌else◌, List, [], ◌∷◌, ◌++◌, length, Option, None, Some}
use Rattle.std.specs.Option.{unwrap_or}
use Rattle.std.specs.Ordering.{nat_cmp}
use Rattle.std.specs.FinMap as map
use Rattle.std.specs.FinMap.{FinMap}
use Rattle.std.specs.FinSet as set
use Rattle.mq_count.specs.declared.versions.OlderVersion.{OlderVersion}
use Rattle.mq_wire.specs.declared.records.RecordView.{RecordView}
use Rattle.mq_table.specs.declared.kind.Kind.{Kind}
use Rattle.mq_table.specs.declared.kind.Kind.TheVariants.{IsIn, IsEx, ToIn, ToEx, Allow, Block}
use Rattle.mq_table.specs.declared.timing.Timing.{Timing}
use Rattle.mq_table.specs.Sets.{∅}
use Rattle.mq_table.specs.Group.{GroupState}
use Rattle.mq_table.specs.Table.{NamedSources, GroupChange}
use Rattle.mq_table.specs.OlderHosts.{translated_change, older_report, older_leave}
use Rattle.mq_sched.specs.Schedule.{ScheduledGroup}
use Rattle.mq_sched.specs.Sending.{SentQuery, after_change, messages_due, after_round}
use Rattle.mq_sched.specs.Election.{ElectionState, is_querier}
use Rattle.mq_link.specs.declared.configuration.Limits.{Limits}
use Rattle.mq_link.specs.declared.answers.Refusal.{Refusal}
use Rattle.mq_link.specs.declared.answers.Refusal.TheVariants.{Long, Repeated, Groups as TooManyGroups, GroupSources, Sources, Scheduled}
use Rattle.mq_link.specs.Tests.{first_named}
use Rattle.mq_link.specs.Family.{is_admitted, v1_mutes_leave, per_query}
use Rattle.mq_link.specs.Configuration.{Configuration, is_allowed}
use Rattle.mq_link.specs.Counters.{Verdict, Applied, Denied, Ignored, Refused}
use Rattle.mq_link.specs.State.{Groups, group_at, with_group, sources_of, sources_in, schedules_in, is_source_specific}

-- the types of records (RFC 3376 section 4.2.12, RFC 3810 section 5.2.12)
abbrev pub kind_named : ℕ → Option Kind
kind_named n =
    if n == 1 then Some IsIn
    else if n == 2 then Some IsEx
    else if n == 3 then Some ToIn
    else if n == 4 then Some ToEx
    else if n == 5 then Some Allow
    else if n == 6 then Some Block
    else None

-- The statement of one message on one group. It is a record of a Report, a Report of an older version, or a Leave or
-- Done. Each of the last two counts as one record.
pub data Statement : Type 0 where
  RecordOf : (kind : Kind) (named : NamedSources) → Statement
  OlderJoin : (version : OlderVersion) → Statement
  OlderLeave : Statement

abbrev pub is_exclude_kind : Kind → Bool
is_exclude_kind IsIn = false
is_exclude_kind IsEx = true
is_exclude_kind ToIn = false
is_exclude_kind ToEx = true
is_exclude_kind Allow = false
is_exclude_kind Block = false

-- The statement doesn't count for a group of the source-specific range, if that is kept. This holds for records of mode
-- EXCLUDE, and messages of older versions (RFC 4604 sections 3.1, 3.5 and 3.7).
abbrev pub is_muted : Configuration → ℕ → Statement → Bool
is_muted config group (RecordOf kind named) = is_source_specific config group && is_exclude_kind kind
is_muted config group (OlderJoin version) = is_source_specific config group
is_muted config group OlderLeave = is_source_specific config group

-- a change that asks for nothing
abbrev pub asking_nothing : GroupState → GroupChange
asking_nothing g = record { group = g; query = ∅; query_group = false }

-- The change of a group by a statement, by the older hosts that are there and the tables. It is None if the statement
-- is ignored.
abbrev pub change_stated : (v1_mutes_leave muted : Bool) → Timing → ℕ → Statement → GroupState → Option GroupChange
change_stated mutes muted timing now (RecordOf kind named) g = translated_change mutes muted timing now g kind named
change_stated mutes muted timing now (OlderJoin version) g =
    if muted then None else Some (asking_nothing (older_report version timing now g))
change_stated mutes muted timing now OlderLeave g = older_leave mutes muted timing now g

-- The first limit that these numbers exceed: of groups, sources of one group, sources in all, and schedules.
abbrev pub limit_passed_by : Limits → (groups group_sources sources scheduled : ℕ) → Option Refusal
limit_passed_by limits groups group_sources sources scheduled = first_named (
    (TooManyGroups, nat_lt limits.groups groups)
    ∷ (GroupSources, nat_lt limits.group_sources group_sources)
    ∷ (Sources, nat_lt limits.sources sources)
    ∷ (Scheduled, nat_lt limits.scheduled scheduled)
    ∷ [])

-- the first limit that the groups exceed, after one of them has just changed
abbrev pub limit_passed : Limits → Groups → (changed : ScheduledGroup) → Option Refusal
limit_passed limits groups changed =
    limit_passed_by limits (map.len groups) (sources_of changed) (sources_in groups) (schedules_in groups)

-- The verdict on a record, the groups afterwards, and the queries that it sends at once.
pub record Outcome : Type 0 where
  pub verdict : Verdict
  pub groups : Groups
  pub queries : List SentQuery

-- a record that changes nothing and sends nothing
abbrev pub leaving : Groups → Verdict → Outcome
leaving groups verdict = record { verdict = verdict; groups = groups; queries = [] }

-- The configuration, the querier with the timing in force, and the moment, as records meet them.
pub record Setting : Type 0 where
  pub config : Configuration
  pub election : ElectionState
  pub now : ℕ

-- Step 5. The result of table and sending is judged. If it exceeds a limit, the whole record is refused.
abbrev pub unless_passed : Option Refusal → (before after : Groups) → List SentQuery → Outcome
unless_passed (Some name) before after queries = leaving before (Refused name)
unless_passed None before after queries = record { verdict = Applied; groups = after; queries = queries }

-- the group and its schedule after a change, before anything is sent
abbrev pub changed_by : Setting → ℕ → Groups → GroupChange → ScheduledGroup
changed_by at group groups change =
    after_change (is_querier at.election.role) at.election.timing at.now change (group_at groups group).schedule

-- The queries that are due, which are sent at once. So a sending also names the sources that wait from earlier records.
abbrev pub sent_at_once : Setting → ℕ → ScheduledGroup → List SentQuery
sent_at_once at group e = messages_due (per_query at.config.family) at.election.timing at.now group e

-- the group and its schedule after the queries are sent
abbrev pub after_sending : Setting → ScheduledGroup → ScheduledGroup
after_sending at e = after_round at.election.timing at.now e

-- the outcome of a change, which is refused if it exceeds a limit; None is ignored
abbrev pub changed_or_refused : Setting → ℕ → Groups → Option GroupChange → Outcome
changed_or_refused at group groups None = leaving groups Ignored
changed_or_refused at group groups (Some change) =
    let e = changed_by at group groups change in
    let after = with_group groups group (after_sending at e) in
    unless_passed (limit_passed at.config.limits after (after_sending at e)) groups after (sent_at_once at group e)

-- the change of a group by a statement, in a setting
abbrev pub change_in : Setting → ℕ → Statement → Groups → Option GroupChange
change_in at group statement groups =
    change_stated (v1_mutes_leave at.config.family) (is_muted at.config group statement) at.election.timing at.now statement (group_at groups group).group

-- Steps 4 to 6. A statement is ignored if older hosts or the source-specific range mute it, and refused if it exceeds a
-- limit. Otherwise it is applied, even if it changes nothing.
unfoldable pub stated : Setting → ℕ → Statement → Groups → Outcome
stated at group statement groups = changed_or_refused at group groups (change_in at group statement groups)

-- the outcome of a message of an older version, which is ignored if hosts may not ask for its group
abbrev pub stated_alone : Setting → ℕ → Statement → Groups → Outcome
stated_alone at group statement groups =
    if is_allowed at.config group then stated at group statement groups else leaving groups Denied

-- the number of records of a datagram that have met each group while it was held
abbrev pub Seen : Type 0
Seen = FinMap nat_cmp ℕ

abbrev pub met : Seen → ℕ → ℕ
met seen group = unwrap_or (map.get seen group) 0

-- Steps 1 and 2. A record of an unknown type, for a group that isn't admitted, or for a group for which hosts may not ask
-- is ignored. A record that names more sources than a group may have is refused. Otherwise it goes on, with its kind.
pub data Entrance : Type 0 where
  Stops : (verdict : Verdict) → Entrance
  GoesOn : (kind : Kind) → Entrance

abbrev pub entrance_as : Configuration → RecordView ℕ → Option Kind → Entrance
entrance_as config r None = Stops Ignored
entrance_as config r (Some kind) =
    if not (is_admitted config.family r.group) then Stops Ignored
    else if not (is_allowed config r.group) then Stops Denied
    else if nat_lt config.limits.group_sources (length r.sources) then Stops (Refused Long)
    else GoesOn kind

abbrev pub entrance : Configuration → RecordView ℕ → Entrance
entrance config r = entrance_as config r (kind_named r.kind)

-- Step 3. A record that goes on has met its group, if that is held. The fifth is refused, whatever stands between them.
abbrev pub is_repeated : Groups → Seen → ℕ → Bool
is_repeated groups seen group = map.contains_key groups group && nat_le 4 (met seen group)

abbrev pub seen_by : Entrance → ℕ → Groups → Seen → Seen
seen_by (Stops verdict) group groups seen = seen
seen_by (GoesOn kind) group groups seen =
    if map.contains_key groups group then map.insert seen group (met seen group + 1) else seen

abbrev pub seen_after : Configuration → RecordView ℕ → Groups → Seen → Seen
seen_after config r groups seen = seen_by (entrance config r) r.group groups seen

abbrev pub judged_from : Setting → Seen → RecordView ℕ → Groups → Entrance → Outcome
judged_from at seen r groups (Stops verdict) = leaving groups verdict
judged_from at seen r groups (GoesOn kind) =
    if is_repeated groups seen r.group
    then leaving groups (Refused Repeated)
    else stated at r.group (RecordOf kind (set.from_list r.sources)) groups

-- the outcome of a record, by all six steps
unfoldable pub judged : Setting → Seen → RecordView ℕ → Groups → Outcome
judged at seen r groups = judged_from at seen r groups (entrance at.config r)

-- this is the outcome of the record
abbrev pub Judged : Setting → Seen → RecordView ℕ → Groups → Outcome → Type 0
Judged at seen r groups outcome = outcome ≡ judged at seen r groups

-- The verdicts on some records, the groups afterwards, and the queries that they send, all in order.
pub record Outcomes : Type 0 where
  pub verdicts : List Verdict
  pub groups : Groups
  pub queries : List SentQuery

-- the outcomes with one more, before the others
abbrev pub and_then : Outcome → Outcomes → Outcomes
and_then first rest = record {
  verdicts = first.verdict ∷ rest.verdicts;
  groups = rest.groups;
  queries = first.queries ++ rest.queries;
}

-- the outcomes of a datagram's records, each judged on the groups that the earlier ones leave
abbrev pub all_judged : Setting → Seen → List (RecordView ℕ) → Groups → Outcomes
all_judged at seen [] groups = record { verdicts = []; groups = groups; queries = [] }
all_judged at seen (r ∷ rs) groups =
    let first = judged at seen r groups in
    and_then first (all_judged at (seen_after at.config r groups seen) rs first.groups)

-- the outcomes of one statement alone
abbrev pub alone : Outcome → Outcomes
alone outcome = record { verdicts = outcome.verdict ∷ []; groups = outcome.groups; queries = outcome.queries }
