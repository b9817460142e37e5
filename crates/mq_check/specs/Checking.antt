-- A check's treatment of queries, in order. A wanted query and a seen one are partners if they have the same subject
-- and lie at most the tolerance apart. Each has at most one partner, and the earlier query is paired first. A seen query
-- without such a partner may have an earlier one, if it comes when the next query of a schedule is due. Or it may belong
-- to a schedule from before the capture.
use Rattle.std.specs.Prelude.{ℕ, ◌+◌, ◌-◌, ◌^◌, ◌&&◌, ◌||◌, min, nat_lt, nat_le, not, Bool, true, false, if◌then◌else◌, List, [], ◌∷◌, ◌++◌, Option, None, Some, is_some, flat_map, fold}
use Rattle.mq_wire.specs.declared.query.Query.{Query}
use Rattle.mq_wire.specs.Family.{Family}
use Rattle.mq_table.specs.declared.timing.Timing.{Timing}
use Rattle.mq_table.specs.Timing.{query_interval}
use Rattle.mq_check.specs.declared.asked.Asked.{Asked}
use Rattle.mq_check.specs.declared.asked.Asked.TheVariants.{AllGroups, Group, Source}
use Rattle.mq_check.specs.declared.check_terms.CheckFlags.{CheckFlags}
use Rattle.mq_check.specs.declared.entry.Entry.{Entry}
use Rattle.mq_check.specs.declared.entry.Entry.TheVariants.{Wanted, Seen, Interval, Silence, Packet}
use Rattle.mq_check.specs.declared.entry.Need.{Need}
use Rattle.mq_check.specs.declared.entry.Need.TheVariants.{Required, Optional}
use Rattle.mq_check.specs.declared.entry.Need.TheVariants as need
use Rattle.mq_check.specs.declared.entry.Unpaired.{Unpaired}
use Rattle.mq_check.specs.declared.entry.Unpaired.TheVariants.{Extra, Possible}
use Rattle.mq_check.specs.declared.finding.ExtraReason.{ExtraReason}
use Rattle.mq_check.specs.declared.finding.ExtraReason.TheVariants.{NoChange, OlderHost, NotQuerier}
use Rattle.mq_check.specs.declared.finding.Finding.{Finding}
use Rattle.mq_check.specs.declared.finding.Finding.TheVariants as finding
use Rattle.mq_check.specs.declared.headers.HeaderFault.{HeaderFault}
use Rattle.mq_check.specs.declared.phase.Phase.{Phase}
use Rattle.mq_check.specs.declared.phase.Phase.TheVariants.{Starting, Heard, Returned, NotQuerier}
use Rattle.mq_check.specs.declared.standing.Standing.{Standing}
use Rattle.mq_check.specs.declared.terms.Terms.{Terms}
use Rattle.mq_check.specs.declared.waiting.Side.TheVariants.{OfWanted, OfSeen}
use Rattle.mq_check.specs.declared.entry.SVerdict.{SVerdict}
use Rattle.mq_check.specs.declared.entry.SVerdict.TheVariants.{Open, Right}
use Rattle.mq_check.specs.declared.entry.SeenVerdict.{SeenVerdict}
use Rattle.mq_check.specs.Entries.{as_wanted, is_suppressed, is_unlike, moment_of, first_terms, may_be_left_out, excused_if, is_possible}
use Rattle.mq_check.specs.General.{phase_for, wrong_interval, phase_behind, silence_up_to, phase_again}
use Rattle.mq_check.specs.Standing.{plain, standing_in}
use Rattle.mq_check.specs.Schedules.{SchedulesValue, schedules_at_start, schedules_wanted, schedules_changed, recent, as_seen, before_in, is_next, terms_wanted}
use Rattle.mq_check.specs.Schedules.{unforeseen, caused, cause_in, first_of, followed, is_near_cause, placed, said, unclear, without_next}
use Rattle.mq_link.specs.Configuration.{Configuration}
use Rattle.mq_link.specs.Sent.{Outgoing}
use Rattle.mq_link.specs.State.{LinkState}
use Rattle.mq_check.specs.Queries.{asked_in, is_general, terms_of, general_terms}
use Rattle.mq_check.specs.Refused.{judged, with_refused}
use Rattle.mq_check.specs.Waiting.{WaitingValue, nothing, emptied, with_entry, with_partner, is_free, has_free}
use Rattle.mq_check.specs.Waiting as waits

-- The pending entries, the last change of the role, the phase of general queries, and the counts of seen queries.
-- `unmuted` has the groups for whose sources the querier asked after a change that older hosts mute. So none was there
-- before the capture. `schedules` has the schedules that a querier may keep, and `refused` the groups that aren't judged.
pub record CheckingValue : Type 0 where
  pub waiting : WaitingValue
  pub changed : Option ℕ
  pub phase : Phase
  pub last_general : Option ℕ
  pub general : ℕ
  pub specific : ℕ
  pub unmuted : WaitingValue
  pub schedules : SchedulesValue
  pub refused : List ℕ

abbrev pub checking_at_start : (within : ℕ) → Timing → CheckFlags → CheckingValue
checking_at_start within timing flags = record {
  waiting = nothing;
  changed = None;
  phase = phase_for timing flags.above_7;
  last_general = None;
  general = 0;
  specific = 0;
  unmuted = nothing;
  schedules = schedules_at_start within timing flags;
  refused = [];
}

-- The findings of the entries that have expired at a moment, and the check after their removal. The queries that were still
-- to come in schedules from before the capture follow. If an entry had no room, nothing more is found.
abbrev pub told : (within now : ℕ) → CheckingValue → List (Finding ℕ)
told within now c =
    waits.told c.schedules.repeats.keep within now c.changed c.refused c.waiting
    ++ waits.told c.schedules.repeats.within within now c.changed c.refused c.schedules.next

abbrev pub purged : (now : ℕ) → CheckingValue → CheckingValue
purged now c =
    record c {
      waiting = waits.purged c.schedules.repeats.keep now c.waiting;
      schedules = record c.schedules { next = waits.purged c.schedules.repeats.within now c.schedules.next };
    }

-- The check after the judgement of S. A Report changes S of a query up to a millisecond after it, but not after the tolerance.
-- Without a moment, all are judged.
abbrev pub with_s_judged : (within : ℕ) → (now : Option ℕ) → (is_set : (limit : ℕ) → Asked ℕ → Bool) → CheckingValue → CheckingValue
with_s_judged within now is_set c = record c { waiting = waits.all_s_judged (min within 1) now is_set c.waiting }

-- a count, which stays at the greatest number of 64 bits
abbrev pub counted_up : ℕ → ℕ
counted_up n = min (n + 1) (2 ^ 64 - 1)

-- the checked router is querier
abbrev pub is_querier_in : Phase → Bool
is_querier_in (Starting startup) = true
is_querier_in (Heard before startup) = true
is_querier_in Returned = true
is_querier_in NotQuerier = false

-- An older host from before the capture may mute the change that asks for a source. That ends when the time is over for
-- which it is assumed to be there. It also ends when the querier asks for a source of the group after a muted change. Up to
-- that time a source may also be asked for again at another moment, together with sources that the querier held before.
abbrev pub may_be_muted : (moment : ℕ) → (is_again : Bool) → Asked ℕ → CheckingValue → Bool
may_be_muted moment is_again AllGroups c = false
may_be_muted moment is_again (Group group) c = false
may_be_muted moment is_again (Source group source) c =
    nat_lt moment c.schedules.repeats.held_until && (is_again || not (has_free OfWanted (Group group) 0 c.unmuted))

-- Another reading, or such a host, may explain that a query doesn't come.
abbrev pub may_be_missing : (moment : ℕ) → (is_again : Bool) → Asked ℕ → CheckingValue → Bool
may_be_missing moment is_again asked c = is_some (unclear asked c.schedules) || may_be_muted moment is_again asked c

abbrev pub need_by : (may_be_left_out may_be_missing : Bool) → Need
need_by true may_be_missing = Optional
need_by false true = need.Possible
need_by false false = Required

-- the first moment within the tolerance before another
abbrev pub near : (moment : ℕ) → CheckingValue → ℕ
near moment c = moment - c.schedules.repeats.within

-- The check after a query became wanted. Its partner is the first seen query on the subject within the tolerance that
-- has none. A schedule from before the capture on the subject is replaced.
unfoldable pub with_wanted : (moment : ℕ) → (is_again : Bool) → Terms ℕ → CheckingValue → Asked ℕ → CheckingValue
with_wanted moment is_again terms c asked =
    let before : CheckingValue = record c { schedules = recent moment c.schedules } in
    let need = need_by (may_be_left_out moment asked terms c.waiting.entries) (may_be_missing moment is_again asked before) in
    let from = near moment c in
    let is_found = is_some (first_terms (is_free OfSeen asked from) c.waiting.entries) in
    record c {
      waiting = with_entry (Wanted moment asked terms need is_found) (with_partner OfSeen asked from terms c.waiting);
      schedules = without_next asked (schedules_wanted moment terms asked before.schedules);
    }

-- the check after the link sent a query about a subject; `is_again` is set if a tick sent it again
abbrev pub subject_wanted : (moment : ℕ) → (is_again : Bool) → Terms ℕ → CheckingValue → Asked ℕ → CheckingValue
subject_wanted moment is_again terms c asked = with_wanted moment is_again (terms_wanted is_again terms asked c.schedules) c asked

-- The reason why a query is extra that is seen while the router is querier. `is_muted` is set if an older host mutes the
-- change that asks for it.
abbrev pub reason_of : (is_muted : Bool) → ExtraReason
reason_of false = NoChange
reason_of true = OlderHost

-- A seen query if it finds no partner. It is extra while another router is querier. Otherwise it is possibly extra if another
-- reading explains it, or a change that asks for a subject from before the capture. It has the terms of such a query.
abbrev pub alone_if : (is_querier is_muted : Bool) → (possible : Option (Terms ℕ)) → Unpaired ℕ
alone_if false is_muted possible = Extra NotQuerier
alone_if true is_muted (Some wanted) = Possible wanted
alone_if true is_muted None = Extra (reason_of is_muted)

abbrev pub possible_by : (moment : ℕ) → Terms ℕ → Asked ℕ → SchedulesValue → Option (Terms ℕ)
possible_by moment terms asked s = first_of
    (as_seen terms (first_of (unclear asked s) (caused moment asked s)))
    (unforeseen moment terms asked s)

abbrev pub alone_after : (moment : ℕ) → Terms ℕ → (is_muted : Bool) → Asked ℕ → CheckingValue → Unpaired ℕ
alone_after moment terms is_muted asked c =
    alone_if (is_querier_in c.phase) is_muted (possible_by moment terms asked c.schedules)

abbrev pub alone_in : (moment : ℕ) → Terms ℕ → Standing → Asked ℕ → CheckingValue → Unpaired ℕ
alone_in moment terms standing asked c =
    alone_after moment terms standing.is_muted asked (record c { schedules = recent moment c.schedules })

-- The partner of a seen query is the first wanted query on the subject within the tolerance that has none. If there is
-- none within the tolerance and the query goes on with a schedule, its partner is the first one before. Then S is as
-- seen: it depends on timers at that moment.
abbrev pub goes_on : (moment : ℕ) → Asked ℕ → SchedulesValue → Bool
goes_on moment asked s = is_next s.repeats moment (before_in asked s)

abbrev pub is_late_in : (from moment : ℕ) → Asked ℕ → WaitingValue → SchedulesValue → Bool
is_late_in from moment asked w s = not (has_free OfWanted asked from w) && goes_on moment asked s

abbrev pub is_late : (moment : ℕ) → Asked ℕ → CheckingValue → Bool
is_late moment asked c = is_late_in (near moment c) moment asked c.waiting (recent moment c.schedules)

abbrev pub partner_if : (is_late : Bool) → (from : ℕ) → Terms ℕ → Asked ℕ → WaitingValue → Option (Terms ℕ)
partner_if false from terms asked w = first_terms (is_free OfWanted asked from) w.entries
partner_if true from terms asked w = as_seen terms (first_terms (is_free OfWanted asked 0) w.entries)

abbrev pub paired_if : (is_late : Bool) → (from : ℕ) → Terms ℕ → Asked ℕ → WaitingValue → WaitingValue
paired_if false from terms asked w = with_partner OfWanted asked from terms w
paired_if true from terms asked w = with_partner OfWanted asked 0 terms w

abbrev pub partner_of : (moment : ℕ) → Terms ℕ → Asked ℕ → CheckingValue → Option (Terms ℕ)
partner_of moment terms asked c = partner_if (is_late moment asked c) (near moment c) terms asked c.waiting

abbrev pub paired : (moment : ℕ) → Terms ℕ → Asked ℕ → CheckingValue → WaitingValue
paired moment terms asked c = paired_if (is_late moment asked c) (near moment c) terms asked c.waiting

-- The groups whose changes no older host mutes, after a query was seen. It shows that if it comes after a change that such a
-- host mutes, and no other change explains it.
abbrev pub shows_unmuted : (moment group source : ℕ) → CheckingValue → Bool
shows_unmuted moment group source c =
    is_querier_in c.phase && is_near_cause c.schedules.repeats moment (cause_in (Source group source) c.schedules)
    && not (is_some (unclear (Source group source) c.schedules)) && not (has_free OfWanted (Group group) 0 c.unmuted)

abbrev pub with_unmuted : (moment : ℕ) → Terms ℕ → Asked ℕ → CheckingValue → WaitingValue
with_unmuted moment terms AllGroups c = c.unmuted
with_unmuted moment terms (Group group) c = c.unmuted
with_unmuted moment terms (Source group source) c =
    if shows_unmuted moment group source c then with_entry (Wanted moment (Group group) terms Optional false) c.unmuted else c.unmuted

-- The verdict on a seen query. A querier may be late within the tolerance, and a Report may come meanwhile. So S is right if it is
-- that of the timer when the query is seen. Another S is right only if a Report sets the timer within a millisecond.
abbrev pub s_by : (is_above : Bool) → (set_from : ℕ) → Terms ℕ → SVerdict
s_by is_above set_from terms = if is_unlike (is_suppressed terms.querier) is_above then Open set_from else Right

-- S isn't judged if the Robustness Variable is above 7: the Last Member Query Time isn't known then.
abbrev pub s_for : (above_7 is_above : Bool) → (set_from : ℕ) → Terms ℕ → SVerdict
s_for true is_above set_from terms = Right
s_for false is_above set_from terms = s_by is_above set_from terms

abbrev pub verdict_in : (moment : ℕ) → Terms ℕ → Standing → Asked ℕ → CheckingValue → SeenVerdict ℕ
verdict_in moment terms standing asked c = record { s = s_for c.schedules.repeats.above_7 standing.is_above standing.set_from terms; alone = alone_in moment terms standing asked c }

-- The check after a query was seen. Its partner is a wanted query, or it is the next one of a schedule from before the
-- capture.
unfoldable pub with_seen : (moment : ℕ) → Terms ℕ → Standing → CheckingValue → Asked ℕ → CheckingValue
with_seen moment terms standing c asked =
    let before = recent moment c.schedules in
    let partner = partner_of moment terms asked c in
    let next = followed moment standing.is_above asked before in
    let verdict = verdict_in moment terms standing asked c in
    record c {
      waiting = with_entry (Seen moment asked terms (first_of partner next) verdict) (paired moment terms asked c);
      unmuted = with_unmuted moment terms asked (record c { schedules = before });
      schedules =
          placed moment terms asked (is_some partner) (is_some next) (is_possible verdict.alone) (caused moment asked before) before;
    }

-- the entries with a wrong interval, or with a silence that is too long, if there is one
abbrev pub with_interval : (configured : Timing) → (moment packet : ℕ) → Option ℕ → WaitingValue → WaitingValue
with_interval configured moment packet None w = w
with_interval configured moment packet (Some passed) w =
    with_entry (Interval moment packet passed (query_interval configured)) w

abbrev pub with_silence : (configured : Timing) → (moment : ℕ) → Option ℕ → WaitingValue → WaitingValue
with_silence configured moment None w = w
with_silence configured moment (Some passed) w = with_entry (Silence moment passed (query_interval configured)) w

-- The check after a general query was seen while the router is querier. It is compared with the wanted one at any
-- moment, and its interval is judged. It is also the partner of the query that is sent when the router becomes querier
-- again.
unfoldable pub with_general : (within : ℕ) → (configured : Timing) → (moment : ℕ) → (terms wanted : Terms ℕ) → CheckingValue → CheckingValue
with_general within configured moment terms wanted c =
    let judged =
    with_interval configured moment terms.packet (wrong_interval within configured moment c.phase) c.waiting in
    record c {
      waiting = with_entry (Seen moment AllGroups terms (Some wanted) (as_wanted (Extra NoChange))) (with_partner OfWanted AllGroups (near moment c) terms judged);
      phase = phase_behind within configured moment c.phase;
    }

-- The check after a general query. While another router is querier, none is wanted.
abbrev pub general_compared : (within : ℕ) → (configured : Timing) → (moment : ℕ) → (terms wanted : Terms ℕ) → CheckingValue → CheckingValue
general_compared within configured moment terms wanted c =
    if is_querier_in c.phase
    then with_general within configured moment terms (said false c.schedules.repeats wanted) c
    else with_seen moment terms plain c AllGroups

abbrev pub general_seen : (within : ℕ) → (configured : Timing) → (moment : ℕ) → (terms wanted : Terms ℕ) → CheckingValue → CheckingValue
general_seen within configured moment terms wanted c =
    let compared = general_compared within configured moment terms wanted c in
    record compared { last_general = Some moment; general = counted_up compared.general }

-- the check after a query for a group or for sources was seen
abbrev pub one_seen : (moment : ℕ) → Terms ℕ → (standing : Asked ℕ → Standing) → CheckingValue → Asked ℕ → CheckingValue
one_seen moment terms standing c asked = with_seen moment terms (standing asked) c asked

abbrev pub specific_seen : (moment : ℕ) → Terms ℕ → (standing : Asked ℕ → Standing) → List (Asked ℕ) → CheckingValue → CheckingValue
specific_seen moment terms standing asked c =
    let seen = fold (one_seen moment terms standing) c asked in
    record seen { specific = counted_up seen.specific }

-- the check after these faults were seen in the headers of a packet with a query of the checked querier
abbrev pub with_fault : (moment number : ℕ) → CheckingValue → HeaderFault → CheckingValue
with_fault moment number c fault = record c { waiting = with_entry (Packet moment number fault) c.waiting }

abbrev pub faults_seen : (moment number : ℕ) → List HeaderFault → CheckingValue → CheckingValue
faults_seen moment number faults c = fold (with_fault moment number) c faults

-- The check after a query of the checked querier was seen in a packet. A general query is compared with one of the
-- timing in force.
unfoldable pub query_came : (within : ℕ) → Configuration → LinkState → (moment packet to : ℕ) → Query ℕ → CheckingValue → CheckingValue
query_came within config link moment packet to query c =
    let terms = terms_of config.family packet to query in
    if is_general query
    then general_seen within config.timing moment terms (general_terms config link.election.timing) c
    else specific_seen moment terms (standing_in config.family link.groups link.election.timing moment) (asked_in query) c

-- The check after a query that the link sends. A general query is wanted at its moment only if the router becomes
-- querier again (RFC 3376 section 6.6.2, RFC 3810 section 7.6.2). `packet` is the number of the last packet before. If a
-- datagram causes the query, it is the packet with this datagram. A tick sends each other query again.
abbrev pub one_wanted : Family → (moment packet : ℕ) → (by_tick is_returning : Bool) → (to : ℕ) → Query ℕ → CheckingValue → CheckingValue
one_wanted family moment packet by_tick is_returning to query c =
    if is_general query && not is_returning
    then c
    else fold (subject_wanted moment (by_tick && not (is_general query)) (terms_of family packet to query)) c (asked_in query)

-- the check after all messages of a step
abbrev pub with_messages : Family → (moment packet : ℕ) → (by_tick is_returning : Bool) → List Outgoing → CheckingValue → CheckingValue
with_messages family moment packet by_tick is_returning messages c =
    fold (λ c message. one_wanted family moment packet by_tick is_returning message.to message.query c) c messages

-- The check after the role was lost, from which no general query is wanted, or after the role returned. A router that
-- loses the role sends no query again.
abbrev pub without_all_next : SchedulesValue → SchedulesValue
without_all_next s = record s { next = emptied s.next }

unfoldable pub role_lost : (within : ℕ) → (configured : Timing) → (moment : ℕ) → CheckingValue → CheckingValue
role_lost within configured moment c =
    record c {
      waiting = with_silence configured moment (silence_up_to within configured moment c.phase) c.waiting;
      changed = Some moment;
      phase = NotQuerier;
      schedules = without_all_next c.schedules;
    }

unfoldable pub role_returned : (within : ℕ) → (moment : ℕ) → CheckingValue → CheckingValue
role_returned within moment c = record c { changed = Some moment; phase = phase_again within moment c.last_general }

abbrev pub role_changed : (within : ℕ) → (configured : Timing) → (moment : ℕ) → (was_querier is_querier : Bool) → CheckingValue → CheckingValue
role_changed within configured moment true true c = c
role_changed within configured moment true false c = role_lost within configured moment c
role_changed within configured moment false true c = role_returned within moment c
role_changed within configured moment false false c = c

-- The check after a tick, which never makes the router lose the role.
abbrev pub role_after_tick : (within : ℕ) → (moment : ℕ) → (was_querier is_querier : Bool) → CheckingValue → CheckingValue
role_after_tick within moment true is_querier c = c
role_after_tick within moment false true c = role_returned within moment c
role_after_tick within moment false false c = c

-- The check after hosts made changes that may make a querier ask for these subjects. `terms` has the terms of a query for
-- each group, or for its sources.
abbrev pub group_of : Asked ℕ → ℕ
group_of AllGroups = 0
group_of (Group group) = group
group_of (Source group source) = group

abbrev pub one_changed : (moment : ℕ) → (terms : ℕ → Terms ℕ) → CheckingValue → Asked ℕ → CheckingValue
one_changed moment terms c asked =
    record c { schedules = schedules_changed moment (terms (group_of asked)) asked (recent moment c.schedules) }

abbrev pub all_changed : (moment : ℕ) → (terms : ℕ → Terms ℕ) → List (Asked ℕ) → CheckingValue → CheckingValue
all_changed moment terms asked c = fold (one_changed moment terms) c asked

-- The check at the end of a capture. Afterwards the partners of wanted queries may come, and the next queries of schedules
-- from before the capture.
abbrev pub with_all_excused : (within end : ℕ) → CheckingValue → CheckingValue
with_all_excused within end c =
    let schedules = recent end c.schedules in
    record c { waiting = waits.all_excused within end schedules.sent c.waiting; schedules = without_all_next schedules }

-- The check after the link refused a record of a message that names these groups.
abbrev pub groups_refused : List ℕ → CheckingValue → CheckingValue
groups_refused groups c = record c { refused = fold with_refused c.refused groups }

-- The findings of an entry that is pending after the end of a capture, if the role changed last at `changed`. A query
-- that is wanted at most the tolerance before the end, or later, isn't reported.
abbrev pub found_of_last : (within end : ℕ) → (changed : Option ℕ) → (refused : List ℕ) → Entry ℕ → List (Finding ℕ)
found_of_last within end changed refused entry =
    judged within changed refused (excused_if (nat_le end (moment_of entry + within)) entry)

abbrev pub silence_found : (configured : Timing) → (moment : ℕ) → Option ℕ → List (Finding ℕ)
silence_found configured moment None = []
silence_found configured moment (Some passed) =
    finding.Silence moment passed (query_interval configured) ∷ []

-- the last findings at the end: those of the pending entries, and a silence up to the end that is too long
abbrev pub told_at_end : (within : ℕ) → (configured : Timing) → (moment : ℕ) → (silence : Option ℕ) → CheckingValue → List (Finding ℕ)
told_at_end within configured moment silence c =
    flat_map (found_of_last within moment c.changed c.refused) c.waiting.entries ++ silence_found configured moment silence
