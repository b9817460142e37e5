-- Schedules that a querier may keep beside those of the link. A query for a group or a source is sent again after a Last
-- Member Query Interval. A querier may count the interval from the query that it sent last. If a change comes while the
-- schedule of an earlier one may run, readings of the standards part: the new schedule replaces the earlier one, or runs
-- beside it. A querier that held a subject before the capture may start a schedule that the link doesn't have. RFC 3376
-- sections 6.4.2, 6.6.3.1 and 6.6.3.2, RFC 3810 sections 7.4.2, 7.6.3.1 and 7.6.3.2.
use Rattle.std.specs.Prelude.{ℕ, ◌+◌, ◌-◌, ◌*◌, ◌^◌, ◌==◌, ◌&&◌, ◌||◌, max, min, nat_lt, nat_le, not, Bool, true, false, if◌then◌else◌, Option, None, Some, is_some}
use Rattle.mq_table.specs.declared.timing.Timing.{Timing}
use Rattle.mq_table.specs.Timing.{last_member_count, membership_interval}
use Rattle.mq_check.specs.declared.asked.Asked.{Asked}
use Rattle.mq_check.specs.declared.asked.Asked.TheVariants.{AllGroups, Group, Source}
use Rattle.mq_check.specs.declared.check_terms.CheckFlags.{CheckFlags}
use Rattle.mq_check.specs.declared.entry.Entry.{Entry}
use Rattle.mq_check.specs.declared.entry.Entry.TheVariants.{Wanted, Seen}
use Rattle.mq_check.specs.declared.entry.Need.TheVariants.{Optional}
use Rattle.mq_check.specs.declared.entry.Unpaired.TheVariants.{Extra, Scheduled, Next}
use Rattle.mq_check.specs.declared.finding.ExtraReason.TheVariants.{NoChange}
use Rattle.mq_check.specs.declared.schedules.Repeats.{Repeats}
use Rattle.mq_check.specs.declared.terms.Terms.{Terms}
use Rattle.mq_check.specs.declared.terms.QuerierTerms.{QuerierTerms}
use Rattle.mq_check.specs.declared.waiting.Side.TheVariants.{OfWanted, OfSeen}
use Rattle.mq_check.specs.General.{greatest_variable}
use Rattle.mq_check.specs.Entries.{as_wanted, moment_of, left_in, terms_in, first_entry, with_s_of, with_suppress}
use Rattle.mq_check.specs.Waiting.{WaitingValue, nothing, has_free, is_free, with_entry, with_partner, purged}

-- The retransmission of queries, and the queries of schedules. `sent` has the seen queries after which one more may come,
-- and for each subject the last wanted one. The moment of each is an interval later: then the next query is due. `causes`
-- has for each subject the last change of a host that may make a querier ask for it. A seen entry there is a change that
-- came close to an earlier one. `next` has the queries that are still to come in schedules from before the capture, at the
-- moments when they are due.
pub record SchedulesValue : Type 0 where
  pub repeats : Repeats
  pub sent : WaitingValue
  pub causes : WaitingValue
  pub next : WaitingValue

-- the most queries of a schedule
abbrev pub most_queries : Timing → (above_7 : Bool) → ℕ
most_queries timing above_7 = if above_7 then greatest_variable else last_member_count timing

-- The number of queries after the first one of a schedule. A strict check accepts no other reading, so it has none.
abbrev pub more_in : Timing → (strict : Bool) → ℕ
more_in timing true = 0
more_in timing false = last_member_count timing - 1

-- The number isn't known if the Robustness Variable is above 7.
abbrev pub more_for : Timing → CheckFlags → ℕ
more_for timing flags = if flags.above_7 then greatest_variable - 1 else more_in timing flags.strict

-- The time after which an entry expires: at most 2^32 - 1, but never shorter than the tolerance. A query that goes on with
-- a schedule may be the partner of a query that was wanted up to an interval and the tolerance before.
abbrev pub keep_in : (within : ℕ) → Timing → (strict : Bool) → ℕ
keep_in within timing true = within
keep_in within timing false = max within (min (within + timing.last_member_interval) (2 ^ 32 - 1))

-- The time for which a change counts: the Last Member Query Time, for which the timers run that it lowers, and the tolerance. It
-- is at most 2^32 - 1, but never shorter than the tolerance.
abbrev pub span_in : (within : ℕ) → Timing → (above_7 : Bool) → ℕ
span_in within timing above_7 = max within (min (within + most_queries timing above_7 * timing.last_member_interval) (2 ^ 32 - 1))

-- The moment from which nothing lasts that the querier held before the capture. A group is held for at most a Group
-- Membership Interval. A host of an older version is assumed to be there as long. The tolerance comes on top. A check from
-- the querier's beginning knows all that it holds.
abbrev pub held_until : (within : ℕ) → Timing → (began : Bool) → ℕ
held_until within timing true = 0
held_until within timing false = membership_interval timing + within + 1

-- That moment, or one after all moments of a capture: above 7 the Group Membership Interval isn't known.
abbrev pub held_for : (within : ℕ) → Timing → CheckFlags → ℕ
held_for within timing flags = if flags.above_7 && not flags.began then 2 ^ 53 + 1 else held_until within timing flags.began

-- the moment from which no query belongs to a schedule that a change before the capture started
abbrev pub first_until : (within : ℕ) → Timing → (above_7 began : Bool) → ℕ
first_until within timing above_7 true = 0
first_until within timing above_7 false = (most_queries timing above_7 - 1) * timing.last_member_interval + within + 1

abbrev pub repeats_in : (within : ℕ) → Timing → CheckFlags → Repeats
repeats_in within timing flags = record {
  within = within;
  interval = timing.last_member_interval;
  more = more_for timing flags;
  count = last_member_count timing - 1;
  span = span_in within timing flags.above_7;
  keep = keep_in within timing flags.strict;
  held_until = held_for within timing flags;
  first_until = first_until within timing flags.above_7 flags.began;
  above_7 = flags.above_7;
}

abbrev pub schedules_at_start : (within : ℕ) → Timing → CheckFlags → SchedulesValue
schedules_at_start within timing flags =
    record { repeats = repeats_in within timing flags; sent = nothing; causes = nothing; next = nothing }

-- The moment an interval after another. No moment of a capture exceeds 2^53.
abbrev pub due_after : Repeats → (moment : ℕ) → ℕ
due_after repeats moment = if nat_le moment (2 ^ 53) then moment + repeats.interval else moment

-- a moment is more than the tolerance before another
abbrev pub is_long_before : Repeats → (a b : ℕ) → Bool
is_long_before repeats a b = nat_le a (2 ^ 53) && nat_lt (a + repeats.within) b

-- a query is seen when the next one of a schedule is due
abbrev pub is_due : Repeats → (due moment : ℕ) → Bool
is_due repeats due moment = not (is_long_before repeats due moment) && not (is_long_before repeats moment due)

-- The schedules at a moment. The queries after which none may come any more are gone, and so are changes that no longer count.
abbrev pub recent : (moment : ℕ) → SchedulesValue → SchedulesValue
recent moment s =
    if nat_le moment (2 ^ 53)
    then record s { sent = purged s.repeats.within moment s.sent; causes = purged s.repeats.span moment s.causes }
    else s

-- the query of a schedule on the subject that waits for its next one, and the last wanted query
abbrev pub before_in : Asked ℕ → SchedulesValue → Option (Entry ℕ)
before_in asked s = first_entry (is_free OfSeen asked 0) s.sent.entries

abbrev pub last_in : Asked ℕ → SchedulesValue → Option (Entry ℕ)
last_in asked s = first_entry (is_free OfWanted asked 0) s.sent.entries

-- the next query is seen after this one
abbrev pub is_next : Repeats → (moment : ℕ) → Option (Entry ℕ) → Bool
is_next repeats moment None = false
is_next repeats moment (Some before) = is_due repeats (moment_of before) moment

-- the number of queries that may come after a seen one, which starts a schedule or follows another query
abbrev pub left_after : Repeats → (moment : ℕ) → Option (Entry ℕ) → ℕ
left_after repeats moment None = repeats.more
left_after repeats moment (Some before) =
    if is_due repeats (moment_of before) moment then left_in before - 1 else repeats.more

-- the terms of a wanted query, with S as seen
abbrev pub as_seen : (seen : Terms ℕ) → (wanted : Option (Terms ℕ)) → Option (Terms ℕ)
as_seen seen None = None
as_seen seen (Some wanted) = Some (with_s_of seen wanted)

abbrev pub first_of : (a b : Option (Terms ℕ)) → Option (Terms ℕ)
first_of (Some terms) b = Some terms
first_of None b = b

-- The schedules after a query was seen. It goes on with a schedule, or starts one if it has a partner.
abbrev pub without_before : (is_next : Bool) → Terms ℕ → Asked ℕ → WaitingValue → WaitingValue
without_before true terms asked w = with_partner OfSeen asked 0 terms w
without_before false terms asked w = w

abbrev pub with_scheduled : (left due : ℕ) → (is_scheduled : Bool) → Terms ℕ → Asked ℕ → WaitingValue → WaitingValue
with_scheduled left due is_scheduled terms asked w =
    if is_scheduled && nat_lt 0 left then with_entry (Seen due asked terms None (as_wanted (Scheduled left))) w else w

unfoldable pub schedules_seen : (moment : ℕ) → Terms ℕ → Asked ℕ → (has_partner : Bool) → SchedulesValue → SchedulesValue
schedules_seen moment terms asked has_partner s =
    let before = before_in asked s in
    let follows = is_next s.repeats moment before in
    record s {
      sent =
          with_scheduled (left_after s.repeats moment before) (due_after s.repeats moment) (follows || has_partner) terms asked
          (without_before follows terms asked s.sent);
    }

-- the schedules after a query became wanted
unfoldable pub schedules_wanted : (moment : ℕ) → Terms ℕ → Asked ℕ → SchedulesValue → SchedulesValue
schedules_wanted moment terms asked s =
    record s {
      sent =
          with_entry (Wanted (due_after s.repeats moment) asked terms Optional false)
          (with_partner OfWanted asked 0 terms s.sent);
    }

-- the terms of a query, if there is one
abbrev pub terms_of : Option (Entry ℕ) → Option (Terms ℕ)
terms_of None = None
terms_of (Some query) = terms_in query

-- The fields of a wanted query with the number of its packet. If a tick sends the query again, this is the packet that
-- started its schedule. The last wanted query on the subject has its number.
abbrev pub with_packet_of : Option (Terms ℕ) → Terms ℕ → Terms ℕ
with_packet_of None terms = terms
with_packet_of (Some last) terms = record terms { packet = last.packet }

-- A query carries QRV 0 if the Robustness Variable is above 7. Then S may be set in a query for a group or a source: it depends on
-- the Last Member Query Time.
abbrev pub qrv_said : (above_7 may_have_s : Bool) → Option QuerierTerms → Option QuerierTerms
qrv_said above_7 may_have_s None = None
qrv_said false may_have_s (Some fields) = Some fields
qrv_said true may_have_s (Some fields) = Some (record fields { suppress = may_have_s; robustness = 0 })

abbrev pub said : (may_have_s : Bool) → Repeats → Terms ℕ → Terms ℕ
said may_have_s repeats terms = record terms { querier = qrv_said repeats.above_7 may_have_s terms.querier }

abbrev pub terms_wanted : (is_again : Bool) → Terms ℕ → Asked ℕ → SchedulesValue → Terms ℕ
terms_wanted false terms asked s = said true s.repeats terms
terms_wanted true terms asked s = with_packet_of (terms_of (last_in asked s)) (said true s.repeats terms)

-- the query on the subject that is still to come in a schedule from before the capture
abbrev pub next_in : Asked ℕ → SchedulesValue → Option (Entry ℕ)
next_in asked s = first_entry (is_free OfSeen asked 0) s.next.entries

-- A change comes while the last one on the subject counts, or one of a change from before the capture.
abbrev pub is_close : (moment : ℕ) → Asked ℕ → SchedulesValue → Bool
is_close moment asked s =
    nat_lt moment s.repeats.held_until && not (nat_lt s.repeats.span moment) || has_free OfWanted asked 0 s.causes

-- the schedules after a change that is close to an earlier one
abbrev pub with_close : (is_close : Bool) → (moment : ℕ) → Terms ℕ → Asked ℕ → SchedulesValue → SchedulesValue
with_close true moment terms asked s = record s { causes = with_entry (Seen moment asked terms None (as_wanted (Extra NoChange))) s.causes }
with_close false moment terms asked s = s

-- The schedules after a host made a change that may make a querier ask for a subject, with these terms.
unfoldable pub with_cause : (moment : ℕ) → Terms ℕ → Asked ℕ → SchedulesValue → SchedulesValue
with_cause moment terms asked s =
    record s {
      causes =
          with_entry (Wanted moment asked terms Optional false)
          (with_partner OfWanted asked 0 terms s.causes);
    }

abbrev pub schedules_changed : (moment : ℕ) → Terms ℕ → Asked ℕ → SchedulesValue → SchedulesValue
schedules_changed moment terms asked s =
    with_cause moment (said true s.repeats terms) asked (with_close (is_close moment asked s) moment (said true s.repeats terms) asked s)

-- The group, or all sources of the group, to which a subject belongs. The source zero stands for all sources.
abbrev pub whole_of : Asked ℕ → Asked ℕ
whole_of AllGroups = AllGroups
whole_of (Group group) = Group group
whole_of (Source group source) = Source group 0

-- A change that counts asked for the subject, or for its group. None asks for the source zero.
abbrev pub has_changed : Asked ℕ → SchedulesValue → Bool
has_changed AllGroups s = false
has_changed (Group group) s = has_free OfWanted (Group group) 0 s.causes
has_changed (Source group source) s =
    not (source == 0) && (has_free OfWanted (Source group source) 0 s.causes || has_free OfWanted (Group group) 0 s.causes)

-- The terms of a query on the subject that some reading may want: a change asked for it, and changes of its group, or of
-- all sources, came close together. A strict check accepts no other reading.
abbrev pub unclear : Asked ℕ → SchedulesValue → Option (Terms ℕ)
unclear asked s =
    if nat_lt 0 s.repeats.more && has_changed asked s
    then terms_of (first_entry (is_free OfSeen (whole_of asked) 0) s.causes.entries)
    else None

abbrev pub cause_in : Asked ℕ → SchedulesValue → Option (Entry ℕ)
cause_in asked s = first_entry (is_free OfWanted asked 0) s.causes.entries

-- A query is seen at most the tolerance after a change.
abbrev pub is_near_cause : Repeats → (moment : ℕ) → (cause : Option (Entry ℕ)) → Bool
is_near_cause repeats moment None = false
is_near_cause repeats moment (Some cause) = not (is_long_before repeats (moment_of cause) moment)

-- No query on the subject was wanted, or seen for a subject from before the capture, since the change.
abbrev pub is_unused : Repeats → (last : Option (Entry ℕ)) → Entry ℕ → Bool
is_unused repeats None cause = true
is_unused repeats (Some last) cause = nat_lt (moment_of last) (due_after repeats (moment_of cause))

-- The terms of a query that a change makes a querier send if it held the subject before the capture. The change comes while
-- that may be held. If the Robustness Variable is above 7, a querier holds a subject for longer than the link.
abbrev pub caused_by : Repeats → (moment : ℕ) → (last cause : Option (Entry ℕ)) → Option (Terms ℕ)
caused_by repeats moment last None = None
caused_by repeats moment last (Some cause) =
    if (repeats.above_7 || nat_lt (moment_of cause) repeats.held_until) && is_near_cause repeats moment (Some cause) && is_unused repeats last cause
    then terms_in cause
    else None

-- The terms of a query that any change makes a querier send. After a change of a group it may ask for each source of it.
abbrev pub caused : (moment : ℕ) → Asked ℕ → SchedulesValue → Option (Terms ℕ)
caused moment AllGroups s = None
caused moment (Group group) s = caused_by s.repeats moment (last_in (Group group) s) (cause_in (Group group) s)
caused moment (Source group source) s = first_of
    (caused_by s.repeats moment (last_in (Source group source) s) (cause_in (Source group source) s))
    (caused_by s.repeats moment (last_in (Source group source) s) (cause_in (Group group) s))

-- The terms of a query at the start of a capture, which a change from before may ask for. Or it goes on with a schedule whose
-- number of queries isn't known. They are those that are seen, since the change isn't known.
abbrev pub unforeseen : (moment : ℕ) → (seen : Terms ℕ) → Asked ℕ → SchedulesValue → Option (Terms ℕ)
unforeseen moment seen asked s =
    if nat_lt moment s.repeats.first_until || s.repeats.above_7 && is_next s.repeats moment (before_in asked s) then Some seen else None

-- The wanted terms of a query that is the next one. S depends on timers at that moment: `is_above` is set if the timer of the
-- subject exceeds the Last Member Query Time.
abbrev pub with_s : (is_above : Bool) → Option (Terms ℕ) → Option (Terms ℕ)
with_s is_above None = None
with_s is_above (Some wanted) = Some (record wanted { querier = with_suppress is_above wanted.querier })

abbrev pub followed : (moment : ℕ) → (is_above : Bool) → Asked ℕ → SchedulesValue → Option (Terms ℕ)
followed moment is_above asked s =
    if is_next s.repeats moment (next_in asked s) && not (is_some (caused moment asked s))
    then with_s is_above (terms_of (next_in asked s))
    else None

-- the schedules without that query, which comes no more
abbrev pub dropped : (next : Option (Terms ℕ)) → Asked ℕ → WaitingValue → WaitingValue
dropped None asked w = w
dropped (Some terms) asked w = with_partner OfSeen asked 0 terms w

unfoldable pub without_next : Asked ℕ → SchedulesValue → SchedulesValue
without_next asked s = record s { next = dropped (terms_of (next_in asked s)) asked s.next }

abbrev pub with_next : (left due : ℕ) → Terms ℕ → Asked ℕ → SchedulesValue → SchedulesValue
with_next left due terms asked s =
    if nat_lt 0 left then record s { next = with_entry (Seen due asked terms None (as_wanted (Next left))) s.next } else s

-- the number of queries from it on
abbrev pub left_in_next : (next : Option (Entry ℕ)) → ℕ
left_in_next None = 0
left_in_next (Some next) = left_in next

abbrev pub terms_or : (terms : Terms ℕ) → Option (Terms ℕ) → Terms ℕ
terms_or terms None = terms
terms_or terms (Some other) = other

-- The schedules after the query was seen that was still to come. The next one is due an interval later.
unfoldable pub gone_on : (moment : ℕ) → (seen : Terms ℕ) → Asked ℕ → SchedulesValue → SchedulesValue
gone_on moment seen asked s =
    let next = next_in asked s in
    with_next (left_in_next next - 1) (due_after s.repeats moment) (terms_or seen (terms_of next)) asked
    (without_next asked s)

-- The schedules after the first query was seen of a schedule for a subject from before the capture. It counts as wanted.
unfoldable pub begun : (moment : ℕ) → (wanted : Terms ℕ) → Asked ℕ → SchedulesValue → SchedulesValue
begun moment wanted asked s =
    with_next s.repeats.count (due_after s.repeats moment) wanted asked (without_next asked (schedules_wanted moment wanted asked s))

-- The schedules after a query was seen. It has a partner among the wanted queries, or is the next one of a schedule from
-- before the capture. Or a change in the capture caused it: then it is the first one of such a schedule. If the number of queries
-- isn't known, more may follow any possible query.
abbrev pub placed_alone : (moment : ℕ) → Terms ℕ → Asked ℕ → (is_possible : Bool) → (caused : Option (Terms ℕ)) → SchedulesValue → SchedulesValue
placed_alone moment terms asked false caused s = schedules_seen moment terms asked false s
placed_alone moment terms asked true None s = schedules_seen moment terms asked s.repeats.above_7 s
placed_alone moment terms asked true (Some wanted) s = begun moment wanted asked (schedules_seen moment terms asked true s)

abbrev pub placed : (moment : ℕ) → Terms ℕ → Asked ℕ → (has_partner follows is_possible : Bool) → (caused : Option (Terms ℕ)) → SchedulesValue → SchedulesValue
placed moment terms asked true follows is_possible caused s = schedules_seen moment terms asked true s
placed moment terms asked false true is_possible caused s = gone_on moment terms asked (schedules_seen moment terms asked true s)
placed moment terms asked false false is_possible caused s = placed_alone moment terms asked is_possible caused s
