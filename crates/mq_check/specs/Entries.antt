-- Pending entries: wanted and seen queries whose partners may still come, and findings, in ascending order of their
-- moments.
use Rattle.std.specs.Prelude.{ℕ, ◌+◌, ◌==◌, ◌&&◌, not, nat_lt, nat_le, Bool, true, false, if◌then◌else◌, List, [], ◌∷◌, ◌++◌, map as list_map, Option, None, Some, is_some}
use Rattle.std.specs.List.{list_any}
use Rattle.mq_check.specs.declared.asked.Asked.{Asked}
use Rattle.mq_check.specs.declared.asked.Asked.TheVariants.{AllGroups, Group, Source}
use Rattle.mq_check.specs.declared.entry.Entry.{Entry}
use Rattle.mq_check.specs.declared.entry.Entry.TheVariants.{Wanted, Seen, Interval, Silence, Packet}
use Rattle.mq_check.specs.declared.entry.Unpaired.{Unpaired}
use Rattle.mq_check.specs.declared.entry.Need.{Need}
use Rattle.mq_check.specs.declared.entry.Need.TheVariants.{Required, Optional}
use Rattle.mq_check.specs.declared.entry.Need.TheVariants as need
use Rattle.mq_check.specs.declared.entry.Unpaired.TheVariants.{Extra, Possible, Scheduled, Next}
use Rattle.mq_check.specs.declared.entry.SVerdict.{SVerdict}
use Rattle.mq_check.specs.declared.entry.SVerdict.TheVariants.{Open, Right, AsWanted}
use Rattle.mq_check.specs.declared.entry.SeenVerdict.{SeenVerdict}
use Rattle.mq_check.specs.declared.finding.Difference.{Difference}
use Rattle.mq_check.specs.declared.finding.Difference.TheVariants as field
use Rattle.mq_check.specs.declared.finding.Finding.{Finding}
use Rattle.mq_check.specs.declared.finding.Finding.TheVariants as finding
use Rattle.mq_check.specs.declared.terms.Terms.{Terms}
use Rattle.mq_check.specs.declared.terms.QuerierTerms.{QuerierTerms}
use Rattle.mq_check.specs.Queries.{is_same}

abbrev pub moment_of : Entry ℕ → ℕ
moment_of (Wanted moment asked terms need is_found) = moment
moment_of (Seen moment asked terms partner verdict) = moment
moment_of (Interval moment packet after wanted) = moment
moment_of (Silence moment after wanted) = moment
moment_of (Packet moment number fault) = moment

-- two numbers differ by at most the tolerance
abbrev pub is_within : (within a b : ℕ) → Bool
is_within within a b = nat_le a (b + within) && nat_le b (a + within)

-- The entry has expired: more than the tolerance has passed since its moment.
abbrev pub is_over : (within now : ℕ) → Entry ℕ → Bool
is_over within now entry = nat_lt (moment_of entry + within) now

-- a wanted query that has no partner yet
abbrev pub is_free_wanted : Asked ℕ → Entry ℕ → Bool
is_free_wanted asked (Wanted moment asked' terms need is_found) = is_same asked asked' && not is_found
is_free_wanted asked (Seen moment asked' terms partner verdict) = false
is_free_wanted asked (Interval moment packet after wanted) = false
is_free_wanted asked (Silence moment after wanted) = false
is_free_wanted asked (Packet moment number fault) = false

-- a seen query that has no partner yet
abbrev pub is_free_seen : Asked ℕ → Entry ℕ → Bool
is_free_seen asked (Wanted moment asked' terms need is_found) = false
is_free_seen asked (Seen moment asked' terms partner verdict) = is_same asked asked' && not (is_some partner)
is_free_seen asked (Interval moment packet after wanted) = false
is_free_seen asked (Silence moment after wanted) = false
is_free_seen asked (Packet moment number fault) = false

abbrev pub terms_in : Entry ℕ → Option (Terms ℕ)
terms_in (Wanted moment asked terms need is_found) = Some terms
terms_in (Seen moment asked terms partner verdict) = Some terms
terms_in (Interval moment packet after wanted) = None
terms_in (Silence moment after wanted) = None
terms_in (Packet moment number fault) = None

-- the entry with a partner, whose terms a seen query keeps
abbrev pub joined : Terms ℕ → Entry ℕ → Entry ℕ
joined other (Wanted moment asked terms need is_found) = Wanted moment asked terms need true
joined other (Seen moment asked terms partner verdict) = Seen moment asked terms (Some other) verdict
joined other (Interval moment packet after wanted) = Interval moment packet after wanted
joined other (Silence moment after wanted) = Silence moment after wanted
joined other (Packet moment number fault) = Packet moment number fault

-- the terms of the first entry that satisfies a test, and the entries after that one has found its partner
abbrev pub first_terms : (Entry ℕ → Bool) → List (Entry ℕ) → Option (Terms ℕ)
first_terms test [] = None
first_terms test (entry ∷ entries) = if test entry then terms_in entry else first_terms test entries

abbrev pub first_joined : (Entry ℕ → Bool) → Terms ℕ → List (Entry ℕ) → List (Entry ℕ)
first_joined test other [] = []
first_joined test other (entry ∷ entries) =
    if test entry then joined other entry ∷ entries else entry ∷ first_joined test other entries

abbrev pub first_entry : (Entry ℕ → Bool) → List (Entry ℕ) → Option (Entry ℕ)
first_entry test [] = None
first_entry test (entry ∷ entries) = if test entry then Some entry else first_entry test entries

-- the number of queries that may come after a seen one in its schedule
abbrev pub left_of : Unpaired ℕ → ℕ
left_of (Extra reason) = 0
left_of (Possible wanted) = 0
left_of (Scheduled left) = left
left_of (Next left) = left

abbrev pub left_in : Entry ℕ → ℕ
left_in (Wanted moment asked terms need is_found) = 0
left_in (Seen moment asked terms partner verdict) = left_of verdict.alone
left_in (Interval moment packet after wanted) = 0
left_in (Silence moment after wanted) = 0
left_in (Packet moment number fault) = 0

-- a query for a group that is wanted at a moment
abbrev pub is_group_wanted : (moment group : ℕ) → Entry ℕ → Bool
is_group_wanted moment group (Wanted moment' asked terms need is_found) = is_same (Group group) asked && (moment == moment')
is_group_wanted moment group (Seen moment' asked terms partner verdict) = false
is_group_wanted moment group (Interval moment' packet after wanted) = false
is_group_wanted moment group (Silence moment' after wanted) = false
is_group_wanted moment group (Packet moment' number fault) = false

-- A query for sources with S set may be left out if one for their group is sent at the same moment. RFC 3376 section
-- 6.6.3.2, RFC 3810 section 7.6.3.2.
abbrev pub is_suppressed : Option QuerierTerms → Bool
is_suppressed None = false
is_suppressed (Some terms) = terms.suppress

abbrev pub may_be_left_out : (moment : ℕ) → Asked ℕ → Terms ℕ → List (Entry ℕ) → Bool
may_be_left_out moment AllGroups terms entries = false
may_be_left_out moment (Group group) terms entries = false
may_be_left_out moment (Source group source) terms entries =
    is_suppressed terms.querier && list_any (is_group_wanted moment group) entries

abbrev pub is_unlike : (a b : Bool) → Bool
is_unlike true b = not b
is_unlike false b = b

-- Each field of a pair that differs. A field that only one of the two has isn't compared: then the version differs.
abbrev pub difference_if : Bool → Difference ℕ → List (Difference ℕ)
difference_if true difference = difference ∷ []
difference_if false difference = []

abbrev pub responses_differ : (seen wanted : Option ℕ) → List (Difference ℕ)
responses_differ None wanted = []
responses_differ (Some seen) None = []
responses_differ (Some seen) (Some wanted) = difference_if (not (seen == wanted)) (field.Response seen wanted)

abbrev pub fields_differ : (seen wanted : QuerierTerms) → List (Difference ℕ)
fields_differ seen wanted =
    difference_if (is_unlike seen.suppress wanted.suppress) (field.Suppress seen.suppress wanted.suppress)
    ++ difference_if (not (seen.robustness == wanted.robustness)) (field.Robustness seen.robustness wanted.robustness)
    ++ difference_if (not (seen.interval == wanted.interval)) (field.QueryInterval seen.interval wanted.interval)

abbrev pub queriers_differ : (seen wanted : Option QuerierTerms) → List (Difference ℕ)
queriers_differ None wanted = []
queriers_differ (Some seen) None = []
queriers_differ (Some seen) (Some wanted) = fields_differ seen wanted

abbrev pub terms_differ : (seen wanted : Terms ℕ) → List (Difference ℕ)
terms_differ seen wanted =
    difference_if (not (seen.version == wanted.version)) (field.Version seen.version wanted.version)
    ++ responses_differ seen.response wanted.response
    ++ queriers_differ seen.querier wanted.querier
    ++ difference_if (not (seen.to == wanted.to)) (field.Destination seen.to wanted.to)

-- the role of querier changed within the tolerance of a moment
abbrev pub is_near_change : (within moment : ℕ) → (changed : Option ℕ) → Bool
is_near_change within moment None = false
is_near_change within moment (Some changed) = is_within within moment changed

-- the findings of a pair, with the number of the packet of the seen query
abbrev pub differ_at : (moment packet : ℕ) → Asked ℕ → List (Difference ℕ) → List (Finding ℕ)
differ_at moment packet asked differences = list_map (finding.Differs moment packet asked) differences

abbrev pub differences_found : (moment : ℕ) → Asked ℕ → (seen wanted : Terms ℕ) → List (Finding ℕ)
differences_found moment asked seen wanted = differ_at moment seen.packet asked (terms_differ seen wanted)

-- the finding that a query is missing, by its need
abbrev pub missing_by : Need → (moment packet : ℕ) → Asked ℕ → List (Finding ℕ)
missing_by Required moment packet asked = finding.Missing moment packet asked ∷ []
missing_by need.Possible moment packet asked = finding.PossiblyMissing moment packet asked ∷ []
missing_by Optional moment packet asked = []

-- a query that another reading, or a state from before the capture, may explain
abbrev pub is_possible : Unpaired ℕ → Bool
is_possible (Extra reason) = false
is_possible (Possible wanted) = true
is_possible (Scheduled left) = false
is_possible (Next left) = false

-- The findings of a seen query without a partner. It is extra, or possibly extra. Then it is compared with a query of these
-- terms. A query that is still to come is possibly missing: a timer from before may have ended.
abbrev pub findings_alone : (moment : ℕ) → Asked ℕ → Terms ℕ → Unpaired ℕ → List (Finding ℕ)
findings_alone moment asked terms (Extra reason) = finding.Extra moment terms.packet asked reason ∷ []
findings_alone moment asked terms (Possible wanted) =
    finding.PossiblyExtra moment terms.packet asked ∷ differences_found moment asked terms wanted
findings_alone moment asked terms (Scheduled left) = []
findings_alone moment asked terms (Next left) = finding.PossiblyMissing moment terms.packet asked ∷ []

-- both queries have S, and it differs
abbrev pub has_other_s : (seen wanted : Option QuerierTerms) → Bool
has_other_s None wanted = false
has_other_s (Some seen) None = false
has_other_s (Some seen) (Some wanted) = is_unlike seen.suppress wanted.suppress

-- the fields of a wanted query, with S as seen: S depends on timers at that moment
abbrev pub with_suppress : Bool → Option QuerierTerms → Option QuerierTerms
with_suppress suppress None = None
with_suppress suppress (Some wanted) = Some (record wanted { suppress = suppress })

abbrev pub with_s_of : (seen wanted : Terms ℕ) → Terms ℕ
with_s_of seen wanted = record wanted { querier = with_suppress (is_suppressed seen.querier) wanted.querier }

-- the verdict on a query whose S has to be that of its partner
abbrev pub as_wanted : Unpaired ℕ → SeenVerdict ℕ
as_wanted alone = record { s = AsWanted; alone = alone }

-- S isn't judged yet.
abbrev pub is_open_s : SVerdict → Bool
is_open_s (Open limit) = true
is_open_s Right = false
is_open_s AsWanted = false

abbrev pub is_s_open : Entry ℕ → Bool
is_s_open (Wanted moment asked terms need is_found) = false
is_s_open (Seen moment asked terms partner verdict) = is_open_s verdict.s
is_s_open (Interval moment packet after wanted) = false
is_s_open (Silence moment after wanted) = false
is_s_open (Packet moment number fault) = false

-- A judgement by the timer of the subject. A stamp may be a millisecond off. So either S is right if a Report set the timer at
-- most a millisecond before or after the query. Then it runs up to a limit or longer, as `is_set` says.
abbrev pub s_if : (is_set : Bool) → SVerdict
s_if true = Right
s_if false = AsWanted

abbrev pub s_judged : (is_set : (limit : ℕ) → Asked ℕ → Bool) → Asked ℕ → SVerdict → SVerdict
s_judged is_set asked (Open limit) = s_if (is_set limit asked)
s_judged is_set asked Right = Right
s_judged is_set asked AsWanted = AsWanted

abbrev pub entry_judged : (is_set : (limit : ℕ) → Asked ℕ → Bool) → Entry ℕ → Entry ℕ
entry_judged is_set (Wanted moment asked terms need is_found) = Wanted moment asked terms need is_found
entry_judged is_set (Seen moment asked terms partner verdict) =
    Seen moment asked terms partner (record verdict { s = s_judged is_set asked verdict.s })
entry_judged is_set (Interval moment packet after wanted) = Interval moment packet after wanted
entry_judged is_set (Silence moment after wanted) = Silence moment after wanted
entry_judged is_set (Packet moment number fault) = Packet moment number fault

-- the wanted query with which a seen one is compared
abbrev pub with_s_judged : SVerdict → (seen wanted : Terms ℕ) → Terms ℕ
with_s_judged (Open limit) seen wanted = wanted
with_s_judged Right seen wanted = with_s_of seen wanted
with_s_judged AsWanted seen wanted = wanted

-- The findings of a seen query with a partner. If the query is possibly another one, another S makes it possibly extra.
abbrev pub findings_of_pair : (moment : ℕ) → Asked ℕ → (seen wanted : Terms ℕ) → Unpaired ℕ → List (Finding ℕ)
findings_of_pair moment asked seen wanted alone =
    if is_possible alone && has_other_s seen.querier wanted.querier
    then findings_alone moment asked seen (Possible (with_s_of seen wanted))
    else differences_found moment asked seen wanted

-- The findings of a seen query. Without a partner it has none if the role changed within the tolerance of it.
abbrev pub findings_of_seen : (within : ℕ) → (changed : Option ℕ) → (moment : ℕ) → Asked ℕ → Terms ℕ → Option (Terms ℕ) → SeenVerdict ℕ → List (Finding ℕ)
findings_of_seen within changed moment asked terms None verdict =
    if is_near_change within moment changed then [] else findings_alone moment asked terms verdict.alone
findings_of_seen within changed moment asked terms (Some wanted) verdict =
    findings_of_pair moment asked terms (with_s_judged verdict.s terms wanted) verdict.alone

-- The entry at the end of a capture. The partner of a wanted query may come after the end, so the query may be left
-- out.
abbrev pub excused : Entry ℕ → Entry ℕ
excused (Wanted moment asked terms need is_found) = Wanted moment asked terms Optional is_found
excused (Seen moment asked terms partner verdict) = Seen moment asked terms partner verdict
excused (Interval moment packet after wanted) = Interval moment packet after wanted
excused (Silence moment after wanted) = Silence moment after wanted
excused (Packet moment number fault) = Packet moment number fault

abbrev pub excused_if : Bool → Entry ℕ → Entry ℕ
excused_if true entry = excused entry
excused_if false entry = entry

-- the findings of an expired entry, if the role changed last at `changed`
abbrev pub findings_of : (within : ℕ) → (changed : Option ℕ) → Entry ℕ → List (Finding ℕ)
findings_of within changed (Wanted moment asked terms need is_found) =
    if is_found then [] else missing_by need moment terms.packet asked
findings_of within changed (Seen moment asked terms partner verdict) =
    findings_of_seen within changed moment asked terms partner verdict
findings_of within changed (Interval moment packet after wanted) = finding.Interval moment packet after wanted ∷ []
findings_of within changed (Silence moment after wanted) = finding.Silence moment after wanted ∷ []
findings_of within changed (Packet moment number fault) = finding.Packet moment number fault ∷ []
