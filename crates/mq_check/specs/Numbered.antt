-- Entries and findings with addresses as numbers.
use Rattle.std.specs.Prelude.{ℕ, List, [], ◌∷◌, Option, None, Some, Result, Ok, Err}
use Rattle.mq_walk.specs.declared.capture_fault.CaptureFault.{CaptureFault}
use Rattle.mq_check.specs.declared.announced.Announced.{Announced}
use Rattle.mq_check.specs.declared.others.Four.{Four}
use Rattle.mq_check.specs.declared.others.Others.{Others}
use Rattle.mq_check.specs.declared.sought.AskedLast.{AskedLast}
use Rattle.mq_check.specs.declared.sought.Sought.{Sought}
use Rattle.mq_check.specs.declared.asked.Asked.{Asked}
use Rattle.mq_check.specs.declared.asked.Asked.TheVariants.{AllGroups, Group, Source}
use Rattle.mq_check.specs.declared.entry.Entry.{Entry}
use Rattle.mq_check.specs.declared.entry.Entry.TheVariants.{Wanted, Seen, Interval, Silence, Packet}
use Rattle.mq_check.specs.declared.entry.Unpaired.{Unpaired}
use Rattle.mq_check.specs.declared.entry.SeenVerdict.{SeenVerdict}
use Rattle.mq_check.specs.declared.entry.Unpaired.TheVariants.{Extra, Possible, Scheduled, Next}
use Rattle.mq_check.specs.declared.finding.Difference.{Difference}
use Rattle.mq_check.specs.declared.finding.Difference.TheVariants as difference
use Rattle.mq_check.specs.declared.finding.Finding.{Finding}
use Rattle.mq_check.specs.declared.finding.Finding.TheVariants as finding
use Rattle.mq_check.specs.declared.terms.Terms.{Terms}
use Rattle.mq_wire.specs.declared.query.Query.{Query}
use Rattle.mq_wire.specs.Numbered.{numbered_query}

abbrev pub numbered_query_if : {K : Type 0} → (K → ℕ) → Option (Query K) → Option (Query ℕ)
numbered_query_if number None = None
numbered_query_if number (Some query) = Some (numbered_query number query)

abbrev pub numbered_asked : {K : Type 0} → (K → ℕ) → Asked K → Asked ℕ
numbered_asked number AllGroups = AllGroups
numbered_asked number (Group group) = Group (number group)
numbered_asked number (Source group source) = Source (number group) (number source)

abbrev pub numbered_terms : {K : Type 0} → (K → ℕ) → Terms K → Terms ℕ
numbered_terms number terms =
    record { version = terms.version; response = terms.response; querier = terms.querier; to = number terms.to; packet = terms.packet }

-- an address as its number, if there is one
abbrev pub number_if : {K : Type 0} → (K → ℕ) → Option K → Option ℕ
number_if number None = None
number_if number (Some address) = Some (number address)

abbrev pub numbered_four : {K : Type 0} → (K → ℕ) → Four K → Four ℕ
numbered_four number f = record {
  first = number_if number f.first;
  second = number_if number f.second;
  third = number_if number f.third;
  fourth = number_if number f.fourth;
}

abbrev pub numbered_others : {K : Type 0} → (K → ℕ) → Others K → Others ℕ
numbered_others number o = record { low = numbered_four number o.low; high = numbered_four number o.high; has_more = o.has_more }

abbrev pub numbered_announced : {K : Type 0} → (K → ℕ) → Announced K → Announced ℕ
numbered_announced number a = record {
  querier = number a.querier;
  robustness = a.robustness;
  query_seconds = a.query_seconds;
  response_interval = a.response_interval;
  last_member_interval = a.last_member_interval;
  beside = numbered_others number a.beside;
}

abbrev pub numbered_announced_if : {K : Type 0} → (K → ℕ) → Option (Announced K) → Option (Announced ℕ)
numbered_announced_if number None = None
numbered_announced_if number (Some a) = Some (numbered_announced number a)

abbrev pub numbered_asked_last : {K : Type 0} → (K → ℕ) → AskedLast K → AskedLast ℕ
numbered_asked_last number a = record { group = number a.group; sources = a.sources; at = a.at }

abbrev pub numbered_asked_last_if : {K : Type 0} → (K → ℕ) → Option (AskedLast K) → Option (AskedLast ℕ)
numbered_asked_last_if number None = None
numbered_asked_last_if number (Some a) = Some (numbered_asked_last number a)

abbrev pub numbered_sought : {K : Type 0} → (K → ℕ) → Sought K → Sought ℕ
numbered_sought number s = record {
  querier = number s.querier;
  robustness = s.robustness;
  query_seconds = s.query_seconds;
  response_interval = s.response_interval;
  last_member_interval = s.last_member_interval;
  others = numbered_others number s.others;
  general = s.general;
  asked = numbered_asked_last_if number s.asked;
}

abbrev pub numbered_sought_if : {K : Type 0} → (K → ℕ) → Option (Sought K) → Option (Sought ℕ)
numbered_sought_if number None = None
numbered_sought_if number (Some s) = Some (numbered_sought number s)

abbrev pub numbered_answer : {K : Type 0} → (K → ℕ) → Result (Option (Announced K)) CaptureFault → Result (Option (Announced ℕ)) CaptureFault
numbered_answer number (Ok found) = Ok (numbered_announced_if number found)
numbered_answer number (Err fault) = Err fault

abbrev pub numbered_terms_if : {K : Type 0} → (K → ℕ) → Option (Terms K) → Option (Terms ℕ)
numbered_terms_if number None = None
numbered_terms_if number (Some terms) = Some (numbered_terms number terms)

abbrev pub numbered_unpaired : {K : Type 0} → (K → ℕ) → Unpaired K → Unpaired ℕ
numbered_unpaired number (Extra reason) = Extra reason
numbered_unpaired number (Possible terms) = Possible (numbered_terms number terms)
numbered_unpaired number (Scheduled left) = Scheduled left
numbered_unpaired number (Next left) = Next left

abbrev pub numbered_verdict : {K : Type 0} → (K → ℕ) → SeenVerdict K → SeenVerdict ℕ
numbered_verdict number verdict = record { s = verdict.s; alone = numbered_unpaired number verdict.alone }

abbrev pub numbered_entry : {K : Type 0} → (K → ℕ) → Entry K → Entry ℕ
numbered_entry number (Wanted moment asked terms need is_found) =
    Wanted moment (numbered_asked number asked) (numbered_terms number terms) need is_found
numbered_entry number (Seen moment asked terms partner verdict) =
    Seen moment (numbered_asked number asked) (numbered_terms number terms) (numbered_terms_if number partner)
    (numbered_verdict number verdict)
numbered_entry number (Interval moment packet after wanted) = Interval moment packet after wanted
numbered_entry number (Silence moment after wanted) = Silence moment after wanted
numbered_entry number (Packet moment packet fault) = Packet moment packet fault

abbrev pub numbered_entry_if : {K : Type 0} → (K → ℕ) → Option (Entry K) → Option (Entry ℕ)
numbered_entry_if number None = None
numbered_entry_if number (Some entry) = Some (numbered_entry number entry)

abbrev pub numbered_difference : {K : Type 0} → (K → ℕ) → Difference K → Difference ℕ
numbered_difference number (difference.Version seen wanted) = difference.Version seen wanted
numbered_difference number (difference.Response seen wanted) = difference.Response seen wanted
numbered_difference number (difference.Suppress seen wanted) = difference.Suppress seen wanted
numbered_difference number (difference.Robustness seen wanted) = difference.Robustness seen wanted
numbered_difference number (difference.QueryInterval seen wanted) = difference.QueryInterval seen wanted
numbered_difference number (difference.Destination seen wanted) = difference.Destination (number seen) (number wanted)

-- a list of the difference, if there is one
abbrev pub difference_list : {K : Type 0} → (K → ℕ) → Option (Difference K) → List (Difference ℕ)
difference_list number None = []
difference_list number (Some difference) = numbered_difference number difference ∷ []

abbrev pub numbered_finding : {K : Type 0} → (K → ℕ) → Finding K → Finding ℕ
numbered_finding number (finding.Missing moment packet asked) =
    finding.Missing moment packet (numbered_asked number asked)
numbered_finding number (finding.Extra moment packet asked reason) =
    finding.Extra moment packet (numbered_asked number asked) reason
numbered_finding number (finding.PossiblyMissing moment packet asked) =
    finding.PossiblyMissing moment packet (numbered_asked number asked)
numbered_finding number (finding.PossiblyExtra moment packet asked) =
    finding.PossiblyExtra moment packet (numbered_asked number asked)
numbered_finding number (finding.Differs moment packet asked difference) =
    finding.Differs moment packet (numbered_asked number asked) (numbered_difference number difference)
numbered_finding number (finding.Interval moment packet after wanted) = finding.Interval moment packet after wanted
numbered_finding number (finding.Silence moment after wanted) = finding.Silence moment after wanted
numbered_finding number (finding.Packet moment packet fault) = finding.Packet moment packet fault
