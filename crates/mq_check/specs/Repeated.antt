-- Differences in the querier's variables that repeat earlier ones. These variables are the response, QRV and QQIC. If the
-- variables come from the capture, a change of one is reported once, and not for each query after it.
use Rattle.std.specs.Prelude.{ℕ, ◌==◌, ◌&&◌, Bool, true, false, List, [], ◌∷◌, Option, None, Some}
use Rattle.mq_check.specs.declared.asked.Asked.{Asked}
use Rattle.mq_check.specs.declared.asked.Asked.TheVariants.{AllGroups, Group, Source}
use Rattle.mq_check.specs.declared.check_terms.Additions.{Additions}
use Rattle.mq_check.specs.declared.finding.Difference.{Difference}
use Rattle.mq_check.specs.declared.finding.Difference.TheVariants.{Version, Response, Suppress, Robustness, QueryInterval, Destination}
use Rattle.mq_check.specs.declared.finding.Finding.{Finding}
use Rattle.mq_check.specs.declared.finding.Finding.TheVariants.{Missing, Extra, PossiblyMissing, PossiblyExtra, Differs, Interval, Silence, Packet}
use Rattle.mq_check.specs.declared.repeated.LastDifferences.{LastDifferences}
use Rattle.mq_check.specs.declared.repeated.LastOfKind.{LastOfKind}
use Rattle.mq_check.specs.declared.repeated.Values.{Values}

-- the state before the first finding
abbrev pub none_of_kind : LastOfKind
none_of_kind = record { response = None; robustness = None; interval = None }

abbrev pub no_differences : LastDifferences
no_differences = record { general = none_of_kind; specific = none_of_kind }

-- these are the values
abbrev pub are_values : Option Values → (seen wanted : ℕ) → Bool
are_values None seen wanted = false
are_values (Some last) seen wanted = (last.seen == seen) && (last.wanted == wanted)

-- a difference has the values of the last one of its variable
abbrev pub has_values : Difference ℕ → LastOfKind → Bool
has_values (Version seen wanted) last = false
has_values (Response seen wanted) last = are_values last.response seen wanted
has_values (Suppress seen wanted) last = false
has_values (Robustness seen wanted) last = are_values last.robustness seen wanted
has_values (QueryInterval seen wanted) last = are_values last.interval seen wanted
has_values (Destination seen wanted) last = false

-- the state after a difference
abbrev pub with_values : Difference ℕ → LastOfKind → LastOfKind
with_values (Version seen wanted) last = last
with_values (Response seen wanted) last = record last { response = Some (record { seen = seen; wanted = wanted }) }
with_values (Suppress seen wanted) last = last
with_values (Robustness seen wanted) last = record last { robustness = Some (record { seen = seen; wanted = wanted }) }
with_values (QueryInterval seen wanted) last = record last { interval = Some (record { seen = seen; wanted = wanted }) }
with_values (Destination seen wanted) last = last

-- a difference of a query on this subject: general queries are one kind, and all others are another
abbrev pub has_values_in : Asked ℕ → Difference ℕ → LastDifferences → Bool
has_values_in AllGroups difference last = has_values difference last.general
has_values_in (Group group) difference last = has_values difference last.specific
has_values_in (Source group source) difference last = has_values difference last.specific

abbrev pub with_values_in : Asked ℕ → Difference ℕ → LastDifferences → LastDifferences
with_values_in AllGroups difference last = record last { general = with_values difference last.general }
with_values_in (Group group) difference last = record last { specific = with_values difference last.specific }
with_values_in (Source group source) difference last = record last { specific = with_values difference last.specific }

-- a finding is the last difference of its variable again, in a query of the same kind
abbrev pub repeats : Finding ℕ → LastDifferences → Bool
repeats (Missing moment packet asked) last = false
repeats (Extra moment packet asked reason) last = false
repeats (PossiblyMissing moment packet asked) last = false
repeats (PossiblyExtra moment packet asked) last = false
repeats (Differs moment packet asked difference) last = has_values_in asked difference last
repeats (Interval moment packet after wanted) last = false
repeats (Silence moment after wanted) last = false
repeats (Packet moment number fault) last = false

-- the state after a finding, and after findings in order
abbrev pub with_finding : Finding ℕ → LastDifferences → LastDifferences
with_finding (Missing moment packet asked) last = last
with_finding (Extra moment packet asked reason) last = last
with_finding (PossiblyMissing moment packet asked) last = last
with_finding (PossiblyExtra moment packet asked) last = last
with_finding (Differs moment packet asked difference) last = with_values_in asked difference last
with_finding (Interval moment packet after wanted) last = last
with_finding (Silence moment after wanted) last = last
with_finding (Packet moment number fault) last = last

abbrev pub with_findings : List (Finding ℕ) → LastDifferences → LastDifferences
with_findings [] last = last
with_findings (finding ∷ findings) last = with_findings findings (with_finding finding last)

-- The reported ones of these findings, after earlier ones. With `once` a finding is left out if it is the last difference of
-- its variable again. Otherwise all are reported.
abbrev pub unless : (is_left_out : Bool) → Finding ℕ → List (Finding ℕ) → List (Finding ℕ)
unless true finding findings = findings
unless false finding findings = finding ∷ findings

abbrev pub is_left_out : (once : Bool) → LastDifferences → Finding ℕ → Bool
is_left_out once last finding = repeats finding last && once

abbrev pub reported : (once : Bool) → LastDifferences → List (Finding ℕ) → List (Finding ℕ)
reported once last [] = []
reported once last (finding ∷ findings) =
    unless (is_left_out once last finding) finding (reported once (with_finding finding last) findings)

-- the reported ones of all findings of a check
abbrev pub all_reported : Additions → List (Finding ℕ) → List (Finding ℕ)
all_reported additions findings = reported additions.once no_differences findings
