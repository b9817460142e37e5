-- Buffered output of findings, as contracts see it.
use Rattle.std.specs.Prelude.{◌≡◌, ℕ, zero, suc, ◌||◌, Bool, true, false, List, [], length, Result, IfOk, is_err}
use Rattle.mq_wire.specs.Family.{Family}
use Rattle.mq_text.specs.Printing.{OutputState, Puts}
use Rattle.mq_check.specs.declared.check_terms.Additions.{Additions}
use Rattle.mq_check.specs.declared.finding.Finding.{Finding}
use Rattle.mq_check.specs.declared.repeated.LastDifferences.{LastDifferences}
use Rattle.mq_check.specs.declared.finding.Finding.TheVariants.{Missing, Extra, PossiblyMissing, PossiblyExtra, Differs, Interval, Silence, Packet}
use Rattle.mq_check.specs.declared.totals.FindingCounts.{FindingCounts}
use Rattle.mq_check.specs.declared.totals.KindCounts.{KindCounts}
use Rattle.mq_check.specs.Checking.{counted_up}
use Rattle.mq_check.specs.FindingLines.{certain_in, finding_lines, is_possible, of_kind, possible_in}
use Rattle.mq_check.specs.Repeated.{no_differences, reported, with_findings}

-- no finding
abbrev pub no_kinds : KindCounts
no_kinds = record { missing = 0; extra = 0; differs = 0; interval = 0; silence = 0; header = 0 }

abbrev pub none_counted : FindingCounts
none_counted = record { certain = 0; possible = 0; kinds = no_kinds }

-- The unwritten text, the additions to lines of findings, the last differences, and the numbers of reported findings.
pub record FindingWriterState : Type 0 where
  pub held : List ℕ
  pub additions : Additions
  pub last : LastDifferences
  pub count : FindingCounts

-- the state before the first finding
abbrev pub nothing_told : Additions → FindingWriterState
nothing_told additions = record { held = []; additions = additions; last = no_differences; count = none_counted }

-- the reported ones of these findings
abbrev pub reported_by : FindingWriterState → List (Finding ℕ) → List (Finding ℕ)
reported_by told findings = reported told.additions.once told.last findings

-- a count after `times` increments
abbrev pub counted_times : (times count : ℕ) → ℕ
counted_times zero count = count
counted_times (suc n) count = counted_up (counted_times n count)

-- the counts after one more finding
abbrev pub counted_if : (is_possible : Bool) → FindingCounts → FindingCounts
counted_if false count = record count { certain = counted_up count.certain }
counted_if true count = record count { possible = counted_up count.possible }

abbrev pub counted_kind : Finding ℕ → KindCounts → KindCounts
counted_kind (Missing moment packet asked) k = record k { missing = counted_up k.missing }
counted_kind (Extra moment packet asked reason) k = record k { extra = counted_up k.extra }
counted_kind (PossiblyMissing moment packet asked) k = k
counted_kind (PossiblyExtra moment packet asked) k = k
counted_kind (Differs moment packet asked difference) k = record k { differs = counted_up k.differs }
counted_kind (Interval moment packet after wanted) k = record k { interval = counted_up k.interval }
counted_kind (Silence moment after wanted) k = record k { silence = counted_up k.silence }
counted_kind (Packet moment number fault) k = record k { header = counted_up k.header }

abbrev pub counted_one : Finding ℕ → FindingCounts → FindingCounts
counted_one finding count =
    let counted = counted_if (is_possible finding) count in
    record counted { kinds = counted_kind finding count.kinds }

-- the counts after these findings
abbrev pub counted_kinds : List (Finding ℕ) → KindCounts → KindCounts
counted_kinds findings k = record {
  missing = counted_times (length (of_kind 1 findings)) k.missing;
  extra = counted_times (length (of_kind 2 findings)) k.extra;
  differs = counted_times (length (of_kind 3 findings)) k.differs;
  interval = counted_times (length (of_kind 4 findings)) k.interval;
  silence = counted_times (length (of_kind 5 findings)) k.silence;
  header = counted_times (length (of_kind 6 findings)) k.header;
}

abbrev pub counted_by : List (Finding ℕ) → FindingCounts → FindingCounts
counted_by findings count = record {
  certain = counted_times (length (certain_in findings)) count.certain;
  possible = counted_times (length (possible_in findings)) count.possible;
  kinds = counted_kinds findings count.kinds;
}

-- the reported ones of these findings were printed in order, or a write failed
pub record Tells {T E : Type 0} (family : Family) (findings : List (Finding ℕ)) (old new : FindingWriterState) (before after : OutputState) (r : Result T E) : Type 0 where
  pub additions : new.additions ≡ old.additions
  pub last : IfOk r (λ _. new.last ≡ with_findings findings old.last)
  pub count : IfOk r (λ _. new.count ≡ counted_by (reported_by old findings) old.count)
  pub text : Puts before.held after.held old.held new.held (finding_lines family old.additions (reported_by old findings)) r
  pub failed : after.failed ≡ before.failed || is_err r
