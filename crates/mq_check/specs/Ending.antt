-- The end of a check, after earlier findings.
use Rattle.std.specs.Prelude.{ℕ, if◌then◌else◌, List, ◌++◌, Ok, Err}
use Rattle.mq_wire.specs.Family.{Family}
use Rattle.mq_link.specs.Configuration.{Configuration}
use Rattle.mq_walk.specs.declared.capture_fault.CaptureFault.TheVariants as answer
use Rattle.mq_walk.specs.Courses.{Report}
use Rattle.mq_check.specs.declared.basis.Basis.{Basis}
use Rattle.mq_check.specs.declared.check_terms.Additions.{Additions}
use Rattle.mq_check.specs.declared.finding.Finding.{Finding}
use Rattle.mq_check.specs.declared.totals.FindingCounts.{FindingCounts}
use Rattle.mq_check.specs.declared.totals.Totals.{Totals}
use Rattle.mq_check.specs.Check.{Checked, basis_at_end, looked_ahead, purged_through}
use Rattle.mq_check.specs.Checking.{CheckingValue, told_at_end}
use Rattle.mq_check.specs.FindingLines.{finding_lines, last_lines}
use Rattle.mq_check.specs.General.{silence_up_to}
use Rattle.mq_check.specs.Telling.{FindingWriterState, counted_by, reported_by}

-- the totals of a check with these reported findings, after earlier ones
abbrev pub counted_behind : (count : FindingCounts) → CheckingValue → Basis → List (Finding ℕ) → Totals
counted_behind count c basis found = record {
  general = c.general;
  specific = c.specific;
  findings = (counted_by found count).certain;
  possible = (counted_by found count).possible;
  kinds = (counted_by found count).kinds;
  basis = basis;
}

-- the text of the end
abbrev pub end_text : Family → (additions : Additions) → List (Finding ℕ) → Totals → List ℕ
end_text family additions found totals = finding_lines family additions found ++ last_lines additions.json totals

-- The verdict up to and including a moment, after earlier findings.
abbrev pub end_behind : Family → FindingWriterState → (number : ℕ) → CheckingValue → Basis → (found last : List (Finding ℕ)) → Report Totals
end_behind family told number c basis found last =
    let all = reported_by told (found ++ last) in
    if c.waiting.is_full
    then record { text = finding_lines family told.additions (reported_by told found); answer = Err (answer.Waiting number) }
    else record {
      text = end_text family told.additions all (counted_behind told.count c basis all);
      answer = Ok (counted_behind told.count c basis all);
    }

unfoldable pub ended_behind : Configuration → (within : ℕ) → FindingWriterState → (moment number : ℕ) → Checked → Report Totals
ended_behind config within told moment number r =
    let done = purged_through config within moment r in
    let ahead = looked_ahead config within moment done.checked in
    let silence = silence_up_to within config.timing moment done.checked.checking.phase in
    end_behind config.family told number ahead.checked.checking (basis_at_end done.checked) (done.found ++ ahead.found)
    (told_at_end within config.timing moment silence ahead.checked.checking)
