-- The faults of the calls below, as the page receives them.
use Rattle.std.specs.Prelude.{ℕ, if◌then◌else◌, List, [], Option, None, Some, Result, Ok, Err}
use Rattle.mq_walk.specs.declared.capture_fault.CaptureFault.{CaptureFault}
use Rattle.mq_walk.specs.declared.capture_fault.CaptureFault.TheVariants as capture
use Rattle.mq_check.specs.declared.totals.Totals.{Totals}
use Rattle.mq_check.specs.declared.unjudged.Unjudged.{Unjudged}
use Rattle.mq_check.specs.declared.unjudged.Unjudged.TheVariants.{NoQuery}
use Rattle.mq_check.specs.Basis.{is_unseen, unjudged_by}
use Rattle.mq_convert.specs.declared.fault.ConvertFault.{ConvertFault}
use Rattle.mq_convert.specs.declared.fault.ConvertFault.TheVariants as conversion
use Rattle.mq_page.specs.declared.page_fault.PageFault.{PageFault}
use Rattle.mq_page.specs.declared.page_fault.PageFault.TheVariants.{Full, Memory, Capture, Gap, Waiting, ConversionRead, Conversion, NothingJudged}

-- the fault of a listing, a replay or a check; a failed write found no room
abbrev pub of_capture : CaptureFault → PageFault
of_capture (capture.Pcap f) = Capture f
of_capture capture.Write = Full
of_capture (capture.Gap number) = Gap number
of_capture (capture.Waiting number) = Waiting number
of_capture capture.Memory = Memory

abbrev pub of_conversion : ConvertFault → PageFault
of_conversion conversion.Read = ConversionRead
of_conversion conversion.Write = Full
of_conversion conversion.Memory = Memory
of_conversion (conversion.Block number f) = Conversion number f

-- the outcome of a check that came to its end: the number of its findings, or why it judged nothing
abbrev pub judged : (findings : ℕ) → Option Unjudged → Result ℕ PageFault
judged findings None = Ok findings
judged findings (Some why) = Err (NothingJudged why)

abbrev pub concluded : Totals → Result ℕ PageFault
concluded totals =
    if is_unseen totals.basis then Err (NothingJudged NoQuery) else judged totals.findings (unjudged_by totals)

-- the shown text of a check: nothing if the querier is unseen
abbrev pub shown : Result Totals CaptureFault → (text : List ℕ) → List ℕ
shown (Ok totals) text = if is_unseen totals.basis then [] else text
shown (Err f) text = text

-- the outcome of a call: that of its result, or a fault
abbrev pub outcome_of : {X E : Type 0} → (done : X → Result ℕ PageFault) → (fault : E → PageFault) → Result X E → Result ℕ PageFault
outcome_of done fault (Ok x) = done x
outcome_of done fault (Err e) = Err (fault e)
