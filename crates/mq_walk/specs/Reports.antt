-- The contract of work over a capture: what was read, written and returned.
use Rattle.std.specs.Prelude.{◌≡◌, ◌⊎◌, ℕ, ◌≤◌, Bool, true, false, if◌then◌else◌, List, [], length, Option, None, Result, Ok, Err}
use Rattle.std.specs.Io.KnownBytes.{Appends, IsAtEnd}
use Rattle.mq_pcap.specs.declared.fault.PcapFault.{PcapFault}
use Rattle.mq_pcap.specs.Capture.{Captures, is_read}
use Rattle.mq_pcap.specs.Filling.{InputState, Takes}
use Rattle.mq_text.specs.Printing.{GrowsByBeginning}
use Rattle.mq_walk.specs.declared.capture_fault.CaptureFault.{CaptureFault}
use Rattle.mq_walk.specs.declared.capture_fault.CaptureFault.TheVariants as answer
use Rattle.mq_walk.specs.Courses.{Work, packets_text, report_in}
use Rattle.mq_walk.specs.Faults.{is_failed_write}
use Rattle.mq_walk.specs.Walking.{IsOfTheFile, ReadCapture}

-- the work ends early at a packet that was read, or at the end of the file
abbrev pub IsBrokenOffAt : (number : ℕ) → ReadCapture → InputState → Type 0
IsBrokenOffAt number c new = (number ≤ length c.packets) ⊎ IsAtEnd new.ahead

-- The bytes that were read determine the result of the whole file: they end it, or the bytes after them don't matter. A
-- failed read isn't part of the file.
abbrev pub IsEndedByFault : {X T : Type 0} → (is_read : Bool) → Work X T → ReadCapture → (old new : InputState) → PcapFault → Type 0
IsEndedByFault true work c old new f = new.failed ≡ true
IsEndedByFault false work c old new f =
    ((report_in work c).answer ≡ Err (answer.Pcap f)) × IsOfTheFile c.header f c.bytes new × (new.failed ≡ old.failed)

abbrev pub IsEndedBy : {X T : Type 0} → Work X T → ReadCapture → (old new : InputState) → Result T CaptureFault → Type 0
IsEndedBy work c old new (Ok x) = ((report_in work c).answer ≡ Ok x) × IsAtEnd new.ahead × (new.failed ≡ old.failed)
IsEndedBy work c old new (Err (answer.Pcap f)) = IsEndedByFault (is_read f) work c old new f
IsEndedBy work c old new (Err (answer.Gap number)) =
    ((report_in work c).answer ≡ Err (answer.Gap number)) × IsBrokenOffAt number c new × (new.failed ≡ old.failed)
IsEndedBy work c old new (Err (answer.Waiting number)) =
    ((report_in work c).answer ≡ Err (answer.Waiting number)) × IsBrokenOffAt number c new × (new.failed ≡ old.failed)
IsEndedBy work c old new (Err answer.Write) = Unit {0}
IsEndedBy work c old new (Err answer.Memory) = c.bytes ≡ []

-- the text that is written if no write fails: that of the report, or that of the read packets if a read failed
abbrev pub text_by : {X T : Type 0} → Work X T → ReadCapture → Result T CaptureFault → List ℕ
text_by work c (Ok x) = (report_in work c).text
text_by work c (Err (answer.Pcap f)) = if is_read f then packets_text work c else (report_in work c).text
text_by work c (Err (answer.Gap number)) = (report_in work c).text
text_by work c (Err (answer.Waiting number)) = (report_in work c).text
text_by work c (Err answer.Write) = []
text_by work c (Err answer.Memory) = []

-- That text was written. If a write failed, a prefix of the text of the packets was written, or a prefix of the report
-- if the file had ended.
abbrev pub IsWrittenBy : {X T : Type 0} → (is_failed : Bool) → Work X T → ReadCapture → InputState → (before after : Option (List ℕ)) → Result T CaptureFault → Type 0
IsWrittenBy true work c new before after r =
    GrowsByBeginning before after (packets_text work c)
    ⊎ ((c.end ≡ None) × IsAtEnd new.ahead × GrowsByBeginning before after (report_in work c).text)
IsWrittenBy false work c new before after r = Appends before after (text_by work c r)

abbrev pub IsWritten : {X T : Type 0} → Work X T → ReadCapture → InputState → (before after : Option (List ℕ)) → Result T CaptureFault → Type 0
IsWritten work c new before after r = IsWrittenBy (is_failed_write r) work c new before after r

-- Some bytes were read from the input. As a whole file they are a capture, and the text and the result of its report
-- were written and returned.
pub record Reports {X T : Type 0} (work : Work X T) (old new : InputState) (before after : Option (List ℕ)) (r : Result T CaptureFault) : Type 0 where
  pub read : ReadCapture
  pub takes : Takes old new read.bytes
  pub capture : Captures read.bytes read.header read.packets read.end
  pub ended : IsEndedBy work read old new r
  pub written : IsWritten work read new before after r
