-- The results of the parts of work over a capture that go to a writer through a buffer.
use Rattle.std.specs.Prelude.{◌≡◌, ◌⊎◌, ℕ, Bool, true, false, List, [], ◌++◌, Option, None, Result, Ok, Err}
use Rattle.std.specs.Io.KnownBytes.{IsAtEnd}
use Rattle.mq_pcap.specs.Capture.{Captures}
use Rattle.mq_pcap.specs.Filling.{InputState, Takes}
use Rattle.mq_text.specs.Printing.{GrowsByBeginning, Passes}
use Rattle.mq_walk.specs.declared.capture_fault.CaptureFault.{CaptureFault}
use Rattle.mq_walk.specs.declared.capture_fault.CaptureFault.TheVariants as answer
use Rattle.mq_walk.specs.Courses.{Report, Work, last_moment, packets_text, report_in}
use Rattle.mq_walk.specs.Faults.{is_failed_write}
use Rattle.mq_walk.specs.PlacedPackets.{is_gap}
use Rattle.mq_walk.specs.Reports.{IsEndedBy, text_by}
use Rattle.mq_walk.specs.Walking.{ReadCapture}

-- The text of the result was put. If a write failed, a prefix of the text of the packets was written, or a prefix of the
-- report if the file had ended.
abbrev pub IsPutBy : {X T : Type 0} → (is_failed : Bool) → Work X T → ReadCapture → InputState → (before after : Option (List ℕ)) → (held left : List ℕ) → Result T CaptureFault → Type 0
IsPutBy true work c new before after held left r =
    GrowsByBeginning before after (held ++ packets_text work c)
    ⊎ ((c.end ≡ None) × IsAtEnd new.ahead × GrowsByBeginning before after (held ++ (report_in work c).text))
IsPutBy false work c new before after held left r = Passes before after held left (text_by work c r)

-- the report of a capture was put
pub record PutsReport {X T : Type 0} (work : Work X T) (old new : InputState) (before after : Option (List ℕ)) (held left : List ℕ)
    (r : Result T CaptureFault) : Type 0 where
  pub read : ReadCapture
  pub takes : Takes old new read.bytes
  pub capture : Captures read.bytes read.header read.packets read.end
  pub ended : IsEndedBy work read old new r
  pub put : IsPutBy (is_failed_write r) work read new before after held left r

-- The moment of the end, unless a gap is before it. `last` is the moment of the last packet, and `number` is that of the
-- next packet.
abbrev pub end_of : (until : Option ℕ) → (last number : ℕ) → Result ℕ CaptureFault
end_of until last number =
    elim (is_gap last (last_moment until last)) [
      | true ↦ Err (answer.Gap number)
      | false ↦ Ok (last_moment until last)
    ]

-- the report after the packets of a file that has ended: that of the end at this moment, or of a gap before it
abbrev pub rest_at : {T : Type 0} → (ended : ℕ → Report T) → Result ℕ CaptureFault → Report T
rest_at ended (Ok moment) = ended moment
rest_at ended (Err fault) = record { text = []; answer = Err fault }

-- the report was put, or a prefix of it was written
abbrev pub IsRestPut : {T : Type 0} → Report T → (before after : Option (List ℕ)) → (held left : List ℕ) → Result T CaptureFault → Type 0
IsRestPut report before after held left (Ok x) = (report.answer ≡ Ok x) × Passes before after held left report.text
IsRestPut report before after held left (Err (answer.Gap number)) =
    (report.answer ≡ Err (answer.Gap number)) × Passes before after held left report.text
IsRestPut report before after held left (Err (answer.Waiting number)) =
    (report.answer ≡ Err (answer.Waiting number)) × Passes before after held left report.text
IsRestPut report before after held left (Err answer.Write) = GrowsByBeginning before after (held ++ report.text)
IsRestPut report before after held left (Err (answer.Pcap f)) = ⊥
IsRestPut report before after held left (Err answer.Memory) = ⊥

-- the result of work with this value afterwards
abbrev pub counted : {S T : Type 0} → T → Result S CaptureFault → Result T CaptureFault
counted value (Ok x) = Ok value
counted value (Err f) = Err f
