-- Results of a reader, by the bytes that it reads from a stream.
use Rattle.std.specs.Prelude.{◌≡◌, ◌⊎◌, ℕ, ◌+◌, ◌<◌, ◌≤◌, ◌||◌, Bool, false, List, [], length, take, Option, None, Some, Result, Ok, Err}
use Rattle.std.specs.Io.KnownBytes.{IsAtEnd}
use Rattle.mq_pcap.specs.declared.form.Form.{Form}
use Rattle.mq_pcap.specs.declared.fault.PcapFault.{PcapFault}
use Rattle.mq_pcap.specs.declared.fault.PcapFault.TheVariants as fault
use Rattle.mq_pcap.specs.declared.reader_state.Packet.{Packet}
use Rattle.mq_pcap.specs.declared.reader_state.Progress.{Progress}
use Rattle.mq_pcap.specs.declared.reader_state.Progress.TheVariants.{Reading, Ended, Stopped}
use Rattle.mq_pcap.specs.declared.reader_state.PcapReader.{PcapReader}
use Rattle.mq_pcap.specs.Capture.{is_read, IsRecord, header_of, captured_length, most_bytes, endless, record_fault}
use Rattle.mq_pcap.specs.Filling.{InputState, Takes}

-- the result is that fault
abbrev pub is_read_fault : {X : Type 0} → Result X PcapFault → Bool
is_read_fault (Ok x) = false
is_read_fault (Err f) = is_read f

-- a fault is known: some faults hold whatever follows, others only at the end of the stream
abbrev pub IsKnownThere : PcapFault → InputState → Type 0
IsKnownThere fault.Endless new = Unit {0}
IsKnownThere (fault.TooLong number) new = Unit {0}
IsKnownThere f new = IsAtEnd new.ahead

-- these bytes are less than a whole header, or than a whole record of an accepted length
abbrev pub IsBegun : Form → List ℕ → Type 0
IsBegun form bytes =
    (length bytes < 16)
    ⊎ ((captured_length form bytes ≤ most_bytes) × (length bytes < 16 + captured_length form bytes))

-- the result by the bytes read at record `number`
abbrev pub IsAnswerTo : Form → ℕ → InputState → (buffer bytes : List ℕ) → Result (Option Packet) PcapFault → Type 0
IsAnswerTo form number new buffer bytes (Ok (Some packet)) =
    (number < endless)
    × IsRecord form bytes (record { stamp = packet.stamp_ms; bytes = take packet.length buffer })
IsAnswerTo form number new buffer bytes (Ok None) = (bytes ≡ []) × IsAtEnd new.ahead
IsAnswerTo form number new buffer bytes (Err fault.Read) = IsBegun form bytes
IsAnswerTo form number new buffer bytes (Err f) =
    (record_fault form number bytes ≡ Some f) × IsKnownThere f new

-- a record was read, or the end or a fault was met
pub record Reads (form : Form) (number : ℕ) (old new : InputState) (buffer : List ℕ)
    (answer : Result (Option Packet) PcapFault) : Type 0 where
  pub bytes : List ℕ
  pub takes : Takes old new bytes
  pub answers : IsAnswerTo form number new buffer bytes answer
  pub failed : new.failed ≡ (old.failed || is_read_fault answer)

-- the result by the bytes read at the file's header
abbrev pub IsOpenedBy : InputState → (bytes : List ℕ) → Result PcapReader PcapFault → Type 0
IsOpenedBy new bytes (Ok reader) =
    (length bytes ≡ 24) × (header_of bytes ≡ Ok reader.form) × (reader.number ≡ 1) × (reader.progress ≡ Reading)
IsOpenedBy new bytes (Err f) =
    ((f ≡ fault.Read) × (length bytes < 24))
    ⊎ ((header_of bytes ≡ Err f) × ((length bytes ≡ 24) ⊎ IsAtEnd new.ahead))

-- a capture was opened, or a fault was met
pub record Opens (old new : InputState) (answer : Result PcapReader PcapFault) : Type 0 where
  pub bytes : List ℕ
  pub takes : Takes old new bytes
  pub answers : IsOpenedBy new bytes answer
  pub failed : new.failed ≡ (old.failed || is_read_fault answer)

-- the form of the captures' records, the number of the next, and the progress of the reader
abbrev pub form_of : PcapReader → Form
form_of reader = reader.form

abbrev pub number_of : PcapReader → ℕ
number_of reader = reader.number

abbrev pub progress_of : PcapReader → Progress
progress_of reader = reader.progress

-- the progress after a result
abbrev pub progress_after : Result (Option Packet) PcapFault → Progress
progress_after (Ok (Some packet)) = Reading
progress_after (Ok None) = Ended
progress_after (Err f) = Stopped f

-- the number of records that a result has read
abbrev pub records_in : Result (Option Packet) PcapFault → ℕ
records_in (Ok (Some packet)) = 1
records_in (Ok None) = 0
records_in (Err f) = 0

-- after the end None is returned again, and after a fault the same fault
abbrev pub IsAgain : Progress → Result (Option Packet) PcapFault → Type 0
IsAgain Reading answer = Unit {0}
IsAgain Ended answer = answer ≡ Ok None
IsAgain (Stopped f) answer = answer ≡ Err f
