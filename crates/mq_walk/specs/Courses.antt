-- Work over the packets of a capture, and its report. A replay and a check are such work.
use Rattle.std.specs.Prelude.{ℕ, ◌+◌, max, Bool, true, false, List, [], ◌∷◌, length, Option, None, Some, Result, Ok, Err, unwrap_or}
use Rattle.mq_pcap.specs.declared.fault.PcapFault.{PcapFault}
use Rattle.mq_pcap.specs.declared.form.Form.{Form}
use Rattle.mq_pcap.specs.declared.link_type.LinkType.{LinkType}
use Rattle.mq_pcap.specs.Capture.{Captured}
use Rattle.mq_walk.specs.declared.capture_fault.CaptureFault.{CaptureFault}
use Rattle.mq_walk.specs.declared.capture_fault.CaptureFault.TheVariants.{Pcap, Gap, Waiting}
use Rattle.mq_walk.specs.PlacedPackets.{Place, PlacedPacket, at_first, is_gap, place_behind, placed}
use Rattle.mq_walk.specs.Walking.{ReadCapture}

-- A report: its text, and its result.
pub record Report (T : Type 0) : Type 0 where
  pub text : List ℕ
  pub answer : Result T CaptureFault

-- Work over packets: its state at the start and after a packet, whether too many entries are pending in a state, and the
-- text of a state. Its end is at least at the requested moment, and has a report. `number` is that of the packet that
-- would follow the last.
pub record Work (X T : Type 0) : Type 0 where
  pub start : X
  pub step : PlacedPacket → X → X
  pub is_full : X → Bool
  pub text : X → List ℕ
  pub until : Option ℕ
  pub ended : (moment number : ℕ) → X → Report T

-- The course of packets: the state, the moment of the last packet, and the fault that ended the work, if any.
pub record Course (X : Type 0) : Type 0 where
  pub state : X
  pub moment : ℕ
  pub fault : Option CaptureFault

-- The course of packets in order, up to the first gap or the first packet with too many pending entries.
unfoldable pub with_packets : {X T : Type 0} → Work X T → LinkType → Place → List Captured → X → Course X
with_packets work link at [] x = record { state = x; moment = at.before; fault = None }
with_packets work link at (packet ∷ packets) x =
    let next = placed link at packet in
    let after = work.step next x in
    elim (is_gap at.before next.moment) [
      | true ↦ record { state = x; moment = at.before; fault = Some (Gap at.number) }
      | false ↦
          elim (work.is_full after) [
            | true ↦ record { state = after; moment = next.moment; fault = Some (Waiting at.number) }
            | false ↦ with_packets work link (place_behind at packet.stamp) packets after
          ]
    ]

-- the course of a capture's packets; a fault in its header ends the work before the first
abbrev pub course_of : {X T : Type 0} → Work X T → Result Form PcapFault → List Captured → Course X
course_of work (Err fault) packets = record { state = work.start; moment = 0; fault = Some (Pcap fault) }
course_of work (Ok form) packets = with_packets work form.link at_first packets work.start

-- the report that a fault or a gap ends: nothing more is written
abbrev pub broken_off : {X T : Type 0} → Work X T → CaptureFault → X → Report T
broken_off work fault x = record { text = work.text x; answer = Err fault }

-- the moment of the end: that of the last packet, or the requested one if it is later
abbrev pub last_moment : (until : Option ℕ) → (moment : ℕ) → ℕ
last_moment until moment = max moment (unwrap_or until 0)

-- The report after the packets: that of the end of the capture or of its fault, unless the work has ended before.
-- `number` is that of the next packet.
abbrev pub reported : {X T : Type 0} → Work X T → (number : ℕ) → (end : Option PcapFault) → (fault : Option CaptureFault) → Course X → Report T
reported work number end (Some fault) course = broken_off work fault course.state
reported work number (Some fault) None course = broken_off work (Pcap fault) course.state
reported work number None None course =
    elim (is_gap course.moment (last_moment work.until course.moment)) [
      | true ↦ broken_off work (Gap number) course.state
      | false ↦ work.ended (last_moment work.until course.moment) number course.state
    ]

-- the report of a capture, by its header, its packets, and its end
abbrev pub report_of : {X T : Type 0} → Work X T → Result Form PcapFault → List Captured → (end : Option PcapFault) → Report T
report_of work header packets end =
    let course = course_of work header packets in
    reported work (length packets + 1) end course.fault course

-- the report of the read part of a capture, and the text of its packets alone, whatever follows them
abbrev pub report_in : {X T : Type 0} → Work X T → ReadCapture → Report T
report_in work c = report_of work c.header c.packets c.end

abbrev pub packets_text : {X T : Type 0} → Work X T → ReadCapture → List ℕ
packets_text work c = work.text (course_of work c.header c.packets).state
