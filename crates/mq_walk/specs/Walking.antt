-- Walks over captures: a step receives each packet, in order, with its number and its moment.
use Rattle.std.specs.Prelude.{◌≡◌, ◌⊎◌, ℕ, ◌+◌, Bool, true, false, List, [], ◌∷◌, ◌++◌, length, Option, None, Some, Result, Ok, Err}
use Rattle.std.specs.Io.KnownBytes.{IsAtEnd}
use Rattle.mq_pcap.specs.declared.fault.PcapFault.{PcapFault}
use Rattle.mq_pcap.specs.declared.form.Form.{Form}
use Rattle.mq_pcap.specs.declared.link_type.LinkType.{LinkType}
use Rattle.mq_pcap.specs.Capture.{Captured, Captures, AreRecords, is_read}
use Rattle.mq_pcap.specs.Filling.{InputState, Takes}
use Rattle.mq_pcap.specs.Reading.{IsKnownThere}
use Rattle.mq_walk.specs.declared.walked.Walked.{Walked}
use Rattle.mq_walk.specs.declared.capture_fault.CaptureFault.{CaptureFault}
use Rattle.mq_walk.specs.declared.capture_fault.CaptureFault.TheVariants.{Gap}
use Rattle.mq_walk.specs.PlacedPackets.{Place, PlacedPacket, at_first, is_gap, place_behind, placed}

-- The read part of a capture: its bytes, taken as a whole file.
pub record ReadCapture : Type 0 where
  pub bytes : List ℕ
  pub header : Result Form PcapFault
  pub packets : List Captured
  pub end : Option PcapFault

-- A fault of the bytes that were read is a fault of the whole file. They end the file, or the fault doesn't depend on
-- what follows.
abbrev pub IsOfTheFile : Result Form PcapFault → PcapFault → (bytes : List ℕ) → InputState → Type 0
IsOfTheFile (Ok form) f bytes new = IsKnownThere f new
IsOfTheFile (Err f') f bytes new = (length bytes ≡ 24) ⊎ IsAtEnd new.ahead

-- A step received these packets, in order. `takes` states the effect of one packet on the states of the step and of its
-- output.
abbrev pub StepsOver : {X E : Type 0} → (takes : PlacedPacket → X → X → Result Unit E → Type 0) → LinkType → Place → List Captured → X → Place → X → Type 0
StepsOver takes link at [] old to new = (to ≡ at) × (new ≡ old)
StepsOver {X} takes link at (packet ∷ packets) old to new =
    (mid : X) × takes (placed link at packet) old mid (Ok tt)
    × StepsOver takes link (place_behind at packet.stamp) packets mid to new

-- The step received all packets of a capture. A capture with a fault in its header has none.
abbrev pub StepsOverAll : {X E : Type 0} → (takes : PlacedPacket → X → X → Result Unit E → Type 0) → Result Form PcapFault → List Captured → X → X → Type 0
StepsOverAll takes (Ok form) packets old new = (to : Place) × StepsOver takes form.link at_first packets old to new
StepsOverAll takes (Err f) packets old new = new ≡ old

-- the input ended
pub record IsWalked {X E : Type 0} (takes : PlacedPacket → X → X → Result Unit E → Type 0) (c : ReadCapture) (old new : InputState) (x x' : X) (w : Walked) : Type 0 where
  pub form : Form
  pub header : c.header ≡ Ok form
  pub end : c.end ≡ None
  pub at_end : IsAtEnd new.ahead
  pub failed : new.failed ≡ old.failed
  pub first : Option ℕ
  pub steps : StepsOver takes form.link at_first c.packets x (record { first = first; before = w.last; number = w.packets + 1 }) x'

-- a read failed, or the capture has a fault
abbrev pub IsEndedByFault : (is_read : Bool) → ReadCapture → PcapFault → (old new : InputState) → Type 0
IsEndedByFault true c f old new = new.failed ≡ true
IsEndedByFault false c f old new = (c.end ≡ Some f) × IsOfTheFile c.header f c.bytes new × (new.failed ≡ old.failed)

pub record IsBrokenOff {X E : Type 0} (takes : PlacedPacket → X → X → Result Unit E → Type 0) (gives : PcapFault → E → Type 0) (c : ReadCapture) (old new : InputState) (x x' : X) (e : E) : Type 0 where
  pub fault : PcapFault
  pub given : gives fault e
  pub ended : IsEndedByFault (is_read fault) c fault old new
  pub steps : StepsOverAll takes c.header c.packets x x'

-- the step failed at the last packet that was read
pub record IsStopped {X E : Type 0} (takes : PlacedPacket → X → X → Result Unit E → Type 0) (c : ReadCapture) (old new : InputState) (x x' : X) (e : E) : Type 0 where
  pub form : Form
  pub header : c.header ≡ Ok form
  pub some : List Captured
  pub last : Captured
  pub packets : c.packets ≡ some ++ last ∷ []
  pub end : c.end ≡ None
  pub to : Place
  pub between : X
  pub steps : StepsOver takes form.link at_first some x to between
  pub stops : takes (placed form.link to last) between x' (Err e)
  pub failed : new.failed ≡ old.failed

abbrev pub EndsWalk : {X E : Type 0} → (takes : PlacedPacket → X → X → Result Unit E → Type 0) → (gives : PcapFault → E → Type 0) → ReadCapture → (old new : InputState) → (x x' : X) → Result Walked E → Type 0
EndsWalk takes gives c old new x x' (Ok w) = IsWalked takes c old new x x' w
EndsWalk takes gives c old new x x' (Err e) = IsBrokenOff takes gives c old new x x' e ⊎ IsStopped takes c old new x x' e

-- A capture was walked over. Some bytes were read from the input. As a whole file they are a capture.
pub record Walks {X E : Type 0} (takes : PlacedPacket → X → X → Result Unit E → Type 0) (gives : PcapFault → E → Type 0) (old new : InputState) (x x' : X) (r : Result Walked E) : Type 0 where
  pub read : ReadCapture
  pub takes_in : Takes old new read.bytes
  pub capture : Captures read.bytes read.header read.packets read.end
  pub ended : EndsWalk takes gives read old new x x' r

-- the packets after a file's header were walked over
pub record WalksBehind {X E : Type 0} (takes : PlacedPacket → X → X → Result Unit E → Type 0) (gives : PcapFault → E → Type 0) (form : Form) (old new : InputState) (x x' : X) (r : Result Walked E) : Type 0 where
  pub bytes : List ℕ
  pub packets : List Captured
  pub end : Option PcapFault
  pub takes_in : Takes old new bytes
  pub records : AreRecords form 1 bytes packets end
  pub ended : EndsWalk takes gives (record { bytes = bytes; header = Ok form; packets = packets; end = end }) old new x x' r

-- The effect of a packet on work that a gap ends. `takes` states that of a packet without a gap before it.
abbrev pub TakesUpToGap : {X : Type 0} → (takes : PlacedPacket → X → X → Result Unit CaptureFault → Type 0) → PlacedPacket → X → X → Result Unit CaptureFault → Type 0
TakesUpToGap takes packet old new r =
    ((is_gap packet.before packet.moment ≡ true) × (r ≡ Err (Gap packet.number)) × (new ≡ old))
    ⊎ ((is_gap packet.before packet.moment ≡ false) × takes packet old new r)
