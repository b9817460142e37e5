-- The search for a message of the checked router. Addresses are numbers.
use Rattle.std.specs.Prelude.{◌≡◌, ◌⊎◌, ℕ, ◌==◌, ◌&&◌, ◌||◌, not, Bool, true, false, if◌then◌else◌, List, [], ◌∷◌, Option, None, Some, Result, Ok, Err}
use Rattle.std.specs.Io.KnownBytes.{IsAtEnd}
use Rattle.std.specs.List.{list_any}
use Rattle.mq_pcap.specs.declared.fault.PcapFault.{PcapFault}
use Rattle.mq_pcap.specs.declared.form.Form.{Form}
use Rattle.mq_pcap.specs.declared.link_type.LinkType.{LinkType}
use Rattle.mq_pcap.specs.Capture.{Captured, Captures, is_read}
use Rattle.mq_pcap.specs.Filling.{InputState, Takes}
use Rattle.mq_pcap.specs.Frame.{carried_in}
use Rattle.mq_wire.specs.Family.{Family}
use Rattle.mq_walk.specs.declared.capture_fault.CaptureFault.{CaptureFault}
use Rattle.mq_walk.specs.declared.capture_fault.CaptureFault.TheVariants as answer
use Rattle.mq_walk.specs.PlacedPackets.{PlacedPacket}
use Rattle.mq_walk.specs.Datagrams.{Datagram, datagram_of}
use Rattle.mq_check.specs.declared.unseen.Stop.{Stop}
use Rattle.mq_check.specs.declared.unseen.Stop.TheVariants.{Fault, Heard}
use Rattle.mq_check.specs.Announced.{IsRead, IsReadBy}
use Rattle.mq_check.specs.Basis.{is_of_higher}

-- the datagram of the family in a frame comes from this address
abbrev pub is_from : (own : ℕ) → Option Datagram → Bool
is_from own None = false
is_from own (Some datagram) = datagram.envelope.source == own

-- it is a query on which hosts act, from a router with a higher address
abbrev pub is_from_higher : Family → (own : ℕ) → Option Datagram → Bool
is_from_higher family own None = false
is_from_higher family own (Some datagram) = is_of_higher family own datagram

-- one of these packets comes from this address, or from a router with a higher one
abbrev pub is_heard_in : Family → (own : ℕ) → LinkType → List Captured → Bool
is_heard_in family own link packets = list_any (λ packet. is_from own (datagram_of family (carried_in link packet.bytes))) packets

abbrev pub has_higher_in : Family → (own : ℕ) → LinkType → List Captured → Bool
has_higher_in family own link packets = list_any (λ packet. is_from_higher family own (datagram_of family (carried_in link packet.bytes))) packets

-- these tests for a capture, by its header
abbrev pub is_heard : Family → (own : ℕ) → Result Form PcapFault → List Captured → Bool
is_heard family own (Err f) packets = false
is_heard family own (Ok form) packets = is_heard_in family own form.link packets

abbrev pub has_higher : Family → (own : ℕ) → Result Form PcapFault → List Captured → Bool
has_higher family own (Err f) packets = false
has_higher family own (Ok form) packets = has_higher_in family own form.link packets

-- A search in progress: the address, and whether a query came from a router with a higher one.
pub record SeekingValue : Type 0 where
  pub own : ℕ
  pub has_higher : Bool

-- The effect of a packet on a search: a datagram of the family from the address ends it.
abbrev pub TakesDatagram : Family → Option Datagram → (old new : SeekingValue) → Result (Unit {0}) Stop → Type 0
TakesDatagram family datagram old new (Ok u) =
    (is_from old.own datagram ≡ false)
    × (new ≡ record old { has_higher = old.has_higher || is_from_higher family old.own datagram })
TakesDatagram family datagram old new (Err Heard) = is_from old.own datagram ≡ true
TakesDatagram family datagram old new (Err (Fault f)) = ⊥

abbrev pub TakesSought : Family → PlacedPacket → (old new : SeekingValue) → Result (Unit {0}) Stop → Type 0
TakesSought family packet old new r = TakesDatagram family (datagram_of family (carried_in packet.link packet.frame)) old new r

-- The search ended: at a datagram from the address, at the end of the capture, or at a fault.
abbrev pub IsOver : Family → (own : ℕ) → Result Form PcapFault → List Captured → (end : Option PcapFault) → (bytes : List ℕ) → (old new : InputState)
    → (higher : Bool) → Result (Unit {0}) Stop → Type 0
IsOver family own header packets end bytes old new higher (Err Heard) =
    (is_heard family own header packets ≡ true) × (new.failed ≡ old.failed)
IsOver family own header packets end bytes old new higher (Ok done) =
    (is_heard family own header packets ≡ false) × (higher ≡ has_higher family own header packets)
    × IsRead header end bytes old new (Ok done)
IsOver family own header packets end bytes old new higher (Err (Fault f)) =
    (is_heard family own header packets ≡ false) × (higher ≡ has_higher family own header packets)
    × IsRead header end bytes old new (Err f)

-- A capture was searched. Some bytes were read from the input. As a whole file they are a capture.
pub record SeeksIn (family : Family) (own : ℕ) (old new : InputState) (higher : Bool) (r : Result (Unit {0}) Stop) : Type 0 where
  pub bytes : List ℕ
  pub header : Result Form PcapFault
  pub packets : List Captured
  pub end : Option PcapFault
  pub takes : Takes old new bytes
  pub capture : Captures bytes header packets end
  pub over : IsOver family own header packets end bytes old new higher r

-- The result of a search. A fault before a query from a router with a higher address is left to the check.
abbrev pub concluded : {X : Type 0} → (higher : Bool) → Result X Stop → Result Bool CaptureFault
concluded higher (Ok done) = Ok higher
concluded higher (Err Heard) = Ok false
concluded higher (Err (Fault f)) = if is_read f || higher then Err (answer.Pcap f) else Ok false

-- Memory was refused. Or a capture was searched, with this result.
abbrev pub Seeks : Family → (own : ℕ) → (old new : InputState) → Result Bool CaptureFault → Type 0
Seeks family own old new (Err answer.Memory) = Unit {0}
Seeks family own old new (Err answer.Write) = ⊥
Seeks family own old new (Err (answer.Gap number)) = ⊥
Seeks family own old new (Err (answer.Waiting number)) = ⊥
Seeks family own old new r =
    (higher : Bool) × (end : Result (Unit {0}) Stop) × SeeksIn family own old new higher end × (r ≡ concluded higher end)
