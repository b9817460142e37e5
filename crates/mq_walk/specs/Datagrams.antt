-- The datagram of a packet for a link.
use Rattle.std.specs.Prelude.{◌≡◌, ℕ, false, List, Option, Some, None}
use Rattle.mq_pcap.specs.Frame.{Carried, Igmp, Mld}
use Rattle.mq_wire.specs.Family.{Family}
use Rattle.mq_wire.specs.Family as family
use Rattle.mq_link.specs.Receive.{Envelope}
use Rattle.mq_walk.specs.declared.captured_family.CapturedDatagram.{CapturedDatagram}

-- A datagram for the link: its envelope, and its bytes.
pub record Datagram : Type 0 where
  pub envelope : Envelope
  pub body : List ℕ

-- the datagram of a packet that carries a message of the family; for IGMP only the source is looked at
abbrev pub datagram_of : Family → Carried → Option Datagram
datagram_of family.Igmp (Igmp source destination ttl alert body) =
    Some (record { envelope = record { source = source; destination = 0; hop_limit = 0; alert = false }; body = body })
datagram_of family.Igmp carried = None
datagram_of family.Mld (Mld source destination hop_limit alert body) = Some (record {
  envelope = record { source = source; destination = destination; hop_limit = hop_limit; alert = alert };
  body = body;
})
datagram_of family.Mld carried = None

-- this is the datagram of the packet as the code has it, or the packet has none for the link
abbrev pub IsDatagramOf : {E : Type 0} → Family → (E → Envelope) → Carried → Option (CapturedDatagram E) → Type 0
IsDatagramOf family envelope_of carried (Some d) =
    datagram_of family carried ≡ Some (record { envelope = envelope_of d.envelope; body = d.body.now })
IsDatagramOf family envelope_of carried None = datagram_of family carried ≡ None
