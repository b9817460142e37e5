-- Packets with their places in a capture.
use Rattle.std.specs.Prelude.{ℕ, ◌+◌, ◌-◌, max, nat_lt, Bool, List, Option, None, Some, unwrap_or}
use Rattle.mq_pcap.specs.declared.link_type.LinkType.{LinkType}
use Rattle.mq_pcap.specs.Capture.{Captured}

-- The moment of a packet: its stamp less that of the capture's first packet. If the moment of the packet before is
-- greater, it is that moment. The moment of the first packet is 0.
abbrev pub moment_of : (first : Option ℕ) (before stamp : ℕ) → ℕ
moment_of first before stamp = max (stamp - unwrap_or first stamp) before

-- A stamp goes back if it is less than that of the first packet and the moment of the packet before together. The moment
-- of its packet is then that of the packet before.
abbrev pub goes_back : (first : Option ℕ) (before stamp : ℕ) → Bool
goes_back first before stamp = nat_lt stamp (unwrap_or first stamp + before)

-- A packet: its number, the moment of the packet before it, its moment, whether its stamp goes back, the link type of the
-- capture, and its bytes.
pub record PlacedPacket : Type 0 where
  pub number : ℕ
  pub before : ℕ
  pub moment : ℕ
  pub goes_back : Bool
  pub link : LinkType
  pub frame : List ℕ

-- a moment is more than a day after the moment before it
abbrev pub is_gap : (before moment : ℕ) → Bool
is_gap before moment = nat_lt (before + 86400000) moment

-- The place of the next packet: the stamp of the first packet, the moment of the last one, and the number of the next.
pub record Place : Type 0 where
  pub first : Option ℕ
  pub before : ℕ
  pub number : ℕ

-- the place before the first packet
abbrev pub at_first : Place
at_first = record { first = None; before = 0; number = 1 }

-- the next packet
abbrev pub placed : LinkType → Place → Captured → PlacedPacket
placed link at packet = record {
  number = at.number;
  before = at.before;
  moment = moment_of at.first at.before packet.stamp;
  goes_back = goes_back at.first at.before packet.stamp;
  link = link;
  frame = packet.bytes;
}

-- the place after a packet
abbrev pub place_behind : Place → (stamp : ℕ) → Place
place_behind at stamp = record {
  first = Some (unwrap_or at.first stamp);
  before = moment_of at.first at.before stamp;
  number = at.number + 1;
}
