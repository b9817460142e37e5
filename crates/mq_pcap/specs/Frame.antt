-- The message of a frame, by a list of tests at each layer. The first test that holds decides.
use Rattle.std.specs.Prelude.{ℕ, ◌+◌, ◌*◌, ◌/◌, ◌%◌, nat_lt, Bool, false, not, ◌&&◌, ◌||◌, ◌==◌, List, [], ◌∷◌, length, drop, slice_index, slice_range}
use Rattle.std.specs.Int.{w32, w128, from_be_bytes}
use Rattle.byteorder.specs.Endian.{big_number}
use Rattle.mq_pcap.specs.declared.link_type.LinkType.{LinkType}
use Rattle.mq_pcap.specs.declared.link_type.LinkType.TheVariants.{Ethernet, RawIp}
use Rattle.mq_pcap.specs.declared.frame.Inner.{Inner}
use Rattle.mq_pcap.specs.declared.frame.Inner.TheVariants as inner
use Rattle.mq_pcap.specs.Tests.{first_that_holds}
use Rattle.mq_pcap.specs.IpOptions.{has_router_alert_v4}
use Rattle.mq_pcap.specs.Options.{has_router_alert}

-- a message of IGMP or MLD with fields of its packet, or the reason why there is none
pub data Carried : Type 0 where
  Igmp : (source destination ttl : ℕ) (alert : Bool) (body : List ℕ) → Carried
  Mld : (source destination hop_limit : ℕ) (alert : Bool) (body : List ℕ) → Carried
  Other : Carried
  Cut : Carried
  Fragment : Carried

-- a result of the code as such data
abbrev pub carried_of : Inner → Carried
carried_of (inner.Igmp source destination ttl alert body) = Igmp source destination ttl alert body.now
carried_of (inner.Mld source destination hop_limit alert body) = Mld source destination hop_limit alert body.now
carried_of inner.Other = Other
carried_of inner.Cut = Cut
carried_of inner.Fragment = Fragment

-- the 16 bits at a place
abbrev pub word_at : ℕ → List ℕ → ℕ
word_at place bytes = big_number 2 (drop place bytes)

-- the version of an IP packet, the first half byte
abbrev pub version_of : List ℕ → ℕ
version_of packet = slice_index packet 0 / 16

-- the bytes of an IPv4 header, and of its packet
abbrev pub header_length : List ℕ → ℕ
header_length packet = slice_index packet 0 % 16 * 4

abbrev pub total_length : List ℕ → ℕ
total_length packet = word_at 2 packet

-- the flag More Fragments is set, or the offset after it is not 0
abbrev pub is_fragment : List ℕ → Bool
is_fragment packet = word_at 6 packet / 0x2000 % 2 == 1 || not (word_at 6 packet % 0x2000 == 0)

-- the content of an IPv4 packet: a whole IGMP message (protocol 2), without padding
unfoldable pub in_ipv4 : List ℕ → Carried
in_ipv4 packet = first_that_holds
    ((nat_lt (length packet) 20, Cut)
    ∷ (not (version_of packet == 4), Other)
    ∷ (not (slice_index packet 9 == 2), Other)
    ∷ (nat_lt (header_length packet) 20 || nat_lt (total_length packet) (header_length packet), Other)
    ∷ (is_fragment packet, Fragment)
    ∷ (nat_lt (length packet) (total_length packet), Cut)
    ∷ [])
    (Igmp
    (from_be_bytes w32 (slice_range packet 12 16))
    (from_be_bytes w32 (slice_range packet 16 20))
    (slice_index packet 8)
    (has_router_alert_v4 (slice_range packet 20 (header_length packet)))
    (slice_range packet (header_length packet) (total_length packet)))

-- an MLD message of an IPv6 packet
abbrev pub mld_in : List ℕ → Bool → List ℕ → Carried
mld_in packet alert body = Mld
    (from_be_bytes w128 (slice_range packet 8 24))
    (from_be_bytes w128 (slice_range packet 24 40))
    (slice_index packet 7)
    alert
    body

-- the bytes of a hop-by-hop header at the front of a payload
abbrev pub options_length : List ℕ → ℕ
options_length payload = slice_index payload 1 * 8 + 8

-- the content after a hop-by-hop header, by its next header: 44 for a fragment, 58 for an ICMPv6 message
unfoldable pub behind_options : List ℕ → List ℕ → Carried
behind_options packet payload = first_that_holds
    ((nat_lt (length payload) 8 || nat_lt (length payload) (options_length payload), Other)
    ∷ (slice_index payload 0 == 44, Fragment)
    ∷ (not (slice_index payload 0 == 58), Other)
    ∷ [])
    (mld_in packet
    (has_router_alert (slice_range payload 2 (options_length payload)))
    (drop (options_length payload) payload))

abbrev pub payload_length : List ℕ → ℕ
payload_length packet = word_at 4 packet

abbrev pub payload_of : List ℕ → List ℕ
payload_of packet = slice_range packet 40 (40 + payload_length packet)

-- The content of an IPv6 packet. A whole MLD message comes at once (next header 58) or after one hop-by-hop header
-- (next header 0).
unfoldable pub in_ipv6 : List ℕ → Carried
in_ipv6 packet = first_that_holds
    ((nat_lt (length packet) 40, Cut)
    ∷ (not (version_of packet == 6), Other)
    ∷ (slice_index packet 6 == 44, Fragment)
    ∷ (not (slice_index packet 6 == 0) && not (slice_index packet 6 == 58), Other)
    ∷ (nat_lt (length packet) (40 + payload_length packet), Cut)
    ∷ (slice_index packet 6 == 58, mld_in packet false (payload_of packet))
    ∷ [])
    (behind_options packet (payload_of packet))

-- the content after an Ethernet header, by the type that it names
unfoldable pub in_type : ℕ → List ℕ → Carried
in_type kind packet = first_that_holds
    ((kind == 0x0800, in_ipv4 packet) ∷ (kind == 0x86dd, in_ipv6 packet) ∷ []) Other

-- the content of an Ethernet frame: the type stands at 12, or after one tag (type 0x8100) at 16
unfoldable pub in_ethernet : List ℕ → Carried
in_ethernet frame = first_that_holds
    ((nat_lt (length frame) 14, Cut)
    ∷ (not (word_at 12 frame == 0x8100), in_type (word_at 12 frame) (drop 14 frame))
    ∷ (nat_lt (length frame) 18, Cut)
    ∷ [])
    (in_type (word_at 16 frame) (drop 18 frame))

-- the content of a packet without a link header
unfoldable pub in_raw_ip : List ℕ → Carried
in_raw_ip packet = first_that_holds
    ((nat_lt (length packet) 1, Cut)
    ∷ (version_of packet == 4, in_ipv4 packet)
    ∷ (version_of packet == 6, in_ipv6 packet)
    ∷ [])
    Other

-- the content of a frame of a capture
abbrev pub carried_in : LinkType → List ℕ → Carried
carried_in Ethernet frame = in_ethernet frame
carried_in RawIp frame = in_raw_ip frame
