-- The headers of a query's packet. They have TTL 1, or hop limit 1, and Router Alert. An IPv4 header has the precedence of
-- Internetwork Control and a right checksum (RFC 3376 section 4, RFC 3810 section 5). The message has a right checksum and
-- zero in its reserved fields (RFC 3376 sections 4.1.2 and 4.1.4, RFC 3810 sections 5.1.1, 5.1.2 and 5.1.4). Nothing
-- follows its fields (RFC 3376 section 4.1.10, RFC 3810 section 5.1.12).
use Rattle.std.specs.Prelude.{ℕ, ◌+◌, ◌-◌, ◌*◌, ◌/◌, ◌%◌, ◌==◌, ◌||◌, ◌&&◌, min, not, nat_lt, nat_le, Bool, true, false, if◌then◌else◌, List, [], ◌∷◌, ◌++◌, length, slice_index, take, drop, is_some, Result, Ok, Err}
use Rattle.mq_pcap.specs.Frame.{word_at}
use Rattle.mq_pcap.specs.IpOptions.{has_router_alert_v4}
use Rattle.mq_wire.specs.Checksum.{is_right}
use Rattle.mq_wire.specs.declared.message.Message.{Message}
use Rattle.mq_wire.specs.declared.message.WireFault.{WireFault}
use Rattle.mq_wire.specs.declared.message.WireFault.TheVariants.{Truncated, Checksum, UnknownType, QueryLength}
use Rattle.mq_wire.specs.Family.{Family, Igmp, Mld}
use Rattle.mq_link.specs.Configuration.{Configuration}
use Rattle.mq_link.specs.Receive.{Envelope, read_of, pseudo_of}
use Rattle.mq_walk.specs.Datagrams.{Datagram}
use Rattle.mq_check.specs.declared.headers.Headers.{Headers}
use Rattle.mq_check.specs.declared.headers.HeaderFault.{HeaderFault}
use Rattle.mq_check.specs.declared.headers.HeaderFault.TheVariants.{TimeToLive, NoRouterAlert, Precedence, HeaderChecksum, WrongChecksum, ReservedBits, AdditionalData}
use Rattle.mq_check.specs.Queries.{query_spelled}

-- a byte, or 0 after the end
abbrev pub byte_at : (bytes : List ℕ) → (place : ℕ) → ℕ
byte_at bytes place = if nat_lt place (length bytes) then slice_index bytes place else 0

-- the IPv4 header of a packet, as far as it is there
abbrev pub header4 : (packet : List ℕ) → List ℕ
header4 packet = take (min (byte_at packet 0 % 16 * 4) (length packet)) packet

-- The checksum of an IPv4 header is right, or 0. A sender's hardware may write it after the capture, and it is 0 until
-- then.
abbrev pub is_sound4 : (header : List ℕ) → Bool
is_sound4 header = (byte_at header 10 == 0 && byte_at header 11 == 0) || is_right header

-- A bit of a query's reserved fields is set. For IGMP these are the high half of the byte with S and QRV. For MLD they are
-- the code and the two bytes after the response. No sentence of RFC 3810 says what stands beside S and QRV.
abbrev pub has_reserved_bits : Family → (body : List ℕ) → Bool
has_reserved_bits Igmp body = nat_lt 15 (byte_at body 8)
has_reserved_bits Mld body = nat_lt 0 (byte_at body 1) || nat_lt 0 (byte_at body 6) || nat_lt 0 (byte_at body 7)

-- Bytes follow the sources of a query. Before the sources stand these fields, and the last two bytes of them are the
-- number of sources. A query of an older version is shorter.
abbrev pub has_more : (fields size : ℕ) → (body : List ℕ) → Bool
has_more fields size body =
    nat_le fields (length body) && nat_lt (fields + word_at (fields - 2) body * size) (length body)

abbrev pub has_additional_data : Family → (body : List ℕ) → Bool
has_additional_data Igmp body = has_more 12 4 body
has_additional_data Mld body = has_more 28 16 body

-- the fields of an IPv4 packet and of the query in it
abbrev pub headers4_in : (packet body : List ℕ) → Headers
headers4_in packet body =
    let header = header4 packet in
    record {
      ttl = byte_at header 8;
      alert = has_router_alert_v4 (drop (min (length header) 20) header);
      precedence = byte_at header 1 / 32;
      is_sound = is_sound4 header;
      has_reserved_bits = has_reserved_bits Igmp body;
      has_additional_data = has_additional_data Igmp body;
    }

-- The fields of an IPv6 packet and of the query in it. An IPv6 header has no precedence and no checksum.
abbrev pub headers6_in : Envelope → (body : List ℕ) → Headers
headers6_in envelope body = record {
  ttl = envelope.hop_limit;
  alert = envelope.alert;
  precedence = 6;
  is_sound = true;
  has_reserved_bits = has_reserved_bits Mld body;
  has_additional_data = has_additional_data Mld body;
}

-- the faults of these fields
abbrev pub fault_if : (is_there : Bool) → HeaderFault → List HeaderFault
fault_if is_there fault = if is_there then fault ∷ [] else []

abbrev pub faults_of : Headers → List HeaderFault
faults_of headers =
    fault_if (not (headers.ttl == 1)) (TimeToLive headers.ttl)
    ++ fault_if (not headers.alert) NoRouterAlert
    ++ fault_if (not (headers.precedence == 6)) (Precedence headers.precedence)
    ++ fault_if (not headers.is_sound) HeaderChecksum
    ++ fault_if headers.has_reserved_bits ReservedBits
    ++ fault_if headers.has_additional_data AdditionalData

-- a query of the checked router, even if hosts drop it
abbrev pub is_own_query : Configuration → Datagram → Bool
is_own_query config datagram =
    (datagram.envelope.source == config.own) && is_some (query_spelled config.family datagram.envelope datagram.body)

-- the type of a query is the first byte
abbrev pub has_query_type : Family → (body : List ℕ) → Bool
has_query_type Igmp body = byte_at body 0 == 0x11
has_query_type Mld body = byte_at body 0 == 130

-- the first fault of a message's bytes is its checksum
abbrev pub is_wrong_checksum : Result (Message ℕ) WireFault → Bool
is_wrong_checksum (Ok message) = false
is_wrong_checksum (Err (Truncated place)) = false
is_wrong_checksum (Err Checksum) = true
is_wrong_checksum (Err UnknownType) = false
is_wrong_checksum (Err QueryLength) = false

unfoldable pub has_wrong_checksum : Family → Envelope → (bytes : List ℕ) → Bool
has_wrong_checksum family envelope bytes = is_wrong_checksum (read_of family (pseudo_of family envelope bytes) bytes)

-- bytes of the checked router with the type of a query and a wrong checksum
abbrev pub is_broken_query : Configuration → Datagram → Bool
is_broken_query config datagram =
    (datagram.envelope.source == config.own)
    && has_query_type config.family datagram.body
    && has_wrong_checksum config.family datagram.envelope datagram.body

-- the faults of a packet with a datagram: none unless it is one of these
abbrev pub faults_if : (is_own_query is_broken_query : Bool) → List HeaderFault → List HeaderFault
faults_if true is_broken_query faults = faults
faults_if false true faults = WrongChecksum ∷ []
faults_if false false faults = []
