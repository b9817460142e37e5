-- The basis of a verdict: the packets of the capture, and who was querier when.
use Rattle.std.specs.Prelude.{ℕ, ◌+◌, ◌*◌, ◌==◌, ◌&&◌, ◌||◌, not, nat_lt, nat_le, Bool, true, false, if◌then◌else◌, List, [], ◌∷◌, length, Option, None, Some, is_some, Result, Ok, Err}
use Rattle.std.specs.List.{list_any}
use Rattle.mq_pcap.specs.declared.link_type.LinkType.{LinkType}
use Rattle.mq_pcap.specs.declared.link_type.LinkType.TheVariants.{Ethernet, RawIp}
use Rattle.mq_pcap.specs.Frame.{Carried, word_at}
use Rattle.mq_pcap.specs.Frame as carried
use Rattle.mq_wire.specs.declared.message.Message.{Message}
use Rattle.mq_wire.specs.declared.message.WireFault.{WireFault}
use Rattle.mq_wire.specs.declared.message.WireFault.TheVariants.{Truncated, Checksum, UnknownType, QueryLength}
use Rattle.mq_wire.specs.Family.{Family}
use Rattle.mq_wire.specs.Family as family
use Rattle.mq_sched.specs.declared.roles.OtherQuerier.{OtherQuerier}
use Rattle.mq_sched.specs.Election.{Role, Querier, Other}
use Rattle.mq_link.specs.Configuration.{Configuration}
use Rattle.mq_link.specs.Receive.{pseudo_of, read_of}
use Rattle.mq_walk.specs.Datagrams.{Datagram}
use Rattle.mq_check.specs.declared.basis.Basis.{Basis}
use Rattle.mq_check.specs.declared.basis.CheckedVariables.{CheckedVariables}
use Rattle.mq_check.specs.declared.querier_address.QuerierAddress.{QuerierAddress}
use Rattle.mq_check.specs.declared.querier_address.QuerierAddress.TheVariants.{V4, V6}
use Rattle.mq_check.specs.declared.totals.Totals.{Totals}
use Rattle.mq_check.specs.declared.unjudged.Unjudged.{Unjudged}
use Rattle.mq_check.specs.declared.unjudged.Unjudged.TheVariants.{NotUnderstood, OutOfOrder, NoMessage, NoQuery, LimitsExceeded}
use Rattle.mq_check.specs.Announced.{query_in}
use Rattle.mq_check.specs.Checking.{counted_up}

-- the address of a router of a family
abbrev pub named : Family → (address : ℕ) → QuerierAddress
named family.Igmp address = V4 address
named family.Mld address = V6 address

-- the variables of a configuration
abbrev pub variables_in : Configuration → CheckedVariables
variables_in config = record {
  rv = config.timing.robustness;
  qi = config.timing.query_seconds;
  qri = config.timing.response_interval;
  lmqi = config.timing.last_member_interval;
}

-- the basis before the first packet, with the checked router as querier from 0
abbrev pub basis_at_start : CheckedVariables → (own : QuerierAddress) → Basis
basis_at_start variables own = record {
  variables = variables;
  packets = 0;
  messages = 0;
  malformed = 0;
  cut = 0;
  unread = 0;
  back = 0;
  refused = 0;
  is_crowded = false;
  own = own;
  is_heard = false;
  has_higher = false;
  is_querier = true;
  lost = 0;
  lost_at = 0;
  other = own;
  again_at = 0;
}

-- the basis after one more packet, whose stamp goes back or doesn't
abbrev pub with_packet : (goes_back : Bool) → Basis → Basis
with_packet goes_back b =
    record b {
      packets = counted_up b.packets;
      back = if goes_back then counted_up b.back else b.back;
    }

abbrev pub with_message : Basis → Basis
with_message b = record b { messages = counted_up b.messages }

abbrev pub with_malformed : Basis → Basis
with_malformed b = record b { malformed = counted_up b.malformed }

abbrev pub with_cut : Basis → Basis
with_cut b = record b { cut = counted_up b.cut }

abbrev pub with_unread : Basis → Basis
with_unread b = record b { unread = counted_up b.unread }

-- The basis after a datagram was parsed. A datagram of an unknown type is no message of the family: neighbour discovery
-- is ICMPv6 too.
abbrev pub with_read : Result (Message ℕ) WireFault → Basis → Basis
with_read (Ok message) b = with_message b
with_read (Err (Truncated at)) b = with_malformed b
with_read (Err Checksum) b = with_malformed b
with_read (Err UnknownType) b = b
with_read (Err QueryLength) b = with_malformed b

-- a query on which hosts act, from a router with a higher address than the checked one
abbrev pub is_of_higher : Family → (own : ℕ) → Datagram → Bool
is_of_higher family own datagram = nat_lt own datagram.envelope.source && is_some (query_in family datagram)

-- The basis after the sender of a datagram of the family was noted. A router with a higher address is querier only if the
-- checked one isn't there.
abbrev pub with_sender : Configuration → Datagram → Basis → Basis
with_sender config datagram b =
    record b {
      is_heard = b.is_heard || (datagram.envelope.source == config.own);
      has_higher = b.has_higher || is_of_higher config.family config.own datagram;
    }

abbrev pub with_datagram : Configuration → Datagram → Basis → Basis
with_datagram config datagram b =
    with_sender config datagram
    (with_read (read_of config.family (pseudo_of config.family datagram.envelope datagram.body) datagram.body) b)

-- The types of Ethernet after which an IP packet may follow that isn't parsed: further tags, MPLS, PPPoE and MACsec.
-- The last is the type that `convert` writes for a packet whose link type it doesn't read.
abbrev pub wrapping_types : List ℕ
wrapping_types = 0x8100 ∷ 0x88a8 ∷ 0x9100 ∷ 0x8847 ∷ 0x8848 ∷ 0x8864 ∷ 0x88e5 ∷ 0xffff ∷ []

-- the type of a frame, after at most one tag (0x8100); 0 if the frame is too short or has no link header
abbrev pub type_in : LinkType → (frame : List ℕ) → ℕ
type_in Ethernet frame =
    if nat_lt (length frame) 14
    then 0
    else if word_at 12 frame == 0x8100
    then (if nat_lt (length frame) 18 then 0 else word_at 16 frame)
    else word_at 12 frame
type_in RawIp frame = 0

abbrev pub is_wrapped : (kind : ℕ) → Bool
is_wrapped kind = list_any (λ wrapping. kind == wrapping) wrapping_types

-- the basis after a packet without a datagram of the family: a truncated frame, an unread one, or other content
abbrev pub with_other : LinkType → (frame : List ℕ) → Carried → Basis → Basis
with_other link frame carried.Cut b = with_cut b
with_other link frame carried.Fragment b = with_unread b
with_other link frame carried.Other b = if is_wrapped (type_in link frame) then with_unread b else b
with_other link frame (carried.Igmp source destination ttl alert body) b = b
with_other link frame (carried.Mld source destination hop_limit alert body) b = b

-- the basis after the content of a packet
abbrev pub with_frame : Configuration → LinkType → (frame : List ℕ) → Carried → Option Datagram → Basis → Basis
with_frame config link frame content (Some datagram) b = with_datagram config datagram b
with_frame config link frame content None b = with_other link frame content b

-- the basis after a loss or a return of the role
abbrev pub role_lost : (moment : ℕ) → Basis → Basis
role_lost moment b = record b { is_querier = false; lost = counted_up b.lost; lost_at = moment }

abbrev pub role_returned : (moment : ℕ) → Basis → Basis
role_returned moment b = record b { is_querier = true; again_at = moment }

abbrev pub role_changed : (moment : ℕ) → (was_querier is_querier : Bool) → Basis → Basis
role_changed moment true true b = b
role_changed moment true false b = role_lost moment b
role_changed moment false true b = role_returned moment b
role_changed moment false false b = b

-- the basis after a tick, which never makes the router lose the role
abbrev pub role_after_tick : (moment : ℕ) → (was_querier is_querier : Bool) → Basis → Basis
role_after_tick moment true is_querier b = b
role_after_tick moment false true b = role_returned moment b
role_after_tick moment false false b = b

-- the basis with the other querier, if there is one
abbrev pub with_other_querier : Family → Role → Basis → Basis
with_other_querier family (Querier due startup_queries) b = b
with_other_querier family (Other address deadline) b = record b { other = named family address }

-- the basis with the other querier that the code returns, if there is one
abbrev pub with_other_named : {K : Type 0} → Family → (K → ℕ) → Option (OtherQuerier K) → Basis → Basis
with_other_named family number None b = b
with_other_named family number (Some querier) b = record b { other = named family (number querier.address) }

-- at least half of the packets are truncated or unread
abbrev pub is_hardly_understood : Basis → Bool
is_hardly_understood b = nat_lt 0 (b.cut + b.unread) && nat_le b.packets (2 * (b.cut + b.unread))

-- at least half of the packets have stamps that go back
abbrev pub is_out_of_order : Basis → Bool
is_out_of_order b = nat_lt 0 b.back && nat_le b.packets (2 * b.back)

-- nothing came from the checked router, though a router with a higher address sends queries
abbrev pub is_unseen : Basis → Bool
is_unseen b = not b.is_heard && b.has_higher

-- The reason why a check judged nothing, if there is one. Too much of the capture is truncated or unread, or has stamps
-- that go back, or it has no message of the family. Or it has no query of the checked router, and no finding or nothing at
-- all from this address. Or it has no finding, and no group was judged from some moment on.
abbrev pub unjudged_by : Totals → Option Unjudged
unjudged_by totals =
    if is_hardly_understood totals.basis
    then Some NotUnderstood
    else if is_out_of_order totals.basis
    then Some OutOfOrder
    else if totals.basis.messages + totals.basis.malformed == 0
    then Some NoMessage
    else if is_unseen totals.basis || totals.general + totals.specific + totals.findings == 0
    then Some NoQuery
    else if totals.basis.is_crowded && (totals.findings == 0)
    then Some LimitsExceeded
    else None
