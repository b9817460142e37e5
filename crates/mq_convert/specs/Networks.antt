-- The networks of the messages in a file: their interfaces and their outermost tags.
use Rattle.std.specs.Prelude.{◌≡◌, ℕ, nat_lt, Bool, true, false, not, ◌&&◌, ◌||◌, ◌==◌, if◌then◌else◌, List, [], ◌∷◌, ◌++◌, length, slice_index, Option, None, Some, Result, Ok, Err}
use Rattle.std.specs.Io.KnownBytes.{IsAtEnd}
use Rattle.std.specs.List.{list_any}
use Rattle.mq_pcap.specs.declared.link_type.LinkType.TheVariants.{RawIp}
use Rattle.mq_pcap.specs.Filling.{InputState, Takes}
use Rattle.mq_pcap.specs.Frame.{Carried, Igmp, Mld, carried_in}
use Rattle.mq_convert.specs.declared.choice.Choice.{Choice}
use Rattle.mq_convert.specs.declared.fault.BlockFault.{BlockFault}
use Rattle.mq_convert.specs.declared.fault.ConvertFault.{ConvertFault}
use Rattle.mq_convert.specs.declared.fault.ConvertFault.TheVariants as answer
use Rattle.mq_convert.specs.declared.network.Messages.{Messages}
use Rattle.mq_convert.specs.declared.network.Messages.TheVariants as messages
use Rattle.mq_convert.specs.declared.network.Network.{Network}
use Rattle.mq_convert.specs.Blocks.{Captured}
use Rattle.mq_convert.specs.Choices.{is_chosen_packet, number_of}
use Rattle.mq_convert.specs.Files.{Captures}
use Rattle.mq_convert.specs.Frames.{Framed, Whole, frame_of, ipv4, ipv6, tag_of}
use Rattle.mq_convert.specs.Frames as frames
use Rattle.mq_convert.specs.Reading.{IsKnownThere}
use Rattle.mq_convert.specs.Records.{packets_of}
use Rattle.mq_convert.specs.Repeats.{frame_out}

-- the type of an MLD message: a query, a report or Done of version 1, or a report of version 2
abbrev pub is_mld_type : ℕ → Bool
is_mld_type kind = list_any (λ known. kind == known) (130 ∷ 131 ∷ 132 ∷ 143 ∷ [])

-- the content of a packet is a message of this protocol; those of ICMPv6 are of many types
abbrev pub is_message : Messages → Carried → Bool
is_message messages.Igmp (Igmp source destination ttl alert body) = true
is_message messages.Mld (Mld source destination hop_limit alert body) =
    not (nat_lt (length body) 1) && is_mld_type (slice_index body 0)
is_message protocol carried = false

-- the type of the frames that carry messages of this protocol
abbrev pub type_of : Messages → ℕ
type_of messages.Igmp = ipv4
type_of messages.Mld = ipv6

-- a frame without tags carries a message of this protocol
abbrev pub carries : Messages → Framed → Bool
carries protocol (Whole addresses kind payload) = kind == type_of protocol && is_message protocol (carried_in RawIp payload)
carries protocol (frames.Cut bytes) = false

-- The network of a chosen packet that carries a message of this protocol: the number of its interface, and that of its
-- outermost tag, if it has one.
unfoldable pub network_of : Messages → Choice → Captured → Option Network
network_of protocol choice packet =
    if is_chosen_packet choice packet && carries protocol (frame_out packet)
    then Some (record { interface = number_of packet; vlan = tag_of (frame_of packet.link packet.bytes) })
    else None

abbrev pub is_same_number : Option ℕ → Option ℕ → Bool
is_same_number None None = true
is_same_number (Some a) (Some b) = a == b
is_same_number a b = false

abbrev pub is_same : Network → Network → Bool
is_same a b = a.interface == b.interface && is_same_number a.vlan b.vlan

-- the greatest number of different networks
abbrev pub most_networks : ℕ
most_networks = 16

-- the networks with one more, if it isn't among them and there is room
abbrev pub with_network : List Network → Option Network → List Network
with_network seen None = seen
with_network seen (Some network) =
    if list_any (is_same network) seen || not (nat_lt (length seen) most_networks) then seen else seen ++ (network ∷ [])

-- the networks of these packets' messages, each once, in the order in which they first come
abbrev pub networks_of : Messages → Choice → (seen : List Network) → List Captured → List Network
networks_of protocol choice seen [] = seen
networks_of protocol choice seen (packet ∷ packets) =
    networks_of protocol choice (with_network seen (network_of protocol choice packet)) packets

-- the input ended as the result says
abbrev pub IsOver : (blocks : ℕ) → (end : Option BlockFault) → (old new : InputState) → Result (Unit {0}) ConvertFault → Type 0
IsOver blocks end old new (Ok it) = (end ≡ None) × IsAtEnd new.ahead × (new.failed ≡ old.failed)
IsOver blocks end old new (Err answer.Read) = new.failed ≡ true
IsOver blocks end old new (Err (answer.Block number f)) =
    (end ≡ Some f) × (number ≡ blocks) × IsKnownThere f new × (new.failed ≡ old.failed)
IsOver blocks end old new (Err answer.Write) = ⊥
IsOver blocks end old new (Err answer.Memory) = ⊥

-- A file was read to its end, to a fault or to a failed read. The bytes that were taken from the input, as a whole file,
-- are a capture of these blocks, whose messages are of these networks.
pub record Finds (protocol : Messages) (choice : Choice) (old new : InputState) (networks : List Network) (r : Result (Unit {0}) ConvertFault) : Type 0 where
  pub bytes : List ℕ
  pub blocks : List (Option Captured)
  pub end : Option BlockFault
  pub takes : Takes old new bytes
  pub capture : Captures bytes blocks end
  pub ended : IsOver (length blocks) end old new r
  pub networks_are : networks ≡ networks_of protocol choice [] (packets_of blocks)
