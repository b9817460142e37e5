-- Packets that a conversion selects, and a check.
use Rattle.std.specs.Prelude.{ℕ, Bool, true, false, Option, None, Some}
use Rattle.mq_command.specs.declared.Interface.{Interface}
use Rattle.mq_command.specs.declared.Interface.TheVariants.{Number, Name}
use Rattle.mq_command.specs.declared.Packets.{Packets}
use Rattle.mq_command.specs.declared.Protocol.{Protocol}
use Rattle.mq_command.specs.declared.Protocol.TheVariants.{Igmp, Mld}
use Rattle.mq_command.specs.declared.Request.{Request}
use Rattle.mq_command.specs.declared.Request.TheVariants.{Message, Convert, Show, Replay, Check}
use Rattle.mq_convert.specs.declared.choice.Choice.{Choice}
use Rattle.mq_convert.specs.declared.choice.Which.{Which}
use Rattle.mq_convert.specs.declared.choice.Which.TheVariants as which
use Rattle.mq_convert.specs.declared.network.Messages.{Messages}
use Rattle.mq_convert.specs.declared.network.Messages.TheVariants as messages
use Rattle.mq_convert.specs.Interfaces.{name_of}
use Rattle.mquerier.specs.declared.chosen.CheckedPackets.{CheckedPackets}

-- the requested interface, if there is one: that of a number, or of a name
abbrev pub which_of : Option Interface → Option Which
which_of None = None
which_of (Some (Number number)) = Some (which.Number number)
which_of (Some (Name text)) = Some (which.Name (name_of text.now))

-- the packets of this interface and this VLAN, and whether each is written once
abbrev pub choice_of : Option Interface → (vlan : Option ℕ) → (once : Bool) → Choice
choice_of interface vlan once = record { interface = which_of interface; vlan = vlan; once = once }

-- The protocol whose messages have to be of one network. If each packet is read once, all networks count as one.
abbrev pub messages_of : Protocol → (once : Bool) → Option Messages
messages_of protocol true = None
messages_of Igmp false = Some messages.Igmp
messages_of Mld false = Some messages.Mld

-- the packets of a check of this protocol
abbrev pub checked_packets : Protocol → Packets → CheckedPackets
checked_packets protocol packets = record {
  choice = choice_of packets.interface packets.vlan packets.once;
  messages = messages_of protocol packets.once;
}

-- the packets of a request for a check
abbrev pub packets_in : Request → Option CheckedPackets
packets_in (Message protocol hex from to json) = None
packets_in (Convert interface vlan once json file) = None
packets_in (Show json file) = None
packets_in (Replay protocol own settings until changes json file) = None
packets_in (Check protocol querier settings within flags until packets file) = Some (checked_packets protocol packets)
