-- The choice of packets, by interface and by network.
use Rattle.std.specs.Prelude.{ℕ, nat_lt, Bool, true, false, not, ◌&&◌, ◌==◌, if◌then◌else◌, length, Option, None, Some}
use Rattle.mq_pcap.specs.declared.form.Endian.TheVariants.{Big}
use Rattle.mq_pcap.specs.Capture.{field}
use Rattle.mq_convert.specs.declared.choice.Choice.{Choice}
use Rattle.mq_convert.specs.declared.choice.Which.{Which}
use Rattle.mq_convert.specs.declared.choice.Which.TheVariants.{Number, Name}
use Rattle.mq_convert.specs.Blocks.{Captured}
use Rattle.mq_convert.specs.Frames.{frame_of, tag_of}

-- the requested number, if any, was found
abbrev pub is_asked : (asked found : Option ℕ) → Bool
is_asked None found = true
is_asked (Some number) None = false
is_asked (Some number) (Some other) = number == other

-- the requested interface, if any, has this number, or this name, if it has one
abbrev pub is_asked_interface : (asked : Option Which) → (number name : ℕ) → Bool
is_asked_interface None number name = true
is_asked_interface (Some (Number asked)) number name = asked == number
is_asked_interface (Some (Name asked)) number name = asked == name && not (name == 0)

-- a packet of this interface and with this outermost tag is written
abbrev pub is_chosen : Choice → (number name : ℕ) → (tag : Option ℕ) → Bool
is_chosen choice number name tag = is_asked_interface choice.interface number name && is_asked choice.vlan tag

-- The number by which a choice names the interface of a packet. Linux cooked captures of version 2 have it in the
-- header of each packet, at 4. Otherwise it is the interface's number among all that the file describes.
unfoldable pub number_of : Captured → ℕ
number_of packet =
    if packet.link == 276 && not (nat_lt (length packet.bytes) 20) then field Big 4 4 packet.bytes else packet.interface

-- a packet is chosen
abbrev pub is_chosen_packet : Choice → Captured → Bool
is_chosen_packet choice packet =
    is_chosen choice (number_of packet) packet.name (tag_of (frame_of packet.link packet.bytes))
