-- Classic captures that are written unchanged: of Ethernet without tags, in nanoseconds, the lowest byte first.
use Rattle.std.specs.Prelude.{◌≡◌, ℕ, ◌+◌, ◌<◌, nat_lt, Bool, true, false, not, ◌||◌, List, [], ◌∷◌, ◌++◌, length, slice_range, take, None}
use Rattle.mq_pcap.specs.declared.form.Endian.TheVariants.{Big, Little}
use Rattle.mq_pcap.specs.declared.form.Form.{Form}
use Rattle.mq_pcap.specs.declared.form.Fraction.TheVariants.{Nanoseconds}
use Rattle.mq_pcap.specs.declared.link_type.LinkType.TheVariants.{Ethernet}
use Rattle.mq_pcap.specs.Capture.{AreRecords, Captured, field}
use Rattle.mq_convert.specs.declared.choice.Choice.{Choice}
use Rattle.mq_convert.specs.Frames.{is_tag}
use Rattle.mq_convert.specs.Moments.{second}

-- the choice of all packets
abbrev pub everything : Choice
everything = record { interface = None; vlan = None; once = false }

-- the form of these captures
abbrev pub plain : Form
plain = record { order = Little; fraction = Nanoseconds; link = Ethernet }

-- The header of this capture with the fields that are read: its magic number, its version, and the low 16 bits of its
-- link type. The time zone and the accuracy of moments are 0, and the snap length is that of all written captures.
abbrev pub looked_at : List ℕ → List ℕ
looked_at bytes =
    take 8 bytes ++ (0 ∷ 0 ∷ 0 ∷ 0 ∷ 0 ∷ 0 ∷ 0 ∷ 0 ∷ 0 ∷ 0 ∷ 4 ∷ 0 ∷ []) ++ slice_range bytes 20 22 ++ (0 ∷ 0 ∷ [])

-- a frame has no tag: it ends before its type, or the type is another
abbrev pub is_untagged : List ℕ → Bool
is_untagged frame = nat_lt (length frame) 14 || not (is_tag (field Big 12 2 frame))

-- no frame has a tag, and the nanoseconds of a record are less than a second
abbrev pub ArePlain : (number : ℕ) (bytes : List ℕ) (packets : List Captured) → AreRecords plain number bytes packets None → Type 0
ArePlain number bytes [] are = Unit {0}
ArePlain number bytes (packet ∷ packets) are =
    (field Little 4 4 are.0 < second) × (is_untagged packet.bytes ≡ true) × ArePlain (number + 1) are.1 packets are.5
