-- The classic capture that is written: nanoseconds, Ethernet, the lowest byte first.
use Rattle.std.specs.Prelude.{ℕ, zero, suc, ◌+◌, ◌-◌, ◌/◌, ◌%◌, ◌^◌, min, not, ◌&&◌, if◌then◌else◌, List, [], ◌∷◌, ◌++◌, length, Option, None, option_to_list}
use Rattle.std.specs.List.{flat_map}
use Rattle.byteorder.specs.Endian.{little_bytes}
use Rattle.mq_convert.specs.declared.choice.Choice.{Choice}
use Rattle.mq_convert.specs.Blocks.{Captured}
use Rattle.mq_convert.specs.Choices.{is_chosen, is_chosen_packet}
use Rattle.mq_convert.specs.Frames.{Framed, frame_of, is_read_link, untagged, frame_length, frame_bytes, frame_size}
use Rattle.mq_convert.specs.Moments.{second}
use Rattle.mq_convert.specs.Repeats.{Gone, going_out}

-- the magic number, version 2.4, two fields that are 0, the most captured bytes, and the link type
abbrev pub file_header : List ℕ
file_header =
    0x4d ∷ 0x3c ∷ 0xb2 ∷ 0xa1 ∷ 2 ∷ 0 ∷ 4 ∷ 0 ∷ 0 ∷ 0 ∷ 0 ∷ 0 ∷ 0 ∷ 0 ∷ 0 ∷ 0 ∷ 0 ∷ 0 ∷ 4 ∷ 0 ∷ 1 ∷ 0 ∷ 0 ∷ 0 ∷ []

-- The original length of a frame that was built from a packet. The frame lacks as many bytes as the capture lacks of
-- the packet. The length is at most 2^32 - 1.
abbrev pub original_of : (original captured size : ℕ) → ℕ
original_of original captured size = min ((original + size) - captured) (2 ^ 32 - 1)

-- the header of a record: seconds, nanoseconds, the number of bytes that follow, and their original number
unfoldable pub record_header : (moment captured original : ℕ) → List ℕ
record_header moment captured original =
    little_bytes 4 (moment / second) ++ little_bytes 4 (moment % second) ++ little_bytes 4 captured ++ little_bytes 4 original

-- the record of a frame that was built from `captured` bytes
abbrev pub record_with : (moment original captured : ℕ) → Framed → List ℕ
record_with moment original captured frame =
    record_header moment (frame_size frame) (original_of original captured (frame_length frame))
    ++ frame_bytes frame

-- the record of a packet, if it is chosen: that of its frame without tags
unfoldable pub record_of : Choice → Captured → List ℕ
record_of choice packet =
    if is_chosen_packet choice packet
    then record_with packet.moment packet.original (length packet.bytes) (untagged (frame_of packet.link packet.bytes))
    else []

-- the packets of blocks
abbrev pub packets_of : List (Option Captured) → List Captured
packets_of blocks = flat_map option_to_list blocks

-- the capture of these packets, without those that are left out
abbrev pub converted : Choice → List Captured → List ℕ
converted choice packets = file_header ++ flat_map (record_of choice) (going_out choice [] packets)

-- the text before the content of the block of this number
abbrev pub start_of : (number : ℕ) → List ℕ
start_of zero = file_header
start_of (suc n) = []

-- the text of the blocks of a file: nothing until it is known to be a capture
abbrev pub written_of : Choice → List (Option Captured) → List ℕ
written_of choice [] = []
written_of choice (held ∷ blocks) = converted choice (packets_of (held ∷ blocks))

-- the unread link type of a packet that is written; the packet has no tag
unfoldable pub unread_link : Choice → Captured → List ℕ
unread_link choice packet =
    if not (is_read_link packet.link) && is_chosen choice packet.interface packet.name None then packet.link ∷ [] else []

-- the unread link types of the packets that go out
abbrev pub unread_links : Choice → List Gone → List Captured → List ℕ
unread_links choice gone packets = flat_map (unread_link choice) (going_out choice gone packets)
