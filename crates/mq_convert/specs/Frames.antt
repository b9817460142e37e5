-- Ethernet frames, built from the bytes that an interface captures.
use Rattle.std.specs.Prelude.{ℕ, ◌+◌, ◌-◌, ◌/◌, ◌%◌, min, nat_lt, Bool, not, ◌&&◌, ◌||◌, ◌==◌, if◌then◌else◌, List, [], ◌∷◌, ◌++◌, length, take, drop, slice_index, slice_range, Option, None, Some}
use Rattle.std.specs.List.{list_any}
use Rattle.byteorder.specs.Endian.{big_bytes}
use Rattle.mq_pcap.specs.declared.form.Endian.TheVariants.{Big, Little}
use Rattle.mq_pcap.specs.Capture.{field, most_bytes}
use Rattle.mq_pcap.specs.Tests.{first_that_holds}
use Rattle.mq_convert.specs.declared.frames.Frame.{Frame}
use Rattle.mq_convert.specs.declared.frames.Frame.TheVariants as frame

-- An Ethernet frame: the addresses of its destination and its source, its type, and its payload. If it ends before its
-- type is known, it is the bytes that are there.
pub data Framed : Type 0 where
  Whole : (addresses : List ℕ) (kind : ℕ) (payload : List ℕ) → Framed
  Cut : (bytes : List ℕ) → Framed

-- a frame of the code
abbrev pub framed : Frame → Framed
framed (frame.Whole addresses kind payload) = Whole addresses kind payload.now
framed (frame.Cut bytes) = Cut bytes.now

-- the types of IPv4 and IPv6, and a type that no one reads
abbrev pub ipv4 : ℕ
ipv4 = 0x0800

abbrev pub ipv6 : ℕ
ipv6 = 0x86dd

abbrev pub unread : ℕ
unread = 0xffff

-- an unknown address, and two of them
abbrev pub no_address : List ℕ
no_address = 0 ∷ 0 ∷ 0 ∷ 0 ∷ 0 ∷ 0 ∷ []

abbrev pub no_addresses : List ℕ
no_addresses = 0 ∷ 0 ∷ 0 ∷ 0 ∷ 0 ∷ 0 ∷ 0 ∷ 0 ∷ 0 ∷ 0 ∷ 0 ∷ 0 ∷ []

-- link type 1: Ethernet
unfoldable pub of_ethernet : List ℕ → Framed
of_ethernet bytes =
    if nat_lt (length bytes) 14 then Cut bytes else Whole (slice_range bytes 0 12) (field Big 12 2 bytes) (drop 14 bytes)

-- the type of an IP packet, by its version
unfoldable pub ip_type : List ℕ → ℕ
ip_type packet = first_that_holds
    ((slice_index packet 0 / 16 == 4, ipv4) ∷ (slice_index packet 0 / 16 == 6, ipv6) ∷ []) unread

-- link types 101, 12 and 14: an IP packet
unfoldable pub of_raw_ip : List ℕ → Framed
of_raw_ip packet = if nat_lt (length packet) 1 then Cut packet else Whole no_addresses (ip_type packet) packet

-- the sender's address after an unknown one, if it has 6 bytes
abbrev pub sent_by : (size : ℕ) → (address : List ℕ) → List ℕ
sent_by size address = no_address ++ (if size == 6 then address else no_address)

-- link type 113, Linux cooked: the size of the sender's address at 4, the address at 6, and the type at 14
unfoldable pub of_cooked : List ℕ → Framed
of_cooked bytes =
    if nat_lt (length bytes) 16
    then Cut bytes
    else Whole (sent_by (field Big 4 2 bytes) (slice_range bytes 6 12)) (field Big 14 2 bytes) (drop 16 bytes)

-- link type 276, its second version: the type at 0, the size of the sender's address at 11, and the address at 12
unfoldable pub of_cooked_2 : List ℕ → Framed
of_cooked_2 bytes =
    if nat_lt (length bytes) 20
    then Cut bytes
    else Whole (sent_by (slice_index bytes 11) (slice_range bytes 12 18)) (field Big 0 2 bytes) (drop 20 bytes)

-- The type of a packet by its family: 2 is IPv4, and IPv6 has one of four numbers. BSD loopback has the family in the
-- byte order of the machine that captured.
unfoldable pub family_type : (family : ℕ) → ℕ
family_type family = first_that_holds
    ((family == 2, ipv4) ∷ (list_any (λ known. family == known) (10 ∷ 24 ∷ 28 ∷ 30 ∷ []), ipv6) ∷ []) unread

-- link types 0 and 108, BSD loopback: the family, whose number is small, in either byte order
unfoldable pub of_loopback : List ℕ → Framed
of_loopback bytes =
    if nat_lt (length bytes) 4
    then Cut bytes
    else Whole no_addresses (family_type (min (field Big 0 4 bytes) (field Little 0 4 bytes))) (drop 4 bytes)

-- The frame of the bytes that an interface of this link type captured. If the link type isn't read, its type is
-- `unread`.
unfoldable pub frame_of : (link : ℕ) → List ℕ → Framed
frame_of link bytes = first_that_holds
    ((link == 1, of_ethernet bytes)
    ∷ (link == 101 || (link == 12 || link == 14), of_raw_ip bytes)
    ∷ (link == 228, Whole no_addresses ipv4 bytes)
    ∷ (link == 229, Whole no_addresses ipv6 bytes)
    ∷ (link == 113, of_cooked bytes)
    ∷ (link == 276, of_cooked_2 bytes)
    ∷ (link == 0 || link == 108, of_loopback bytes)
    ∷ [])
    (Whole no_addresses unread bytes)

-- the link type is read
abbrev pub is_read_link : ℕ → Bool
is_read_link link = list_any (λ known. link == known) (1 ∷ 101 ∷ 12 ∷ 14 ∷ 228 ∷ 229 ∷ 113 ∷ 276 ∷ 0 ∷ 108 ∷ [])

-- the type is that of a tag
abbrev pub is_tag : ℕ → Bool
is_tag kind = kind == 0x8100 || (kind == 0x88a8 || kind == 0x9100)

-- The frame without tags. A tag is its type and two more bytes, and the next type follows.
abbrev pub behind_tags : (addresses : List ℕ) → (kind : ℕ) → (payload : List ℕ) → Framed
behind_tags addresses kind (a ∷ (b ∷ (c ∷ (d ∷ rest)))) =
    if is_tag kind then behind_tags addresses (field Big 2 2 (a ∷ (b ∷ (c ∷ (d ∷ []))))) rest else Whole addresses kind (a ∷ (b ∷ (c ∷ (d ∷ rest))))
behind_tags addresses kind payload = if is_tag kind then Cut payload else Whole addresses kind payload

abbrev pub untagged : Framed → Framed
untagged (Whole addresses kind payload) = behind_tags addresses kind payload
untagged (Cut bytes) = Cut bytes

-- the network of the outermost tag
abbrev pub tag_of : Framed → Option ℕ
tag_of (Whole addresses kind payload) =
    if is_tag kind && not (nat_lt (length payload) 2) then Some (field Big 0 2 payload % 4096) else None
tag_of (Cut bytes) = None

-- the number of bytes of a frame
abbrev pub frame_length : Framed → ℕ
frame_length (Whole addresses kind payload) = 14 + length payload
frame_length (Cut bytes) = length bytes

-- the bytes written for a truncated frame: at most 13, so that no type is read
abbrev pub before_type : List ℕ → List ℕ
before_type bytes = take (min (length bytes) 13) bytes

-- the bytes written for a payload: a record has at most as many bytes as a classic capture allows
abbrev pub carried_of : List ℕ → List ℕ
carried_of payload = take (min (length payload) (most_bytes - 14)) payload

-- the bytes that are written of a frame, and their number; addresses have 12
abbrev pub frame_bytes : Framed → List ℕ
frame_bytes (Whole addresses kind payload) = addresses ++ big_bytes 2 kind ++ carried_of payload
frame_bytes (Cut bytes) = before_type bytes

abbrev pub frame_size : Framed → ℕ
frame_size (Whole addresses kind payload) = 14 + length (carried_of payload)
frame_size (Cut bytes) = length (before_type bytes)
