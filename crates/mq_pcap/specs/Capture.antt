-- A classic pcap file. It has a header of 24 bytes, and then records. Each record is a header of 16 bytes and the
-- captured bytes. All fields have the byte order in which the file's magic number is one of two.
use Rattle.std.specs.Prelude.{◌≡◌, ℕ, ◌+◌, ◌*◌, ◌/◌, ◌%◌, ◌<◌, ◌≤◌, nat_lt, Bool, true, false, not, ◌&&◌, ◌==◌, List, [], ◌∷◌, ◌++◌, length, drop, Option, None, Some, Result, Ok, Err}
use Rattle.byteorder.specs.Endian.{big_number, little_number}
use Rattle.mq_pcap.specs.declared.link_type.LinkType.TheVariants as link
use Rattle.mq_pcap.specs.declared.form.Endian.{Endian}
use Rattle.mq_pcap.specs.declared.form.Endian.TheVariants.{Big, Little}
use Rattle.mq_pcap.specs.declared.form.Fraction.{Fraction}
use Rattle.mq_pcap.specs.declared.form.Fraction.TheVariants.{Microseconds, Nanoseconds}
use Rattle.mq_pcap.specs.declared.form.Form.{Form}
use Rattle.mq_pcap.specs.declared.fault.PcapFault.{PcapFault}
use Rattle.mq_pcap.specs.declared.fault.PcapFault.TheVariants as fault
use Rattle.mq_pcap.specs.Tests.{first_that_holds}

-- a fault is that of a failed read
abbrev pub is_read : PcapFault → Bool
is_read fault.Read = true
is_read fault.Magic = false
is_read fault.Version = false
is_read fault.LinkType = false
is_read (fault.CutHeader number) = false
is_read (fault.CutData number) = false
is_read (fault.TooLong number) = false
is_read fault.Endless = false

-- the number in the first n bytes
abbrev pub number_in : Endian → ℕ → List ℕ → ℕ
number_in Big n bytes = big_number n bytes
number_in Little n bytes = little_number n bytes

-- the field of n bytes at a place
abbrev pub field : Endian → (place n : ℕ) → List ℕ → ℕ
field order place n bytes = number_in order n (drop place bytes)

abbrev pub magic_of : Fraction → ℕ
magic_of Microseconds = 0xa1b2c3d4
magic_of Nanoseconds = 0xa1b23c4d

-- The rest of a file's header, in this byte order. It has version 2.4, and a known link type in the low 16 bits of the
-- last field.
unfoldable pub header_in : Endian → Fraction → List ℕ → Result Form PcapFault
header_in order fraction bytes =
    let kind = field order 20 4 bytes % 65536 in
    first_that_holds
    ((not (field order 4 2 bytes == 2 && field order 6 2 bytes == 4), Err fault.Version)
    ∷ (kind == 1, Ok (record { order = order; fraction = fraction; link = link.Ethernet }))
    ∷ (kind == 101, Ok (record { order = order; fraction = fraction; link = link.RawIp }))
    ∷ [])
    (Err fault.LinkType)

-- the form in the bytes of a file's header, or the first fault
unfoldable pub header_of : List ℕ → Result Form PcapFault
header_of bytes = first_that_holds
    ((nat_lt (length bytes) 24, Err (fault.CutHeader 0))
    ∷ (field Big 0 4 bytes == magic_of Microseconds, header_in Big Microseconds bytes)
    ∷ (field Big 0 4 bytes == magic_of Nanoseconds, header_in Big Nanoseconds bytes)
    ∷ (field Little 0 4 bytes == magic_of Microseconds, header_in Little Microseconds bytes)
    ∷ (field Little 0 4 bytes == magic_of Nanoseconds, header_in Little Nanoseconds bytes)
    ∷ [])
    (Err fault.Magic)

-- a packet: its time in milliseconds, and its bytes
pub record Captured : Type 0 where
  pub stamp : ℕ
  pub bytes : List ℕ

-- whole milliseconds of a fraction of a second; a fraction of a second or more is added like any other
abbrev pub milliseconds : Fraction → ℕ → ℕ
milliseconds Microseconds fraction = fraction / 1000
milliseconds Nanoseconds fraction = fraction / 1000000

-- The time and the captured length in a record's header. The fourth field, the original length, is not read.
abbrev pub stamp_of : Form → List ℕ → ℕ
stamp_of form header = field form.order 0 4 header * 1000 + milliseconds form.fraction (field form.order 4 4 header)

abbrev pub captured_length : Form → List ℕ → ℕ
captured_length form header = field form.order 8 4 header

-- the most bytes of a packet
abbrev pub most_bytes : ℕ
most_bytes = 262144

-- bytes are one record with this packet
pub record IsRecord (form : Form) (bytes : List ℕ) (packet : Captured) : Type 0 where
  pub header : List ℕ
  pub parts : bytes ≡ header ++ packet.bytes
  pub header_length : length header ≡ 16
  pub stamp : packet.stamp ≡ stamp_of form header
  pub captured : length packet.bytes ≡ captured_length form header
  pub within : length packet.bytes ≤ most_bytes

-- the first record number that no capture may have
abbrev pub endless : ℕ
endless = 4294967296

-- the fault of the bytes from record `number` to the end of the file, if they have one
abbrev pub record_fault : Form → (number : ℕ) → List ℕ → Option PcapFault
record_fault form number bytes = first_that_holds
    ((nat_lt (length bytes) 1, None)
    ∷ (not (nat_lt number endless), Some fault.Endless)
    ∷ (nat_lt (length bytes) 16, Some (fault.CutHeader number))
    ∷ (nat_lt most_bytes (captured_length form bytes), Some (fault.TooLong number))
    ∷ (nat_lt (length bytes) (16 + captured_length form bytes), Some (fault.CutData number))
    ∷ [])
    None

-- The bytes from record `number` to the end of the file are these packets. After them the file ends, or its next record
-- has the fault.
abbrev pub AreRecords : Form → (number : ℕ) → List ℕ → List Captured → Option PcapFault → Type 0
AreRecords form number bytes [] None = bytes ≡ []
AreRecords form number bytes [] (Some f) = record_fault form number bytes ≡ Some f
AreRecords form number bytes (packet ∷ packets) end =
    (first rest : List ℕ) × (bytes ≡ first ++ rest) × IsRecord form first packet × (number < endless)
    × AreRecords form (number + 1) rest packets end

-- A whole file is a capture of these packets. It ends with the file, or with the fault `end`.
abbrev pub Captures : List ℕ → Result Form PcapFault → List Captured → Option PcapFault → Type 0
Captures bytes (Ok form) packets end =
    (header_of bytes ≡ Ok form) × AreRecords form 1 (drop 24 bytes) packets end
Captures bytes (Err f) packets end = (header_of bytes ≡ Err f) × (packets ≡ []) × (end ≡ Some f)
