-- The size of a block, by its first bytes. The blocks of a classic capture are its header and its records.
use Rattle.std.specs.Prelude.{◌≡◌, ℕ, ◌+◌, ◌-◌, ◌%◌, nat_lt, Bool, true, false, not, ◌==◌, if◌then◌else◌, List, [], ◌∷◌, ◌++◌, length, take, drop, ◌≤◌, Option, None, Some, Result, Ok, Err}
use Rattle.mq_arena.specs.Vectors.{bytes_for, item_bytes}
use Rattle.mq_pcap.specs.declared.form.Endian.{Endian}
use Rattle.mq_pcap.specs.declared.form.Endian.TheVariants.{Big, Little}
use Rattle.mq_pcap.specs.declared.form.Fraction.{Fraction}
use Rattle.mq_pcap.specs.declared.form.Fraction.TheVariants.{Microseconds, Nanoseconds}
use Rattle.mq_pcap.specs.Capture.{field, magic_of}
use Rattle.mq_pcap.specs.Tests.{first_that_holds}
use Rattle.mq_convert.specs.contracts.kept.Kept as kept
use Rattle.mq_convert.specs.declared.context.Kind.{Kind}
use Rattle.mq_convert.specs.declared.context.Kind.TheVariants.{Start, Classic, Section}
use Rattle.mq_convert.specs.declared.fault.BlockFault.{BlockFault}
use Rattle.mq_convert.specs.declared.fault.BlockFault.TheVariants as fault

-- the most bytes of a block that are seen
abbrev pub most_seen : ℕ
most_seen = 294912

-- The seen part of a block: all of it, or its first bytes and its last 4, which are its length, if it is longer. The
-- bytes between are skipped.
unfoldable pub seen_of : List ℕ → List ℕ
seen_of block =
    if nat_lt most_seen (length block) then take (most_seen - 4) block ++ drop (length block - 4) block else block

-- the type of a section header, which reads the same in both byte orders
abbrev pub section_type : ℕ
section_type = 0x0a0d0d0a

-- the number of bytes that the size of a block needs
abbrev pub head_size : Kind → ℕ
head_size Start = 12
head_size (Classic order fraction) = 16
head_size (Section order) = 12

abbrev pub is_start : Kind → Bool
is_start Start = true
is_start (Classic order fraction) = false
is_start (Section order) = false

-- the fewest bytes of a block of this kind
abbrev pub least_size : Kind → ℕ
least_size Start = 24
least_size (Classic order fraction) = 16
least_size (Section order) = 12

-- the byte order and the unit of a classic capture, by its magic number
unfoldable pub form_in : List ℕ → Option (Endian × Fraction)
form_in bytes = first_that_holds
    ((field Big 0 4 bytes == magic_of Microseconds, Some (Big, Microseconds))
    ∷ (field Big 0 4 bytes == magic_of Nanoseconds, Some (Big, Nanoseconds))
    ∷ (field Little 0 4 bytes == magic_of Microseconds, Some (Little, Microseconds))
    ∷ (field Little 0 4 bytes == magic_of Nanoseconds, Some (Little, Nanoseconds))
    ∷ [])
    None

-- the byte order of a section, in which the number at 8 is this one
unfoldable pub order_in : List ℕ → Option Endian
order_in bytes = first_that_holds
    ((field Big 8 4 bytes == 0x1a2b3c4d, Some Big) ∷ (field Little 8 4 bytes == 0x1a2b3c4d, Some Little) ∷ []) None

-- the size of a section's block, at 4: a multiple of 4, and not less than this
unfoldable pub block_size : Endian → (least : ℕ) → List ℕ → Result ℕ BlockFault
block_size order least bytes =
    let size = field order 4 4 bytes in first_that_holds
    ((nat_lt size least, Err fault.Length)
    ∷ (not (size % 4 == 0), Err fault.Length)
    ∷ [])
    (Ok size)

-- the size of a section header, in its own byte order
unfoldable pub section_size : List ℕ → Result ℕ BlockFault
section_size bytes = elim (order_in bytes) [ None ↦ Err fault.Order | Some order ↦ block_size order 28 bytes ]

-- the size of the first block of a file: a section header, or the header of a classic capture
unfoldable pub first_size : List ℕ → Result ℕ BlockFault
first_size bytes =
    if field Big 0 4 bytes == section_type
    then section_size bytes
    else (elim (form_in bytes) [ None ↦ Err fault.NoCapture | Some form ↦ Ok 24 ])

-- the size of a record of a classic capture: a header of 16 bytes, and the captured bytes; all of it is seen
unfoldable pub record_size : Endian → List ℕ → Result ℕ BlockFault
record_size order bytes =
    let size = 16 + field order 8 4 bytes in if nat_lt most_seen size then Err fault.Length else Ok size

-- the size of a block after a section header, which may be the next section's header
unfoldable pub next_size : Endian → List ℕ → Result ℕ BlockFault
next_size order bytes = if field order 0 4 bytes == section_type then section_size bytes else block_size order 12 bytes

abbrev pub size_in : Kind → List ℕ → Result ℕ BlockFault
size_in Start bytes = first_size bytes
size_in (Classic order fraction) bytes = record_size order bytes
size_in (Section order) bytes = next_size order bytes

-- the size of a block that begins with these bytes
abbrev pub size_of : Kind → List ℕ → Result ℕ BlockFault
size_of kind bytes = size_in kind (take (head_size kind) bytes)

-- the block has the size that its first bytes say
pub record IsWhole (kind : Kind) (block : List ℕ) : Type 0 where
  pub head : head_size kind ≤ length block
  pub size : size_of kind block ≡ Ok (length block)

-- the bytes of the packets that later ones are compared with; there are none if packets may go out again
unfoldable pub bytes_of_gone : (once : Bool) → ℕ
bytes_of_gone once = bytes_for (item_bytes kept.the_row) (if once then 256 else 0)
