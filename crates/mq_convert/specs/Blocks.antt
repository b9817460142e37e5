-- The content of a whole block, and its effect on later blocks, by its size and the bytes that are seen.
use Rattle.std.specs.Prelude.{ℕ, ◌+◌, ◌-◌, ◌*◌, ◌%◌, ◌^◌, ◌≤◌, min, nat_lt, Bool, not, ◌&&◌, ◌||◌, ◌==◌, if◌then◌else◌, List, [], ◌∷◌, ◌++◌, length, slice_get, slice_range, Option, None, Some, Result, Ok, Err}
use Rattle.mq_count.specs.Streams.{counted_on}
use Rattle.mq_pcap.specs.declared.form.Endian.{Endian}
use Rattle.mq_pcap.specs.declared.form.Endian.TheVariants.{Big}
use Rattle.mq_pcap.specs.declared.form.Fraction.{Fraction}
use Rattle.mq_pcap.specs.Capture.{field}
use Rattle.mq_pcap.specs.Tests.{first_that_holds}
use Rattle.mq_convert.specs.declared.context.Interface.{Interface}
use Rattle.mq_convert.specs.declared.context.Kind.{Kind}
use Rattle.mq_convert.specs.declared.context.Kind.TheVariants.{Start, Classic, Section}
use Rattle.mq_convert.specs.declared.fault.BlockFault.{BlockFault}
use Rattle.mq_convert.specs.declared.fault.BlockFault.TheVariants as fault
use Rattle.mq_convert.specs.declared.packet.Packet.{Packet}
use Rattle.mq_convert.specs.declared.packet.Said.{Said}
use Rattle.mq_convert.specs.Contexts.{ContextState}
use Rattle.mq_convert.specs.Dropped.{after_packet, after_statistics}
use Rattle.mq_convert.specs.Interfaces.{interface_in}
use Rattle.mq_convert.specs.Moments.{classic_moment, moment_of}
use Rattle.mq_convert.specs.Sizes.{section_type, form_in, most_seen, order_in, seen_of}

-- A packet: the number of its interface among all of the file, the interface's name as a number, and its link type. The
-- moment is in nanoseconds, `original` is the packet's length, and `bytes` are the captured ones.
pub record Captured : Type 0 where
  pub interface : ℕ
  pub name : ℕ
  pub link : ℕ
  pub moment : ℕ
  pub original : ℕ
  pub bytes : List ℕ

-- the result of a block: the context of the later blocks, and a packet, if it has one
abbrev pub Outcome : Type 0
Outcome = Result (ContextState × Option Captured) BlockFault

-- a packet that the code found in a block
abbrev pub captured_of : List ℕ → Packet → Captured
captured_of block packet = record {
  interface = packet.interface;
  name = packet.name;
  link = packet.link;
  moment = packet.moment;
  original = packet.original;
  bytes = slice_range block packet.place (packet.place + packet.length);
}

abbrev pub found_of : List ℕ → Result Packet BlockFault → Result Captured BlockFault
found_of block (Ok packet) = Ok (captured_of block packet)
found_of block (Err f) = Err f

-- a result of the code, with the context that it left
abbrev pub answer_of : ContextState → List ℕ → Result (Option Packet) BlockFault → Outcome
answer_of context block (Ok None) = Ok (context, None)
answer_of context block (Ok (Some packet)) = Ok (context, Some (captured_of block packet))
answer_of context block (Err f) = Err f

-- the bytes of a found packet are in the block
abbrev pub IsFoundWithin : List ℕ → Result Packet BlockFault → Type 0
IsFoundWithin block (Ok packet) = packet.place + packet.length ≤ length block
IsFoundWithin block (Err f) = Unit {0}

abbrev pub IsHeldWithin : List ℕ → Result (Option Packet) BlockFault → Type 0
IsHeldWithin block (Ok None) = Unit {0}
IsHeldWithin block (Ok (Some packet)) = packet.place + packet.length ≤ length block
IsHeldWithin block (Err f) = Unit {0}

-- the length at the start of a section's block also stands at its end
abbrev pub is_closed : Endian → (size : ℕ) → List ℕ → Bool
is_closed order size block = field order (length block - 4) 4 block == size

-- the number of an interface of the section among all of the file
abbrev pub numbered : ContextState → (id : ℕ) → ℕ
numbered context id = counted_on context.earlier id

-- a packet of an interface and its block, if there is room for it before the last 4 bytes that are seen
unfoldable pub packet_of : ContextState → (id : ℕ) → Interface → (moment : Option ℕ) → Said → List ℕ → Result Captured BlockFault
packet_of context id interface moment said block =
    if nat_lt (length block) (said.place + said.captured + 4)
    then Err fault.Length
    else (elim moment [
      | None ↦ Err fault.Moment
      | Some moment ↦ Ok (record {
        interface = numbered context id;
        name = interface.name;
        link = interface.link;
        moment = moment;
        original = said.original;
        bytes = slice_range block said.place (said.place + said.captured);
      })
    ])

-- a moment of 64 bits; the high half comes first in either byte order
abbrev pub moment_at : Endian → (place : ℕ) → List ℕ → ℕ
moment_at order place block = field order place 4 block * 2 ^ 32 + field order (place + 4) 4 block

-- A packet block with its interface and its moment, which stands at 12 in units of that interface. The number of
-- captured bytes is at 20, the original number at 24, and the bytes begin at 28.
unfoldable pub timed_in : ContextState → Endian → (id : ℕ) → List ℕ → Result Captured BlockFault
timed_in context order id block =
    elim (slice_get context.interfaces id) [
      | None ↦ Err fault.Interface
      | Some interface ↦ packet_of context id interface (moment_of interface (moment_at order 12 block))
          (record { place = 28; captured = field order 20 4 block; original = field order 24 4 block }) block
    ]

-- the number of bytes of a packet that an interface with this limit captures; 0 is no limit
abbrev pub limited : (limit original : ℕ) → ℕ
limited limit original = if limit == 0 then original else min limit original

-- A simple packet block. The original number of bytes is at 8, and the bytes of the section's first interface begin at
-- 12. It has no moment, and gets 0.
unfoldable pub simple_in : ContextState → Endian → List ℕ → Result Captured BlockFault
simple_in context order block =
    let original = field order 8 4 block in
    elim (slice_get context.interfaces 0) [
      | None ↦ Err fault.Interface
      | Some interface ↦ packet_of context 0 interface (Some 0)
          (record { place = 12; captured = limited interface.limit original; original = original }) block
    ]

abbrev pub with_packet : ContextState → Result Captured BlockFault → Outcome
with_packet context (Ok packet) = Ok (context, Some packet)
with_packet context (Err f) = Err f

-- The description of an interface, after those of its section, which has at most 1024. All of it is seen.
unfoldable pub described_in : ContextState → Endian → (size : ℕ) → List ℕ → Outcome
described_in context order size block = first_that_holds
    ((nat_lt (length block) 20 || nat_lt most_seen size, Err fault.Length)
    ∷ (not (nat_lt (length context.interfaces) 1024), Err fault.Interfaces)
    ∷ [])
    (Ok (record context { interfaces = context.interfaces ++ (interface_in order (slice_range block 8 (length block - 4)) ∷ []) }, None))

-- a section header in the byte order that it says; what earlier sections record as dropped stays counted
unfoldable pub opened_in : Endian → ContextState → (size : ℕ) → List ℕ → Outcome
opened_in order context size block = first_that_holds
    ((not (is_closed order size block), Err fault.Length) ∷ (not (field order 12 2 block == 1), Err fault.Version) ∷ [])
    (Ok (record { kind = Section order; interfaces = []; earlier = counted_on context.earlier (length context.interfaces); dropped = context.dropped }, None))

-- a section header, whose version begins with 1: a new section without interfaces
unfoldable pub section_in : ContextState → (size : ℕ) → List ℕ → Outcome
section_in context size block =
    if nat_lt (length block) 28
    then Err fault.Length
    else (elim (order_in block) [ None ↦ Err fault.Order | Some order ↦ opened_in order context size block ])

-- a packet block of a section: types 6 and 2, whose interface has 4 bytes and 2, and simple ones
unfoldable pub packet_in : ContextState → Endian → (kind : ℕ) → List ℕ → Result Captured BlockFault
packet_in context order kind block = first_that_holds
    ((nat_lt (length block) 16 || (not (kind == 3) && nat_lt (length block) 32), Err fault.Length)
    ∷ (kind == 6, timed_in context order (field order 8 4 block) block)
    ∷ (kind == 2, timed_in context order (field order 8 2 block) block)
    ∷ [])
    (simple_in context order block)

-- the blocks after a section header, by their types; a block of another type is skipped
unfoldable pub next_in : Endian → ContextState → (size : ℕ) → List ℕ → Outcome
next_in order context size block =
    let kind = field order 0 4 block in first_that_holds
    ((kind == section_type, section_in context size block)
    ∷ (not (is_closed order size block), Err fault.Length)
    ∷ (kind == 1, described_in context order size block)
    ∷ (kind == 6 || (kind == 2 || kind == 3), with_packet (after_packet order kind block context) (packet_in context order kind block))
    ∷ (kind == 5, Ok (after_statistics order block context, None))
    ∷ [])
    (Ok (context, None))

-- The header of a classic capture, which describes its one interface. It has version 2.4, and the link type in the low
-- 16 bits of the last field.
unfoldable pub classic_in : Endian → Fraction → List ℕ → Outcome
classic_in order fraction block = first_that_holds
    ((not (field order 4 2 block == 2 && field order 6 2 block == 4), Err fault.Version) ∷ [])
    (Ok (
      record {
        kind = Classic order fraction;
        interfaces = record { link = field order 20 4 block % 65536; limit = 0; resolution = 0; offset = 0; name = 0; dropped = 0 } ∷ [];
        earlier = 0;
        dropped = 0;
      },
      None,
    ))

-- the first block of a file
unfoldable pub first_in : ContextState → (size : ℕ) → List ℕ → Outcome
first_in context size block =
    if field Big 0 4 block == section_type
    then section_in context size block
    else (elim (form_in block) [ None ↦ Err fault.NoCapture | Some form ↦ classic_in form.0 form.1 block ])

-- the packet of a record of a classic capture
unfoldable pub record_in : Endian → Fraction → ContextState → List ℕ → Result Captured BlockFault
record_in order fraction context block =
    elim (classic_moment fraction (field order 0 4 block) (field order 4 4 block)) [
      | None ↦ Err fault.Moment
      | Some moment ↦ elim (slice_get context.interfaces 0) [
        | None ↦ Err fault.Interface
        | Some interface ↦ Ok (record {
          interface = 0;
          name = interface.name;
          link = interface.link;
          moment = moment;
          original = field order 12 4 block;
          bytes = slice_range block 16 (length block);
        })
      ]
    ]

abbrev pub block_by : Kind → ContextState → (size : ℕ) → List ℕ → Outcome
block_by Start context size block = first_in context size block
block_by (Classic order fraction) context size block = with_packet context (record_in order fraction context block)
block_by (Section order) context size block = next_in order context size block

-- the result of a block of this size, with these bytes seen
abbrev pub seen_in : ContextState → (size : ℕ) → List ℕ → Outcome
seen_in context size block = block_by context.kind context size block

-- the result of a whole block
abbrev pub block_in : ContextState → List ℕ → Outcome
block_in context block = seen_in context (length block) (seen_of block)
