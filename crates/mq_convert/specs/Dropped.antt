-- The packets that a file records as dropped: each was lost before it was captured.
use Rattle.std.specs.Prelude.{ℕ, ◌+◌, ◌-◌, min, nat_lt, ◌&&◌, ◌==◌, if◌then◌else◌, List, [], ◌∷◌, length, slice_get, slice_range, slice_set, None, Some}
use Rattle.mq_count.specs.Streams.{counted_on}
use Rattle.mq_pcap.specs.declared.form.Endian.{Endian}
use Rattle.mq_pcap.specs.Capture.{field}
use Rattle.mq_pcap.specs.Tests.{first_that_holds}
use Rattle.mq_convert.specs.Contexts.{ContextState}
use Rattle.mq_convert.specs.Interfaces.{DescribedOption, filled_up, options_of, quad_word}

-- the number of an option with this code and eight bytes; of another option the number so far
unfoldable pub number_with : Endian → (code number : ℕ) → DescribedOption → ℕ
number_with order code number option = if option.0 == code && length option.1 == 8 then quad_word order option.1 else number

abbrev pub number_after : Endian → (code number : ℕ) → List DescribedOption → ℕ
number_after order code number [] = number
number_after order code number (option ∷ options) = number_after order code (number_with order code number option) options

-- the number in the last option with this code and eight bytes, or 0 if there is none
abbrev pub number_option : Endian → (code : ℕ) → List ℕ → ℕ
number_option order code bytes = number_after order code 0 (options_of order bytes)

-- the context after an interface of the section, if it was described, dropped so many packets more
unfoldable pub with_dropped : (id more : ℕ) → ContextState → ContextState
with_dropped id more context =
    elim (slice_get context.interfaces id) [
      | None ↦ context
      | Some interface ↦ record context {
        interfaces = slice_set context.interfaces id (record interface { dropped = counted_on interface.dropped more });
        dropped = counted_on context.dropped more;
      }
    ]

-- The drop count of an enhanced packet block, in option 4 (`epb_dropcount`). Options come after the captured bytes,
-- which begin at 28 and are filled up.
unfoldable pub enhanced_count : Endian → List ℕ → ℕ
enhanced_count order block =
    let end = length block - 4 in
    number_option order 4 (slice_range block (min end (filled_up (28 + field order 20 4 block))) end)

-- the drop count of an obsolete packet block, at 10; 65535 says that it is not known
unfoldable pub obsolete_count : Endian → List ℕ → ℕ
obsolete_count order block = if field order 10 2 block == 65535 then 0 else field order 10 2 block

-- A packet block adds its drop count to the packets that its interface dropped. A simple
-- one, or a block of fewer than 32 bytes, has no count.
unfoldable pub after_packet : Endian → (kind : ℕ) → List ℕ → ContextState → ContextState
after_packet order kind block context = first_that_holds
    ((nat_lt (length block) 32, context)
    ∷ (kind == 6, with_dropped (field order 8 4 block) (enhanced_count order block) context)
    ∷ (kind == 2, with_dropped (field order 8 2 block) (obsolete_count order block) context)
    ∷ [])
    context

-- an interface of the section, if it was described, dropped at least so many packets
unfoldable pub with_least : (id least : ℕ) → ContextState → ContextState
with_least id least context =
    elim (slice_get context.interfaces id) [ None ↦ context | Some interface ↦ with_dropped id (least - interface.dropped) context ]

-- Interface statistics, which count from the start of the capture. The interface is at 8, and options begin at 20. They
-- raise its dropped packets to those of options 5 (`isb_ifdrop`) and 7 (`isb_osdrop`), by the interface and the system.
unfoldable pub after_statistics : Endian → List ℕ → ContextState → ContextState
after_statistics order block context =
    let options = slice_range block 20 (length block - 4) in
    if nat_lt (length block) 24
    then context
    else with_least (field order 8 4 block) (counted_on (number_option order 5 options) (number_option order 7 options)) context
