-- A file of blocks, one after another. After them it ends, or the next block has a fault.
use Rattle.std.specs.Prelude.{◌≡◌, ◌⊎◌, ℕ, ◌<◌, ◌≤◌, nat_lt, false, not, ◌&&◌, if◌then◌else◌, List, [], ◌∷◌, ◌++◌, length, Option, None, Some, Result, Ok, Err}
use Rattle.mq_pcap.specs.Tests.{first_that_holds}
use Rattle.mq_convert.specs.declared.context.Kind.{Kind}
use Rattle.mq_convert.specs.declared.fault.BlockFault.{BlockFault}
use Rattle.mq_convert.specs.declared.fault.BlockFault.TheVariants as fault
use Rattle.mq_convert.specs.Blocks.{Captured, block_in}
use Rattle.mq_convert.specs.Contexts.{ContextState, at_start}
use Rattle.mq_convert.specs.Sizes.{IsWhole, head_size, is_start, size_of}

-- These bytes are blocks with this content, in order. The context is that of the next block.
abbrev pub AreBlocks : ContextState → List ℕ → List (Option Captured) → ContextState → Type 0
AreBlocks context bytes [] after = (bytes ≡ []) × (after ≡ context)
AreBlocks context bytes (held ∷ blocks) after =
    (first : List ℕ) × (rest : List ℕ) × (mid : ContextState) × (bytes ≡ first ++ rest) × IsWhole context.kind first
    × (block_in context first ≡ Ok (mid, held)) × AreBlocks mid rest blocks after

-- the first block number that no capture may have
abbrev pub endless : ℕ
endless = 4294967296

-- the fault of a block with this size, if it is known, and with `there` bytes to the end of the file
abbrev pub size_fault : Result ℕ BlockFault → (there : ℕ) → Option BlockFault
size_fault (Err f) there = Some f
size_fault (Ok size) there = if nat_lt there size then Some fault.Cut else None

-- The outer fault of the block of this number, which begins these bytes up to the end of the file. It is one too many,
-- truncated, or of an impossible size. The first block of a file must be there.
unfoldable pub outer_fault : (number : ℕ) → Kind → List ℕ → Option BlockFault
outer_fault number kind bytes = first_that_holds
    ((nat_lt (length bytes) 1 && not (is_start kind), None)
    ∷ (not (nat_lt number endless), Some fault.Endless)
    ∷ (nat_lt (length bytes) (head_size kind), Some fault.Cut)
    ∷ [])
    (size_fault (size_of kind bytes) (length bytes))

-- a whole block stands there, and its content has the fault
abbrev pub IsInnerFault : (number : ℕ) → ContextState → List ℕ → BlockFault → Type 0
IsInnerFault number context bytes f =
    (first : List ℕ) × (rest : List ℕ) × (bytes ≡ first ++ rest) × (number < endless) × IsWhole context.kind first
    × (block_in context first ≡ Err f)

-- the file ends here, or the block has the fault
abbrev pub EndsBy : (number : ℕ) → ContextState → List ℕ → Option BlockFault → Type 0
EndsBy number context bytes None = (bytes ≡ []) × (is_start context.kind ≡ false)
EndsBy number context bytes (Some f) =
    (outer_fault number context.kind bytes ≡ Some f) ⊎ IsInnerFault number context bytes f

-- A whole file is a capture of these blocks. It ends with the file, or with the fault `end` of the block after them.
pub record Captures (bytes : List ℕ) (blocks : List (Option Captured)) (end : Option BlockFault) : Type 0 where
  pub front : List ℕ
  pub rest : List ℕ
  pub context : ContextState
  pub parts : bytes ≡ front ++ rest
  pub are_blocks : AreBlocks at_start front blocks context
  pub few : length blocks ≤ endless
  pub ends : EndsBy (length blocks) context rest end
