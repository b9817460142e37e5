-- The result of reading the next block of a file.
use Rattle.std.specs.Prelude.{◌≡◌, ◌⊎◌, ℕ, ◌<◌, ◌≤◌, ◌||◌, min, true, false, List, [], length, take, Option, None, Some, Result, Ok, Err}
use Rattle.std.specs.Io.KnownBytes.{IsAtEnd}
use Rattle.mq_pcap.specs.Filling.{InputState, Takes}
use Rattle.mq_convert.specs.declared.context.Kind.{Kind}
use Rattle.mq_convert.specs.declared.fault.BlockFault.{BlockFault}
use Rattle.mq_convert.specs.declared.fault.ConvertFault.{ConvertFault}
use Rattle.mq_convert.specs.declared.fault.ConvertFault.TheVariants as answer
use Rattle.mq_convert.specs.Faults.{is_cut, is_failed_read}
use Rattle.mq_convert.specs.Files.{endless, outer_fault}
use Rattle.mq_convert.specs.Sizes.{IsWhole, head_size, is_start, least_size, most_seen, seen_of, size_of}

-- a truncated block is known only at the end of the file; every other fault holds whatever follows
abbrev pub IsKnownThere : BlockFault → InputState → Type 0
IsKnownThere f new = is_cut f ≡ true → IsAtEnd new.ahead

-- these bytes are less than a block
abbrev pub IsBegun : Kind → List ℕ → Type 0
IsBegun kind bytes =
    (length bytes < head_size kind)
    ⊎ ((size : ℕ) × (head_size kind ≤ length bytes) × (size_of kind bytes ≡ Ok size) × (length bytes < size))

-- The result for the bytes that were read at the block of this number. The seen part of a whole block is the front of
-- the buffer.
abbrev pub IsNext : Kind → (number : ℕ) → InputState → (buffer bytes : List ℕ) → Result (Option ℕ) ConvertFault → Type 0
IsNext kind number new buffer bytes (Ok None) = (bytes ≡ []) × (is_start kind ≡ false) × IsAtEnd new.ahead
IsNext kind number new buffer bytes (Ok (Some size)) =
    (number < endless) × (seen_of bytes ≡ take (min size most_seen) buffer) × (length bytes ≡ size)
    × (most_seen ≤ length buffer) × (least_size kind ≤ size) × IsWhole kind bytes
IsNext kind number new buffer bytes (Err answer.Read) = IsBegun kind bytes
IsNext kind number new buffer bytes (Err (answer.Block n f)) =
    (n ≡ number) × (outer_fault number kind bytes ≡ Some f) × IsKnownThere f new
IsNext kind number new buffer bytes (Err answer.Write) = ⊥
IsNext kind number new buffer bytes (Err answer.Memory) = ⊥

-- a block was read, or the end or a fault was met
pub record NextBlock (kind : Kind) (number : ℕ) (old new : InputState) (buffer : List ℕ)
    (answer : Result (Option ℕ) ConvertFault) : Type 0 where
  pub bytes : List ℕ
  pub takes : Takes old new bytes
  pub answers : IsNext kind number new buffer bytes answer
  pub failed : new.failed ≡ (old.failed || is_failed_read answer)
