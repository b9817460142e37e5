-- The text written for a file: the classic capture of its packets.
use Rattle.std.specs.Prelude.{◌≡◌, ℕ, true, List, [], length, Option, None, Some, Result, Ok, Err}
use Rattle.std.specs.Io.KnownBytes.{Appends, IsAtEnd}
use Rattle.mq_pcap.specs.Filling.{InputState, Takes}
use Rattle.mq_text.specs.Printing.{GrowsByBeginning}
use Rattle.mq_convert.specs.declared.choice.Choice.{Choice}
use Rattle.mq_convert.specs.declared.counts.ConvertCounts.{ConvertCounts}
use Rattle.mq_convert.specs.declared.fault.BlockFault.{BlockFault}
use Rattle.mq_convert.specs.declared.fault.ConvertFault.{ConvertFault}
use Rattle.mq_convert.specs.declared.fault.ConvertFault.TheVariants as answer
use Rattle.mq_convert.specs.Blocks.{Captured}
use Rattle.mq_convert.specs.Files.{Captures}
use Rattle.mq_convert.specs.Reading.{IsKnownThere}
use Rattle.mq_convert.specs.Records.{packets_of, written_of}
use Rattle.mq_convert.specs.Sieving.{Counts}

-- the input ended as the result says, and records so many dropped packets
abbrev pub IsEndedBy : Choice → (dropped : ℕ) → (blocks : List (Option Captured)) → (end : Option BlockFault) → (bytes : List ℕ) → (old new : InputState) → Result ConvertCounts ConvertFault → Type 0
IsEndedBy choice dropped blocks end bytes old new (Ok counts) =
    (end ≡ None) × IsAtEnd new.ahead × Counts choice (packets_of blocks) counts × (new.failed ≡ old.failed)
    × (counts.dropped ≡ dropped)
IsEndedBy choice dropped blocks end bytes old new (Err answer.Read) = new.failed ≡ true
IsEndedBy choice dropped blocks end bytes old new (Err (answer.Block number f)) =
    (end ≡ Some f) × (number ≡ length blocks) × IsKnownThere f new × (new.failed ≡ old.failed)
IsEndedBy choice dropped blocks end bytes old new (Err answer.Write) = Unit {0}
IsEndedBy choice dropped blocks end bytes old new (Err answer.Memory) = bytes ≡ []

-- the capture was written: all of it, a prefix if a write failed, nothing if an allocation failed
abbrev pub IsWritten : (old new : Option (List ℕ)) → List ℕ → Result ConvertCounts ConvertFault → Type 0
IsWritten old new text (Err answer.Write) = GrowsByBeginning old new text
IsWritten old new text (Err answer.Memory) = Appends old new []
IsWritten old new text r = Appends old new text

-- A file was converted. The bytes that were taken from the input, as a whole file, are a capture of these blocks. The
-- classic capture of their packets was written, or nothing if there is no block. Unless a read, a write or an
-- allocation failed, these bytes are the whole file, or a prefix up to a fault that later bytes don't change.
pub record Converts (choice : Choice) (old new : InputState) (before after : Option (List ℕ)) (r : Result ConvertCounts ConvertFault) : Type 0 where
  pub bytes : List ℕ
  pub blocks : List (Option Captured)
  pub end : Option BlockFault
  pub takes : Takes old new bytes
  pub capture : Captures bytes blocks end
  pub ended : IsEndedBy choice capture.context.dropped blocks end bytes old new r
  pub written : IsWritten before after (written_of choice blocks) r
