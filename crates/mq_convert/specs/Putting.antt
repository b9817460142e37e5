-- The results of the parts of a conversion that go to a writer through a buffer.
use Rattle.std.specs.Prelude.{◌≡◌, ℕ, false, List, ◌++◌, Option, None, Some, Result, Ok, Err, option_to_list}
use Rattle.std.specs.List.{flat_map}
use Rattle.mq_pcap.specs.Filling.{InputState, Takes}
use Rattle.mq_text.specs.Printing.{GrowsByBeginning, Passes}
use Rattle.mq_convert.specs.declared.choice.Choice.{Choice}
use Rattle.mq_convert.specs.declared.counts.ConvertCounts.{ConvertCounts}
use Rattle.mq_convert.specs.declared.fault.BlockFault.{BlockFault}
use Rattle.mq_convert.specs.declared.fault.ConvertFault.{ConvertFault}
use Rattle.mq_convert.specs.declared.fault.ConvertFault.TheVariants as answer
use Rattle.mq_convert.specs.declared.packet.Packet.{Packet}
use Rattle.mq_convert.specs.Blocks.{Captured, IsHeldWithin, captured_of, seen_in}
use Rattle.mq_convert.specs.Contexts.{ContextState}
use Rattle.mq_convert.specs.Converting.{IsEndedBy}
use Rattle.mq_convert.specs.Faults.{is_cut}
use Rattle.mq_convert.specs.Files.{Captures}
use Rattle.mq_convert.specs.Records.{record_of, start_of, written_of}
use Rattle.mq_convert.specs.Repeats.{Gone, going_out}

-- a packet that the code found in a block, if it found one
abbrev pub held_of : List ℕ → Option Packet → Option Captured
held_of block None = None
held_of block (Some packet) = Some (captured_of block packet)

-- a block of this size was read, with these bytes seen: its content, or its fault
abbrev pub ReadsBlock : (number : ℕ) → (old new : ContextState) → (size : ℕ) → List ℕ → Result (Option Packet) ConvertFault → Type 0
ReadsBlock number old new size block (Ok held) =
    (seen_in old size block ≡ Ok (new, held_of block held)) × IsHeldWithin block (Ok held)
ReadsBlock number old new size block (Err (answer.Block n f)) =
    (n ≡ number) × (seen_in old size block ≡ Err f) × (is_cut f ≡ false)
ReadsBlock number old new size block (Err answer.Read) = ⊥
ReadsBlock number old new size block (Err answer.Write) = ⊥
ReadsBlock number old new size block (Err answer.Memory) = ⊥

-- the records of a block's content, after these packets went out
abbrev pub records_of : Choice → List Gone → Option Captured → List ℕ
records_of choice gone held = flat_map (record_of choice) (going_out choice gone (option_to_list held))

-- the text of the block of this number
abbrev pub block_text : Choice → List Gone → (number : ℕ) → Option Captured → List ℕ
block_text choice gone number held = start_of number ++ records_of choice gone held

-- the capture was put, or a prefix of it was written if a write failed
abbrev pub IsPut : (old new : Option (List ℕ)) → (held left text : List ℕ) → Result ConvertCounts ConvertFault → Type 0
IsPut old new held left text (Err answer.Write) = GrowsByBeginning old new (held ++ text)
IsPut old new held left text r = Passes old new held left text

-- the capture of the packets of a file was put
pub record PutsCapture (choice : Choice) (old new : InputState) (before after : Option (List ℕ)) (held left : List ℕ) (r : Result ConvertCounts ConvertFault) : Type 0 where
  pub bytes : List ℕ
  pub blocks : List (Option Captured)
  pub end : Option BlockFault
  pub takes : Takes old new bytes
  pub capture : Captures bytes blocks end
  pub ended : IsEndedBy choice capture.context.dropped blocks end bytes old new r
  pub put : IsPut before after held left (written_of choice blocks) r
