-- The laws of conversions.
use Rattle.std.specs.Prelude.{◌≡◌, ℕ, ◌<◌, ◌&&◌, Bool, true, false, List, [], ◌++◌, drop, Option, None, Some, Result, Ok, Err, IsOk}
use Rattle.std.specs.Io.KnownBytes.{Appends}
use Rattle.std.specs.List.{All, list_any}
use Rattle.mq_pcap.specs.Capture as pcap
use Rattle.mq_pcap.specs.Filling.{InputState}
use Rattle.mq_convert.specs.declared.choice.Choice.{Choice}
use Rattle.mq_convert.specs.declared.counts.ConvertCounts.{ConvertCounts}
use Rattle.mq_convert.specs.declared.fault.BlockFault.{BlockFault}
use Rattle.mq_convert.specs.declared.fault.ConvertFault.{ConvertFault}
use Rattle.mq_convert.specs.declared.fault.ConvertFault.TheVariants as answer
use Rattle.mq_convert.specs.Blocks.{Captured}
use Rattle.mq_convert.specs.Converting.{Converts}
use Rattle.mq_convert.specs.Faults.{is_cut}
use Rattle.mq_convert.specs.Files.{Captures}
use Rattle.mq_convert.specs.Choices.{is_chosen_packet}
use Rattle.mq_convert.specs.Records.{written_of}
use Rattle.mq_convert.specs.Repeats.{Gone, frame_out, going_out, is_again, left_out}
use Rattle.mq_laws.specs.PlainCaptures.{ArePlain, everything, looked_at, plain}

-- a file is one capture: the content of its blocks, its end, and the context there, with the packets that it records as
-- dropped
abbrev pub OneFile : Type 0
OneFile =
    (bytes : List ℕ) (blocks blocks' : List (Option Captured)) (end end' : Option BlockFault)
    → (a : Captures bytes blocks end) → (b : Captures bytes blocks' end')
    → (blocks ≡ blocks') × (end ≡ end') × (a.context ≡ b.context)

-- a fault of a prefix of a file, except for a truncated block, is a fault of the whole file
abbrev pub FaultsStay : Type 0
FaultsStay =
    (bytes more : List ℕ) (blocks : List (Option Captured)) (f : BlockFault)
    → Captures bytes blocks (Some f) → is_cut f ≡ false → Captures (bytes ++ more) blocks (Some f)

-- A classic capture of Ethernet in nanoseconds without tags is written unchanged. Only the snap length and the fields
-- of its header that nobody reads can differ.
abbrev pub AsItWas : Type 0
AsItWas =
    (bytes : List ℕ) (packets : List pcap.Captured) (blocks : List (Option Captured)) (end : Option BlockFault)
    → All (λ byte. byte < 256) bytes → (is : pcap.Captures bytes (Ok plain) packets None) → ArePlain 1 (drop 24 bytes) packets is.1
    → Captures bytes blocks end
    → (end ≡ None) × (written_of everything blocks ≡ looked_at bytes ++ drop 24 bytes)

-- an answer that tells what the file is: it was converted to its end, or a block has a fault
abbrev pub TellsOfFile : Result ConvertCounts ConvertFault → Type 0
TellsOfFile (Ok counts) = Unit {0}
TellsOfFile (Err (answer.Block number f)) = Unit {0}
TellsOfFile (Err answer.Read) = ⊥
TellsOfFile (Err answer.Write) = ⊥
TellsOfFile (Err answer.Memory) = ⊥

-- two conversions of a file find the same packets, and the same end
abbrev pub OneConversion : Type 0
OneConversion =
    (choice choice' : Choice) (old new old' new' : InputState) (before after before' after' : Option (List ℕ))
    (r r' : Result ConvertCounts ConvertFault) (file : List ℕ)
    → old.ahead ≡ Some file → old'.ahead ≡ Some file → TellsOfFile r → TellsOfFile r'
    → (c : Converts choice old new before after r) → (d : Converts choice' old' new' before' after' r')
    → (c.blocks ≡ d.blocks) × (c.end ≡ d.end)

-- a file that is written unchanged is converted to its end, and these bytes are written
abbrev pub WrittenAsItWas : Type 0
WrittenAsItWas =
    (bytes : List ℕ) (packets : List pcap.Captured) (old new : InputState) (before after : Option (List ℕ))
    (r : Result ConvertCounts ConvertFault)
    → All (λ byte. byte < 256) bytes → (is : pcap.Captures bytes (Ok plain) packets None) → ArePlain 1 (drop 24 bytes) packets is.1
    → old.ahead ≡ Some bytes → Converts everything old new before after r → TellsOfFile r
    → IsOk r × Appends before after (looked_at bytes ++ drop 24 bytes)

-- if packets may go out again, all do
abbrev pub AllGoOut : Type 0
AllGoOut = (choice : Choice) (packets : List Captured) → choice.once ≡ false → going_out choice [] packets ≡ packets

-- leaving out repeated packets twice has the effect of doing it once
abbrev pub OnceIsEnough : Type 0
OnceIsEnough = (choice : Choice) (packets : List Captured) → going_out choice [] (going_out choice [] packets) ≡ going_out choice [] packets

-- a packet that went out, as it is compared
abbrev pub as_gone : Captured → Gone
as_gone packet = record { moment = packet.moment; frame = frame_out packet }

-- one of these packets is written, has the frame of this one, and is at most 5 ms away
abbrev pub is_written_soon : Choice → List Captured → Captured → Bool
is_written_soon choice packets packet = list_any (λ kept. is_chosen_packet choice kept && is_again packet.moment (frame_out packet) (as_gone kept)) packets

-- each packet that is left out has its frame written soon
abbrev pub NothingLost : Type 0
NothingLost =
    (choice : Choice) (packets : List Captured)
    → All (λ packet. is_written_soon choice (going_out choice [] packets) packet ≡ true) (left_out choice [] packets)
