-- Streams before and after the program's use of them.
use Rattle.std.specs.Prelude.{◌≡◌, ◌⊎◌, ℕ, true, List, Option}
use Rattle.std.specs.Io.KnownBytes.{Appends}
use Rattle.mq_count.specs.declared.streams.Watched.{Watched}
use Rattle.mq_pcap.specs.Filling.{InputState, input_of}
use Rattle.mq_text.specs.Printing.{GrowsByBeginning, OutputState, output_of}

-- a stream that is read, before and after
pub record Input : Type 0 where
  pub old : InputState
  pub new : InputState

-- a stream that is written, before and after
pub record Output : Type 0 where
  pub old : OutputState
  pub new : OutputState

-- the changes of watched streams
abbrev pub input_by : {R : Type 0} → (remaining : R → Option (List ℕ)) → (old new : Watched R) → Input
input_by remaining old new = record { old = input_of remaining old; new = input_of remaining new }

abbrev pub output_by : {W : Type 0} → (contents : W → Option (List ℕ)) → (old new : Watched W) → Output
output_by contents old new = record { old = output_of contents old; new = output_of contents new }

-- the text was written, and no call failed
abbrev pub Writes : Output → (text : List ℕ) → Type 0
Writes output text = Appends output.old.held output.new.held text × (output.new.failed ≡ output.old.failed)

-- A call failed. A prefix of the text was written, or all of it if the flush failed.
abbrev pub BreaksOff : Output → (text : List ℕ) → Type 0
BreaksOff output text =
    (Appends output.old.held output.new.held text ⊎ GrowsByBeginning output.old.held output.new.held text)
    × (output.new.failed ≡ true)
