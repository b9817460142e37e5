-- The text, and the line, of a message's bytes.
use Rattle.std.specs.Prelude.{◌≡◌, ℕ, Bool, true, false, List, ◌++◌, Option, Some, Result, Ok, Err}
use Rattle.std.specs.Io.KnownBytes.{Appends}
use Rattle.mq_wire.specs.declared.message.Message.{Message}
use Rattle.mq_wire.specs.declared.message.WireFault.{WireFault}
use Rattle.mq_wire.specs.Family.{Family}
use Rattle.mq_wire.specs.Spelling.{Spells, fault_of}
use Rattle.mq_text.specs.Printing.{GrowsByBeginning, Passes}
use Rattle.mq_lines.specs.Messages.{message_in, fault_in}
use Rattle.mq_lines.specs.Text.{line_of}

-- The text of bytes after a pseudo-header: that of the message that they encode, otherwise that of their fault. The flag
-- is true for a message. The text is an object of JSON if `json` is true.
abbrev pub IsTextOf : (json : Bool) → Family → (pseudo bytes : List ℕ) → Bool → List ℕ → Type 0
IsTextOf json family pseudo bytes true text =
    (message : Message ℕ) × Spells family pseudo bytes message × (text ≡ message_in json family message)
IsTextOf json family pseudo bytes false text =
    (fault : WireFault) × (fault_of family pseudo bytes ≡ Some fault) × (text ≡ fault_in json fault)

-- the line of the bytes
abbrev pub IsLineIn : (json : Bool) → Family → (pseudo bytes : List ℕ) → Bool → List ℕ → Type 0
IsLineIn json family pseudo bytes flag line =
    (text : List ℕ) × IsTextOf json family pseudo bytes flag text × (line ≡ line_of text)

-- the line was printed and its flag returned, or a prefix of it was printed before a fault
abbrev pub Answers : {E : Type 0} → Option (List ℕ) → Option (List ℕ) → Bool → List ℕ → Result Bool E → Type 0
Answers old new flag line (Ok answer) = (answer ≡ flag) × Appends old new line
Answers old new flag line (Err e) = GrowsByBeginning old new line

-- the same for the line of these bytes
pub record PrintsLineIn {E : Type 0} (json : Bool) (old new : Option (List ℕ)) (family : Family) (pseudo bytes : List ℕ) (answer : Result Bool E) : Type 0 where
  pub flag : Bool
  pub line : List ℕ
  pub is_line : IsLineIn json family pseudo bytes flag line
  pub printed : Answers old new flag line answer

-- the same for a text through a buffer
abbrev pub AnswersBy : {E : Type 0} → (old new : Option (List ℕ)) → (held left : List ℕ) → Bool → List ℕ → Result Bool E → Type 0
AnswersBy old new held left flag text (Ok answer) = (answer ≡ flag) × Passes old new held left text
AnswersBy old new held left flag text (Err e) = GrowsByBeginning old new (held ++ text)

pub record PutsText {E : Type 0} (json : Bool) (old new : Option (List ℕ)) (held left : List ℕ) (family : Family) (pseudo bytes : List ℕ) (answer : Result Bool E) : Type 0 where
  pub flag : Bool
  pub text : List ℕ
  pub is_text : IsTextOf json family pseudo bytes flag text
  pub put : AnswersBy old new held left flag text answer
