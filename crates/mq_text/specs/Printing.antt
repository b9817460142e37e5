-- Printing of a text on a writer whose bytes may be known.
use Rattle.std.specs.Prelude.{◌≡◌, ℕ, ◌<◌, Bool, List, ◌++◌, length, Option, Result, Ok, Err}
use Rattle.std.specs.Io.KnownBytes.{Appends}
use Rattle.mq_count.specs.declared.streams.Watched.{Watched}
use Rattle.mq_count.specs.Streams.{inner_of, has_failed}

-- an output: the bytes that it holds, if they are known, and whether a call failed
pub record OutputState : Type 0 where
  pub held : Option (List ℕ)
  pub failed : Bool

-- the output of a watched writer, whose inner stream has the bytes ‘contents’
abbrev pub output_of : {W : Type 0} → (contents : W → Option (List ℕ)) → Watched W → OutputState
output_of contents writer = record { held = contents (inner_of writer); failed = has_failed writer }

-- old has grown by a prefix of the text, but not by the whole text
pub record GrowsByBeginning (old new : Option (List ℕ)) (text : List ℕ) : Type 0 where
  pub written : List ℕ
  pub left : List ℕ
  pub parts : text ≡ written ++ left
  pub some_left : 0 < length left
  pub grows : Appends old new written

-- the text was printed, or a prefix of it before a fault
abbrev pub Prints : {T E : Type 0} → Option (List ℕ) → Option (List ℕ) → List ℕ → Result T E → Type 0
Prints old new text (Ok x) = Appends old new text
Prints old new text (Err e) = GrowsByBeginning old new text

-- A text went to a writer through a buffer. A prefix of the buffer's old contents and the text was written. The buffer
-- holds the rest.
pub record Passes (old new : Option (List ℕ)) (held left text : List ℕ) : Type 0 where
  pub written : List ℕ
  pub parts : held ++ text ≡ written ++ left
  pub grows : Appends old new written

-- the text went there, or a prefix of everything was written before a fault
abbrev pub Puts : {T E : Type 0} → (old new : Option (List ℕ)) → (held left text : List ℕ) → Result T E → Type 0
Puts old new held left text (Ok x) = Passes old new held left text
Puts old new held left text (Err e) = GrowsByBeginning old new (held ++ text)
