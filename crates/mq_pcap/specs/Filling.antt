-- Bytes read from a stream.
use Rattle.std.specs.Prelude.{◌≡◌, ℕ, ◌<◌, ◌≤◌, ◌||◌, Bool, is_err, List, length, take, Option, Result, Ok, Err}
use Rattle.std.specs.Io.KnownBytes.{Consumes, IsAtEnd}
use Rattle.mq_count.specs.declared.streams.Watched.{Watched}
use Rattle.mq_count.specs.Streams.{inner_of, has_failed, taken_from, counted_on}

-- An input stream. It has the remaining bytes, if they are known, the number of bytes read, and whether a call failed.
pub record InputState : Type 0 where
  pub ahead : Option (List ℕ)
  pub taken : ℕ
  pub failed : Bool

-- the input of a watched reader, whose inner stream has the remaining bytes ‘remaining’
abbrev pub input_of : {R : Type 0} → (remaining : R → Option (List ℕ)) → Watched R → InputState
input_of remaining reader =
    record { ahead = remaining (inner_of reader); taken = taken_from reader; failed = has_failed reader }

-- from old to new these bytes were read
pub record Takes (old new : InputState) (bytes : List ℕ) : Type 0 where
  pub ahead : Consumes old.ahead new.ahead bytes
  pub taken : new.taken ≡ counted_on old.taken (length bytes)

-- The result of filling a buffer. `Ok n`: its first n bytes are those read, and fewer than its length only at the end
-- of the stream. An error: the stream failed before the buffer was full.
abbrev pub FillsWith : {E : Type 0} → InputState → (buffer bytes : List ℕ) → Result ℕ E → Type 0
FillsWith new buffer bytes (Ok n) =
    (bytes ≡ take n buffer) × (n ≤ length buffer) × (n < length buffer → IsAtEnd new.ahead)
FillsWith new buffer bytes (Err e) = length bytes < length buffer

pub record Fills {E : Type 0} (old new : InputState) (buffer : List ℕ) (answer : Result ℕ E) : Type 0 where
  pub bytes : List ℕ
  pub takes : Takes old new bytes
  pub fills : FillsWith new buffer bytes answer
  pub failed : new.failed ≡ (old.failed || is_err answer)
