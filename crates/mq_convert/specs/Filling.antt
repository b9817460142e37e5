-- The filling of a part of a buffer, the skipping of bytes, and the filling of the seen part of a block.
use Rattle.std.specs.Prelude.{◌≡◌, ℕ, ◌+◌, ◌<◌, ◌≤◌, ◌||◌, is_err, min, List, ◌++◌, length, take, Result, Ok, Err}
use Rattle.std.specs.Io.KnownBytes.{IsAtEnd}
use Rattle.mq_pcap.specs.Filling.{InputState, Takes}
use Rattle.mq_convert.specs.Sizes.{most_seen, seen_of}

-- The result of filling a part of a buffer. `Ok n`: the buffer's first n bytes are its first ones from before and those
-- that were read. There are fewer than asked for only at the end of the stream. An error: the stream failed before they
-- were all there.
abbrev pub FillsTo : {E : Type 0} → InputState → (before buffer : List ℕ) → (from to : ℕ) → (bytes : List ℕ) → Result ℕ E → Type 0
FillsTo new before buffer from to bytes (Ok n) =
    (take n buffer ≡ take from before ++ bytes) × (n ≡ from + length bytes) × (n ≤ to) × (n < to → IsAtEnd new.ahead)
FillsTo new before buffer from to bytes (Err e) = from + length bytes < to

pub record FillsFrom {E : Type 0} (old new : InputState) (before buffer : List ℕ) (from to : ℕ) (answer : Result ℕ E) : Type 0 where
  pub bytes : List ℕ
  pub takes : Takes old new bytes
  pub fills : FillsTo new before buffer from to bytes answer
  pub failed : new.failed ≡ (old.failed || is_err answer)
  pub size : length buffer ≡ length before

-- The result of skipping bytes. `Ok n`: the bytes read after the first bytes of a block make it n, which is less than
-- `to` only at the end of the stream. An error: the stream failed before.
abbrev pub PassesTo : {E : Type 0} → InputState → (from to : ℕ) → (bytes : List ℕ) → Result ℕ E → Type 0
PassesTo new from to bytes (Ok n) = (n ≡ from + length bytes) × (n ≤ to) × (n < to → IsAtEnd new.ahead)
PassesTo new from to bytes (Err e) = from + length bytes < to

pub record PassesOver {E : Type 0} (old new : InputState) (from to : ℕ) (answer : Result ℕ E) : Type 0 where
  pub bytes : List ℕ
  pub takes : Takes old new bytes
  pub passes : PassesTo new from to bytes answer
  pub failed : new.failed ≡ (old.failed || is_err answer)

-- if all of a block was read, its seen part is the front of the buffer
abbrev pub ShowsAt : {E : Type 0} → (before buffer : List ℕ) → (from to : ℕ) → (bytes : List ℕ) → Result ℕ E → Type 0
ShowsAt before buffer from to bytes (Ok n) =
    n ≡ to → seen_of (take from before ++ bytes) ≡ take (min to most_seen) buffer
ShowsAt before buffer from to bytes (Err e) = Unit {0}

-- the rest of a block of `to` bytes was read, whose first bytes stand in the buffer
pub record FillsSeen {E : Type 0} (old new : InputState) (before buffer : List ℕ) (from to : ℕ) (answer : Result ℕ E) : Type 0 where
  pub bytes : List ℕ
  pub takes : Takes old new bytes
  pub passes : PassesTo new from to bytes answer
  pub shows : ShowsAt before buffer from to bytes answer
  pub failed : new.failed ≡ (old.failed || is_err answer)
  pub size : length buffer ≡ length before
