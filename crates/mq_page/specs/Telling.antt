-- The result of a call for the page.
use Rattle.std.specs.Prelude.{◌≡◌, ℕ, min, nat_lt, Bool, true, false, ◌&&◌, List, ◌++◌, length, take, drop, Result, Ok, Err, if◌then◌else◌}
use Rattle.mq_page.specs.declared.answer.Answer.{Answer}
use Rattle.mq_page.specs.declared.page_fault.PageFault.{PageFault}
use Rattle.mq_page.specs.declared.page_fault.PageFault.TheVariants.{Full, Memory, Capture, Gap, Waiting, ConversionRead, Conversion, UntilTooLarge, Configuration, NothingJudged}
use Rattle.mq_page.specs.Statuses as spec

-- a text at the front of memory, as far as there is room for it; the memory after it is unchanged
abbrev pub in_front : (text old : List ℕ) → List ℕ
in_front text old = take (length old) text ++ drop (length text) old

-- something didn't fit
abbrev pub is_full : Result ℕ PageFault → Bool
is_full (Ok count) = false
is_full (Err Full) = true
is_full (Err Memory) = false
is_full (Err (Capture f)) = false
is_full (Err (Gap number)) = false
is_full (Err (Waiting number)) = false
is_full (Err ConversionRead) = false
is_full (Err (Conversion number f)) = false
is_full (Err UntilTooLarge) = false
is_full (Err (Configuration f)) = false
is_full (Err (NothingJudged why)) = false

-- The outcome for the page, by the bytes of the text and the room. If the text is longer than the room, the outcome is
-- that, whatever it was. If something didn't fit though there was room, memory ran out.
abbrev pub fitted : (outcome : Result ℕ PageFault) → (written room : ℕ) → Result ℕ PageFault
fitted outcome written room =
    if nat_lt room written
    then Err Full
    else if is_full outcome && nat_lt written room then Err Memory else outcome

abbrev pub status_of : Result ℕ PageFault → ℕ
status_of (Ok count) = 0
status_of (Err fault) = spec.status_of fault

abbrev pub number_of : Result ℕ PageFault → ℕ
number_of (Ok count) = count
number_of (Err fault) = spec.number_of fault

-- The text stands at the front of the page's memory, as far as there is room, and the answer has the outcome.
pub record IsTold (outcome : Result ℕ PageFault) (text old new : List ℕ) (answer : Answer) : Type 0 where
  pub stands : new ≡ in_front text old
  pub written : answer.written ≡ min (length old) (length text)
  pub status : answer.status ≡ status_of (fitted outcome (length text) (length old))
  pub number : answer.number ≡ number_of (fitted outcome (length text) (length old))
