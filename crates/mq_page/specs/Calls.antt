-- The results of the calls. Each call writes the part of its text after the first `skip` bytes. `memory` is the number of
-- bytes for its work and the text.
use Rattle.std.specs.Prelude.{false, ◌≡◌, ◌⊎◌, ℕ, ◌+◌, ◌<◌, ◌≤◌, Bool, true, List, [], length, drop, Option, Some, Result, Ok, Err}
use denote.RattleType.{RattleType}
use Rattle.mq_arena.specs.Blocks.{size_of_block}
use Rattle.mq_walk.specs.Faults.{is_granted}
use Rattle.mq_walk.specs.declared.capture_fault.CaptureFault.{CaptureFault}
use Rattle.mq_check.specs.declared.check_terms.CheckTerms.{CheckTerms}
use Rattle.mq_check.specs.declared.totals.Totals.{Totals}
use Rattle.mq_check.specs.CheckedCaptures.{Checks}
use Rattle.mq_convert.specs.declared.choice.Choice.{Choice}
use Rattle.mq_convert.specs.Converting.{Converts}
use Rattle.mq_convert.specs.Faults as conversion
use Rattle.mq_link.specs.Configuration.{Configuration}
use Rattle.mq_link.specs.Counters.{Counters}
use Rattle.mq_pcap.specs.Filling.{InputState}
use Rattle.mq_replay.specs.declared.asked.Asked.{Asked}
use Rattle.mq_replay.specs.Listing.{Shows}
use Rattle.mq_replay.specs.Replaying.{Replays}
use Rattle.mq_page.specs.declared.answer.Answer.{Answer}
use Rattle.mq_page.specs.declared.page_fault.PageFault.{PageFault}
use Rattle.mq_page.specs.declared.page_fault.PageFault.TheVariants.{Memory}
use Rattle.mq_page.specs.Asked.{IsAccepted, IsRefused}
use Rattle.mq_page.specs.Faults.{concluded, of_capture, of_conversion, outcome_of, shown}
use Rattle.mq_page.specs.Sizes.{bytes_to_check, bytes_to_convert, bytes_to_replay, bytes_to_show}
use Rattle.mq_page.specs.Telling.{IsTold}

-- a capture before anything was read
abbrev pub unread : List ℕ → InputState
unread capture = record { ahead = Some capture; taken = 0; failed = false }

-- The result of a library's call over a capture. If the memory has at least as many bytes as the room for the part, the
-- call was made, and wrote this text. Otherwise nothing was written. `Does` is the effect of the call on the state, the
-- text and the result. The call had its memory if there were `needed` bytes beside the block of the room.
abbrev pub IsMade : {X E : Type 0} → (Does : (old new : InputState) → (before after : Option (List ℕ)) → Result X E → Type 0)
    → (done : X → Result ℕ PageFault) → (fault : E → PageFault) → (is_granted : Result X E → Bool) → (needed : ℕ)
    → (capture : List ℕ) → (memory room : ℕ) → (text : List ℕ) → (outcome : Result ℕ PageFault) → Type 0
IsMade {X} {E} Does done fault is_granted needed capture memory room text outcome =
    ((memory < room) × (outcome ≡ Err Memory) × (text ≡ []))
    ⊎ ((room ≤ memory) × (after : InputState) × (r : Result X E) × (outcome ≡ outcome_of done fault r)
    × Does (unread capture) after (Some []) (Some text) r
    × (size_of_block room + needed ≤ memory → is_granted r ≡ true))

-- the listing of a capture was written
pub record ListsInto (json : Bool) (skip : ℕ) (capture : List ℕ) (memory : ℕ) (old new : List ℕ) (answer : Answer) : Type 0 where
  pub text : List ℕ
  pub outcome : Result ℕ PageFault
  pub told : IsTold outcome (drop skip text) old new answer
  pub lists : IsMade (Shows json) Ok of_capture is_granted bytes_to_show capture memory (length old) text outcome

-- all packets of a capture were written as one classic capture
pub record ConvertsInto (choice : Choice) (skip : ℕ) (capture : List ℕ) (memory : ℕ) (old new : List ℕ) (answer : Answer) : Type 0 where
  pub text : List ℕ
  pub outcome : Result ℕ PageFault
  pub told : IsTold outcome (drop skip text) old new answer
  pub converts :
      IsMade (Converts choice) (λ counts. Ok counts.unread.count) of_conversion conversion.is_granted (bytes_to_convert choice) capture memory (length old) text
      outcome

-- the request was refused, before anything was written
abbrev pub IsRefusal : Configuration → (until : Option ℕ) → (text : List ℕ) → (outcome : Result ℕ PageFault) → Type 0
IsRefusal config until text outcome =
    (fault : PageFault) × IsRefused config until fault × (outcome ≡ Err fault) × (text ≡ [])

-- a capture was replayed, by the type of an address
pub record ReplaysInto (address : RattleType) (config : Configuration) (asked : Asked) (skip : ℕ) (capture : List ℕ) (memory : ℕ) (old new : List ℕ) (answer : Answer) : Type 0 where
  pub text : List ℕ
  pub outcome : Result ℕ PageFault
  pub told : IsTold outcome (drop skip text) old new answer
  pub replays : IsRefusal config asked.until text outcome
      ⊎ (IsAccepted config asked.until × IsMade (Replays config asked) (λ (counters : Counters). Ok 0) of_capture is_granted (bytes_to_replay address config.room)
      capture memory (length old) text outcome)

-- a capture was checked, and this text of the check is shown
abbrev pub ChecksShowing : Configuration → CheckTerms → (old new : InputState) → (before after : Option (List ℕ)) → Result Totals CaptureFault → Type 0
ChecksShowing config terms old new before after r =
    (written : List ℕ) × Checks config terms old new before (Some written) r × (after ≡ Some (shown r written))

-- a capture was checked, by the type of an address
pub record ChecksInto (address : RattleType) (config : Configuration) (terms : CheckTerms) (skip : ℕ) (capture : List ℕ) (memory : ℕ) (old new : List ℕ) (answer : Answer) : Type 0 where
  pub text : List ℕ
  pub outcome : Result ℕ PageFault
  pub told : IsTold outcome (drop skip text) old new answer
  pub checks : IsRefusal config terms.until text outcome
      ⊎ (IsAccepted config terms.until × IsMade (ChecksShowing config terms) concluded of_capture is_granted (bytes_to_check address config.room)
      capture memory (length old) text outcome)
