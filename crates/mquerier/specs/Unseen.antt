-- Checks of a querier that sent nothing.
use Rattle.std.specs.Prelude.{◌≡◌, ℕ, Bool, true, false, if◌then◌else◌, List, Option, None, Some, Result, Ok, Err}
use Rattle.mq_walk.specs.declared.capture_fault.CaptureFault.{CaptureFault}
use Rattle.mq_check.specs.declared.unjudged.Unjudged.TheVariants.{NoQuery}
use Rattle.mq_check.specs.Unseen.{Seeks}
use Rattle.mq_command.specs.declared.Protocol.{Protocol}
use Rattle.mq_command.specs.declared.Request.{Request}
use Rattle.mq_command.specs.declared.Request.TheVariants.{Message, Convert, Show, Replay, Check}
use Rattle.mq_command.specs.declared.replay.Settings.{Settings}
use Rattle.mq_wire.specs.Family.{Family}
use Rattle.mquerier.specs.declared.failure.Failure.{Failure}
use Rattle.mquerier.specs.Changes.{Input, Output}
use Rattle.mquerier.specs.CheckRuns.{checked_settings}
use Rattle.mquerier.specs.Failures.{status_of, unjudged_line}
use Rattle.mquerier.specs.Replays.{IsAcceptedAt, IsRefusedAt, SpellsAddress, family_of}
use Rattle.mquerier.specs.Status.{IsRefusedReplay, IsTold, Performs, Told}
use Rattle.mquerier.specs.Taking.{IsUntouched, first_failure}

-- The result of a search for the querier with this address. It is the result of the search of the capture, or the request is
-- refused.
abbrev pub IsSought : Family → (own : ℕ) → Settings → (until : Option ℕ) → Input → Result Bool CaptureFault → Type 0
IsSought family own settings until first r = IsAcceptedAt family own settings until × Seeks family own first.old first.new r

abbrev pub IsSoughtInVain : Family → (own : ℕ) → Settings → (until : Option ℕ) → Input → Failure → Type 0
IsSoughtInVain family own settings until first failure =
    (fault : CaptureFault) × (failure ≡ first_failure fault) × IsSought family own settings until first (Err fault)

abbrev pub SeeksAt : Family → (own : ℕ) → Settings → (until : Option ℕ) → Input → Result Bool Failure → Type 0
SeeksAt family own settings until first (Ok is_unseen) = IsSought family own settings until first (Ok is_unseen)
SeeksAt family own settings until first (Err failure) =
    (status_of failure ≡ 2 → IsRefusedAt family own settings until failure)
    × (status_of failure ≡ 1 → IsSoughtInVain family own settings until first failure)

-- the same at an address in a text
abbrev pub SeeksNamed : Protocol → (querier : List ℕ) → Settings → (until : Option ℕ) → Input → Result Bool Failure → Type 0
SeeksNamed protocol querier settings until first (Ok is_unseen) =
    (own : ℕ) × SpellsAddress protocol querier own × IsSought (family_of protocol) own settings until first (Ok is_unseen)
SeeksNamed protocol querier settings until first (Err failure) =
    (status_of failure ≡ 2 → IsRefusedReplay protocol querier settings until failure)
    × (status_of failure ≡ 1 → (own : ℕ) × SpellsAddress protocol querier own
    × IsSoughtInVain (family_of protocol) own settings until first failure)

-- The result of a search for the querier of a request. Only a check has one, unless the capture begins before its querier.
abbrev pub SeeksIfNot : (began : Bool) → Protocol → (querier : List ℕ) → Settings → (until : Option ℕ) → Input → Result Bool Failure → Type 0
SeeksIfNot true protocol querier settings until first r = (r ≡ Ok false) × (first.new ≡ first.old)
SeeksIfNot false protocol querier settings until first r = SeeksNamed protocol querier settings until first r

abbrev pub SeeksAsked : Request → Input → Result Bool Failure → Type 0
SeeksAsked (Message protocol hex from to json) first r = (r ≡ Ok false) × (first.new ≡ first.old)
SeeksAsked (Convert interface vlan once json file) first r = (r ≡ Ok false) × (first.new ≡ first.old)
SeeksAsked (Show json file) first r = (r ≡ Ok false) × (first.new ≡ first.old)
SeeksAsked (Replay protocol own settings until changes json file) first r = (r ≡ Ok false) × (first.new ≡ first.old)
SeeksAsked (Check protocol querier settings within flags until packets file) first r =
    SeeksIfNot flags.began protocol querier.now (checked_settings settings) until first r

-- The end of a request after a search: its status, if it isn't to be performed. It is if the querier was seen, and if it is
-- refused, which it reports.
abbrev pub IsToBePerformed : (errors : Output) → Option ℕ → Type 0
IsToBePerformed errors status = (status ≡ None) × (errors.new ≡ errors.old)

abbrev pub EndsWith : Result Bool Failure → (errors : Output) → Option ℕ → Type 0
EndsWith (Ok true) errors status = (status ≡ Some 4) × IsTold errors (unjudged_line NoQuery)
EndsWith (Ok false) errors status = IsToBePerformed errors status
EndsWith (Err failure) errors status =
    (status_of failure ≡ 2 → IsToBePerformed errors status)
    × (status_of failure ≡ 1 → (status ≡ Some 1) × Told true errors failure)

-- the outcome by what was found
abbrev pub PerformsBy : Request → (in_words : Bool) → Input → (output errors : Output) → (status : ℕ) → Result Bool Failure → Type 0
PerformsBy request in_words input output errors status (Ok true) =
    (status ≡ 4) × IsUntouched input output × IsTold errors (unjudged_line NoQuery)
PerformsBy request in_words input output errors status (Ok false) = Performs request in_words input output errors status
PerformsBy request in_words input output errors status (Err failure) =
    (status_of failure ≡ 2 → Performs request in_words input output errors status)
    × (status_of failure ≡ 1 → (status ≡ 1) × IsUntouched input output × Told true errors failure)

-- A request was performed with this status. The capture was searched for the querier of a check, and then read again for
-- the check, unless the querier is unseen.
pub record PerformsSeen (request : Request) (in_words : Bool) (first input : Input) (output errors : Output) (status : ℕ) : Type 0 where
  pub found : Result Bool Failure
  pub seeks : SeeksAsked request first found
  pub performs : PerformsBy request in_words input output errors status found
