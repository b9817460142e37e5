-- Results of the work on a request.
use Rattle.std.specs.Prelude.{◌≡◌, Bool, true, List, ℕ, Option, Result, Ok, Err, IsErr}
use Rattle.hex.specs.Hex.{decode_of}
use Rattle.mq_check.specs.declared.check_terms.CheckTerms.{CheckTerms}
use Rattle.mq_check.specs.declared.totals.Totals.{Totals}
use Rattle.mq_command.specs.declared.Protocol.{Protocol}
use Rattle.mq_command.specs.declared.Request.{Request}
use Rattle.mq_command.specs.declared.replay.Settings.{Settings}
use Rattle.mq_convert.specs.declared.choice.Choice.{Choice}
use Rattle.mq_convert.specs.declared.counts.ConvertCounts.{ConvertCounts}
use Rattle.mq_link.specs.Configuration.{Configuration, IsFaultless}
use Rattle.mq_replay.specs.declared.asked.Asked.{Asked}
use Rattle.mq_wire.specs.Family.{Family}
use Rattle.mquerier.specs.declared.failure.Failure.{Failure}
use Rattle.mquerier.specs.declared.failure.Failure.TheVariants.{NotHex, Memory}
use Rattle.mquerier.specs.declared.failure.Failure.TheVariants as failure
use Rattle.mquerier.specs.Breaking.{IsBrokenOff, IsConversionBroken}
use Rattle.mquerier.specs.Changes.{Input, Output}
use Rattle.mquerier.specs.CheckRuns.{IsBrokenCheck, IsCheckBrokenAt, IsCheckDoneAt, WritesVerdict}
use Rattle.mquerier.specs.Failures.{status_of}
use Rattle.mquerier.specs.Replays.{HasFault, IsRefusedAt, IsDoneAt, IsBrokenAt}
use Rattle.mquerier.specs.Status.{IsDone, IsRefused, IsRefusedMessage, IsRefusedReplay, IsBroken, IsBrokenMessage, IsBrokenReplay, WritesConversion, WritesListing, WritesMessage, WritesReport}

-- a result with a fault of the request
abbrev pub IsRefusal : {X : Type 0} → Result X Failure → Type 0
IsRefusal (Ok x) = ⊥
IsRefusal (Err failure) = status_of failure ≡ 2

-- a result before which nothing was written: a fault of the request, or an allocation failure
abbrev pub IsUnwritten : {X : Type 0} → Result X Failure → Type 0
IsUnwritten (Ok x) = ⊥
IsUnwritten (Err Memory) = Unit {0}
IsUnwritten (Err failure) = status_of failure ≡ 2

-- the request was done, or it was refused, or the work ended early
abbrev pub Works : Request → Input → Output → Result Bool Failure → Type 0
Works request input output (Ok flag) = IsDone request input output flag
Works request input output (Err failure) =
    (status_of failure ≡ 2 → IsRefused request failure) × (status_of failure ≡ 1 → IsBroken request input output failure)

-- the result of a listing, which is never refused
abbrev pub WorksOnListing : (json : Bool) → Input → Output → Result Bool Failure → Type 0
WorksOnListing json input output (Ok flag) =
    (flag ≡ true) × (output.new.failed ≡ output.old.failed) × (count : ℕ) × WritesListing json input output (Ok count)
WorksOnListing json input output (Err failure) =
    (status_of failure ≡ 2 → ⊥) × (status_of failure ≡ 1 → IsBrokenOff (WritesListing json input output) input output failure)

-- the result of a conversion, which is never refused
abbrev pub WorksOnConversion : Choice → Input → Output → Result ConvertCounts Failure → Type 0
WorksOnConversion choice input output (Ok counts) =
    (output.new.failed ≡ output.old.failed) × WritesConversion choice input output (Ok counts)
WorksOnConversion choice input output (Err failure) =
    IsConversionBroken (WritesConversion choice input output) input output failure

-- the result of a replay
abbrev pub WorksOnReplay : Protocol → (own : List ℕ) → Settings → Asked → Input → Output → Result Bool Failure → Type 0
WorksOnReplay protocol own settings asked input output (Ok flag) = WritesReport protocol own settings asked input output flag
WorksOnReplay protocol own settings asked input output (Err failure) =
    (status_of failure ≡ 2 → IsRefusedReplay protocol own settings asked.until failure)
    × (status_of failure ≡ 1 → IsBrokenReplay protocol own settings asked input output failure)

-- the result of a replay at an address that was read
abbrev pub WorksAt : Family → (own : ℕ) → Settings → Asked → Input → Output → Result Bool Failure → Type 0
WorksAt family own settings asked input output (Ok flag) = IsDoneAt family own settings asked input output flag
WorksAt family own settings asked input output (Err failure) =
    (status_of failure ≡ 2 → IsRefusedAt family own settings asked.until failure)
    × (status_of failure ≡ 1 → IsBrokenAt family own settings asked input output failure)

-- the result of a check
abbrev pub WorksOnCheck : Protocol → (querier : List ℕ) → Settings → CheckTerms → Input → Output → Result Totals Failure → Type 0
WorksOnCheck protocol querier settings terms input output (Ok totals) =
    WritesVerdict protocol querier settings terms input output totals
WorksOnCheck protocol querier settings terms input output (Err failure) =
    (status_of failure ≡ 2 → IsRefusedReplay protocol querier settings terms.until failure)
    × (status_of failure ≡ 1 → IsBrokenCheck protocol querier settings terms input output failure)

-- the result of a check at an address that was read
abbrev pub ChecksAt : Family → (querier : ℕ) → Settings → CheckTerms → Input → Output → Result Totals Failure → Type 0
ChecksAt family querier settings terms input output (Ok totals) =
    IsCheckDoneAt family querier settings terms input output totals
ChecksAt family querier settings terms input output (Err failure) =
    (status_of failure ≡ 2 → IsRefusedAt family querier settings terms.until failure)
    × (status_of failure ≡ 1 → IsCheckBrokenAt family querier settings terms input output failure)

-- the result of a message
abbrev pub WorksOnMessage : (json : Bool) → Protocol → (from to : Option (List ℕ)) → (hex : List ℕ) → Output → Result Bool Failure → Type 0
WorksOnMessage json protocol from to hex output (Ok flag) = WritesMessage json protocol from to hex output flag
WorksOnMessage json protocol from to hex output (Err failure) =
    (status_of failure ≡ 2 → IsRefusedMessage protocol from to hex failure)
    × (status_of failure ≡ 1 → IsBrokenMessage json protocol from to hex output failure)

-- the reason why a text was not decoded
abbrev pub IsUndecoded : List ℕ → Failure → Type 0
IsUndecoded hex NotHex = IsErr (decode_of hex)
IsUndecoded hex Memory = Unit {0}
IsUndecoded hex failure = ⊥

-- the requested configuration was made, or its fault is the failure
abbrev pub IsConfigured : (asked : Configuration) → Result Configuration Failure → Type 0
IsConfigured asked (Ok config) = IsFaultless asked × (config ≡ asked)
IsConfigured asked (Err (failure.Configuration f query_seconds response_interval)) =
    HasFault asked f query_seconds response_interval
IsConfigured asked (Err failure) = ⊥
