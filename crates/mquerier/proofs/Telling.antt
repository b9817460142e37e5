-- The result of printing on standard error.
use Rattle.mquerier.proofs.Common.{◌≡◌, ◌||◌, ◌++◌, codes, take, Bool, true, List, ℕ, Option, Result, Ok, Err, inl, inr, ap, subst, ◌∙◌, or-false, or-true}
use Rattle.mquerier.proofs.Common.{Failure, Request, Message, Convert, Show, Replay, Check, NoAddresses, NotAnAddress, NotHex, UntilTooLarge, Capture, Gap}
use Rattle.mquerier.proofs.Common.{Waiting, Conversion, ConversionRead, Memory, Write, BreaksOff, Output, check_line, status_of, IsTold, Told, request_line}
use Rattle.std.proofs.Common.{is_err}
use Rattle.mq_text.specs.Printing.{Prints}
use Rattle.mquerier.specs.{declared.failure.Failure.TheVariants.Configuration, Failures.failure_text, Failures.version_line, Failures.wanted_words}
use Rattle.mquerier.specs.Status.{PrintsVersion, TellsLines}

pub told_by_printing : {T E : Type 0} (old new : Option (List ℕ)) (text line : List ℕ) (before after : Bool) (r : Result T E) →
    Prints old new text r → after ≡ (before || is_err r) → text ≡ line
    → IsTold (record { old = record { held = old; failed = before }; new = record { held = new; failed = after } }) line
told_by_printing old new text line before after (Ok x) printed failed is = inl (rw (← is) printed, failed ∙ or-false before)
told_by_printing old new text line before after (Err e) printed failed is = inr (inr (rw (← is) printed), failed ∙ or-true before)

-- a failure's line is a text and a line feed
pub failure_told : (in_words : Bool) (errors : Output) (failure : Failure) → Told in_words errors failure → TellsLines errors
failure_told in_words errors failure told =
    let front = codes "mquerier: " in
    (front ++ failure_text failure ++ wanted_words in_words failure, told)

-- so do the lines of a failure of a check, and those of a request
check_told : (querier : List ℕ) (errors : Output) (failure : Failure) → IsTold errors (check_line querier failure) → TellsLines errors
check_told querier errors NoAddresses told = failure_told true errors NoAddresses told
check_told querier errors NotAnAddress told =
    (codes "mquerier: not an address\n  " ++ take 3000 querier ++ codes " is no address of the family; auto takes the querier from the capture", told)
check_told querier errors NotHex told = failure_told true errors NotHex told
check_told querier errors UntilTooLarge told = failure_told true errors UntilTooLarge told
check_told querier errors (Configuration f query_seconds response_interval) told =
    failure_told true errors (Configuration f query_seconds response_interval) told
check_told querier errors (Capture f) told = failure_told true errors (Capture f) told
check_told querier errors (Gap number) told = failure_told true errors (Gap number) told
check_told querier errors (Waiting number) told = failure_told true errors (Waiting number) told
check_told querier errors (Conversion number f) told = failure_told true errors (Conversion number f) told
check_told querier errors ConversionRead told = failure_told true errors ConversionRead told
check_told querier errors Memory told = failure_told true errors Memory told
check_told querier errors Write told = failure_told true errors Write told

pub request_told : (in_words : Bool) (request : Request) (errors : Output) (failure : Failure) → IsTold errors (request_line in_words request failure)
    → TellsLines errors
request_told in_words (Message protocol hex from to json) errors failure told = failure_told in_words errors failure told
request_told in_words (Convert interface vlan once json file) errors failure told = failure_told true errors failure told
request_told in_words (Show json file) errors failure told = failure_told in_words errors failure told
request_told in_words (Replay protocol own settings until changes json file) errors failure told = failure_told in_words errors failure told
request_told in_words (Check protocol querier settings within flags until packets file) errors failure told = check_told querier.now errors failure told

-- the version's line was printed in part or not passed on, and this was reported
pub version_failed : (version : List ℕ) (in_words : Bool) (output errors : Output) (text : List ℕ) (failure : Failure) (status : ℕ)
    → text ≡ version_line version → (failure ≡ Write) × BreaksOff output text → status ≡ status_of failure → Told in_words errors failure
    → PrintsVersion version in_words output errors status
version_failed version in_words output errors text failure status line why is told =
    let broke : BreaksOff output (version_line version) = subst (λ (t : List ℕ). BreaksOff output t) line why.1 in
    let said : Told in_words errors Write = subst (λ (f : Failure). Told in_words errors f) why.0 told in
    inr (is ∙ ap status_of why.0, broke, said)
