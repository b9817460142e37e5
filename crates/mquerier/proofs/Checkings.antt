-- The result of a check once it is flushed, and as a performed request.
use Rattle.mquerier.proofs.Common.{◌≡◌, ◌≤◌, ◌⊎◌, ◌∙◌, subst, sym, refl, arith, false, true, ℕ, Bool, Bor, List, Option, None, Some, Result, Ok, Err, inl, inr}
use Rattle.mquerier.proofs.Common.{⊎_elim, CaptureFault, CheckTerms, Totals, Protocol, Request, Message, Convert, Show, Replay, Check, Settings, Configuration}
use Rattle.mquerier.proofs.Common.{OutputState, Family, CheckOptions, Failure, NoAddresses, NotAnAddress, NotHex, UntilTooLarge, Unconfigured, Capture, Gap}
use Rattle.mquerier.proofs.Common.{Waiting, Conversion, ConversionRead, Memory, Write, Input, Output, SpellsAddress, asked_configuration, family_of, check_line}
use Rattle.mquerier.proofs.Common.{status_of, Concludes, IsTold, Performs, PerformsCheck, Told, request_line, ChecksAt, IsConfigured, IsUnwritten, Works}
use Rattle.std.{proofs.Common.◌^◌, proofs.lemmas.Bool.ltb-false, specs.Prelude.IfSome}
use Rattle.mq_check.specs.{Check.check_of, CheckedCaptures.Checks}
use Rattle.mq_command.specs.declared.{Packets.Packets, check.CheckFlags.CheckFlags}
use Rattle.mquerier.specs.{CheckRuns.IsCheckedAt, CheckRuns.WritesVerdict, CheckRuns.asked_options, Status.IsCheck, Status.IsConversion, Status.IsOfMessage}
use Rattle.mquerier.specs.{Replays.is_too_large, Failures.failure_line, Working.IsRefusal, Working.WorksOnCheck}
use Rattle.mquerier.proofs.{Breakings.Ends, Breakings.IsEndOf, Breakings.reports_ended, Replayed.refused_for}

-- the moment of the end, where it isn't too large
pub until_in_range : (until : Option ℕ) → is_too_large until ≡ false → IfSome until (λ ms. ms ≤ 2 ^ 53)
until_in_range None is = tt
until_in_range (Some ms) is = ltb-false (2 ^ 53) ms is

-- a check of the configuration that is asked for, behind a flush
pub check_ended : (family : Family) (querier : ℕ) (settings : Settings) (terms : CheckTerms) (config : Configuration) (input : Input)
    (old mid new : OutputState) (r : Result Totals CaptureFault) (r' : Result Totals Failure) → IsEndOf r input old mid new r'
    → is_too_large terms.until ≡ false → IsConfigured (asked_configuration family querier settings) (Ok config) →
    Checks config terms input.old input.new old.held mid.held r → ChecksAt family querier settings terms input (record { old = old; new = new }) r'
check_ended family querier settings terms config input old mid new r r' end small made checks =
    by_result r' (reports_ended (check_of (asked_configuration family querier settings) terms) input old mid new r r' end
    (subst (λ (k : Configuration). Checks k terms input.old input.new old.held mid.held r) made.1 checks))
  where
    by_result : (r' : Result Totals Failure) → Ends (IsCheckedAt family querier settings terms input (record { old = old; new = new })) input
        (record { old = old; new = new }) r' → ChecksAt family querier settings terms input (record { old = old; new = new }) r'
    by_result (Ok totals) it = ((small, made.0), it.0, it.1)
    by_result (Err failure) it = (λ two. let one = it.0 in absurd (omega (arith, two, one)), λ one. ((small, made.0), it.1))

-- a check at the address of a text
pub checked_for : (protocol : Protocol) (querier : List ℕ) (address : ℕ) (settings : Settings) (terms : CheckTerms) (input : Input) (output : Output)
    (r : Result Totals Failure) → SpellsAddress protocol querier address
    → ChecksAt (family_of protocol) address settings terms input output r → WorksOnCheck protocol querier settings terms input output r
checked_for protocol querier address settings terms input output (Ok totals) spelled works = (address, spelled, works)
checked_for protocol querier address settings terms input output (Err failure) spelled works =
    (λ two. refused_for protocol querier address settings terms.until failure spelled (works.0 two), λ one. (address, spelled, works.1 one))

pub check_performed : (protocol : Protocol) (querier : Bor (List ℕ)) (settings : Settings) (within : Option ℕ) (flags : CheckFlags)
    (until : Option ℕ) (packets : Packets) (file : Option (Bor (List ℕ))) (in_words : Bool) (input : Input) (output errors : Output) (status : ℕ)
    → PerformsCheck (asked_options protocol settings within until flags false) querier.now input output errors status →
    Performs (Check protocol querier settings within flags until packets file) in_words input output errors status
check_performed protocol querier settings within flags until packets file in_words input output errors status performs =
    record {
      at_most_four = performs.at_most_four;
      done = performs.done;
      faulty = λ one. inr (performs.faulty one);
      refused = performs.refused;
      found = performs.found;
      unjudged = performs.unjudged;
      unread = λ none. absurd none;
    }

-- the status of a check that reached its end is not 2
pub not_two : {X : Type 0} (totals : Totals) (errors : Output) (status : ℕ) → Concludes totals errors status → status ≡ 2 → X
not_two totals errors status concludes two =
    absurd (⊎_elim (λ (e : status ≡ 0). omega (arith, e, two))
    (⊎_elim (λ (e : status ≡ 3). omega (arith, e, two)) (λ (e : status ≡ 4). omega (arith, e, two))) concludes.one_of)

-- the status of a failure is 1 or 2
pub status_is : (failure : Failure) → (status_of failure ≡ 1) ⊎ (status_of failure ≡ 2)
status_is NoAddresses = inr refl
status_is NotAnAddress = inr refl
status_is NotHex = inr refl
status_is UntilTooLarge = inr refl
status_is (Unconfigured f query_seconds response_interval) = inr refl
status_is (Capture f) = inl refl
status_is (Gap number) = inl refl
status_is (Waiting number) = inl refl
status_is (Conversion number f) = inl refl
status_is ConversionRead = inl refl
status_is Memory = inl refl
status_is Write = inl refl

-- before a failure whose status is 2 nothing was written
unwritten_of : (X : Type 0) (failure : Failure) → status_of failure ≡ 2 → IsUnwritten {X = X} (Err failure)
unwritten_of X NoAddresses two = two
unwritten_of X NotAnAddress two = two
unwritten_of X NotHex two = two
unwritten_of X UntilTooLarge two = two
unwritten_of X (Unconfigured f query_seconds response_interval) two = two
unwritten_of X (Capture f) two = two
unwritten_of X (Gap number) two = two
unwritten_of X (Waiting number) two = two
unwritten_of X (Conversion number f) two = two
unwritten_of X ConversionRead two = two
unwritten_of X Memory two = tt
unwritten_of X Write two = two

-- a check that reached its end
pub check_concluded : (options : CheckOptions) (querier : List ℕ) (input : Input) (output errors : Output) (totals : Totals) (status : ℕ)
    → WritesVerdict options.protocol querier options.settings options.terms input output totals → Concludes totals errors status
    → PerformsCheck options querier input output errors status
check_concluded options querier input output errors totals status works concludes =
    record {
      at_most_four = ⊎_elim (λ (e : status ≡ 0). omega (arith, e))
          (⊎_elim (λ (e : status ≡ 3). omega (arith, e)) (λ (e : status ≡ 4). omega (arith, e))) concludes.one_of;
      done = λ zero. let it = concludes.done zero in (totals, it.0, it.1, (works, it.2));
      faulty = λ one. absurd
          (⊎_elim (λ (e : status ≡ 0). omega (arith, e, one))
          (⊎_elim (λ (e : status ≡ 3). omega (arith, e, one)) (λ (e : status ≡ 4). omega (arith, e, one))) concludes.one_of);
      refused = λ two. not_two totals errors status concludes two;
      found = λ three. let it = concludes.found three in (totals, it.0, it.1, (works, it.2));
      unjudged = λ four. let it = concludes.unjudged four in (totals, it.0, it.1, works, it.2);
    }

-- a check that fails, and is reported
pub check_failed : (options : CheckOptions) (querier : List ℕ) (input : Input) (output errors : Output) (failure : Failure) (status : ℕ)
    → WorksOnCheck options.protocol querier options.settings options.terms input output (Err failure)
    → (IsUnwritten {X = Totals} (Err failure) → input.new ≡ input.old)
    → (IsUnwritten {X = Totals} (Err failure) → output.new ≡ output.old)
    → status ≡ status_of failure → IsTold errors (check_line querier failure)
    → PerformsCheck options querier input output errors status
check_failed options querier input output errors failure status works unread unwritten is told =
    record {
      at_most_four = ⊎_elim (λ (one : status_of failure ≡ 1). omega (arith, is, one)) (λ (two : status_of failure ≡ 2). omega (arith, is, two))
          (status_is failure);
      done = λ zero. absurd
          (⊎_elim (λ (one : status_of failure ≡ 1). omega (arith, is, one, zero)) (λ (two : status_of failure ≡ 2). omega (arith, is, two, zero))
          (status_is failure));
      faulty = λ one. (failure, works.1 (sym is ∙ one), told);
      refused = λ two. (
        unread (unwritten_of Totals failure (sym is ∙ two)),
        unwritten (unwritten_of Totals failure (sym is ∙ two)),
        failure,
        works.0 (sym is ∙ two),
        told,
      );
      found = λ three. absurd
          (⊎_elim (λ (one : status_of failure ≡ 1). omega (arith, is, one, three)) (λ (two : status_of failure ≡ 2). omega (arith, is, two, three))
          (status_is failure));
      unjudged = λ four. absurd
          (⊎_elim (λ (one : status_of failure ≡ 1). omega (arith, is, one, four)) (λ (two : status_of failure ≡ 2). omega (arith, is, two, four))
          (status_is failure));
    }

-- the line of a request that is neither a conversion nor a check
plain_line : (in_words : Bool) (request : Request) (failure : Failure) → (IsConversion request → ⊥) → (IsCheck request → ⊥) →
    failure_line in_words failure ≡ request_line in_words request failure
plain_line in_words (Message protocol hex from to json) failure converts checks = refl
plain_line in_words (Convert interface vlan once json file) failure converts checks = absurd (converts tt)
plain_line in_words (Show json file) failure converts checks = refl
plain_line in_words (Replay protocol own settings until changes json file) failure converts checks = refl
plain_line in_words (Check protocol querier settings within flags until packets file) failure converts checks = absurd (checks tt)

-- work that fails, and is reported
pub work_failed : (request : Request) (in_words : Bool) (input : Input) (output errors : Output) (failure : Failure) (status : ℕ)
    → (IsConversion request → ⊥) → (IsCheck request → ⊥) → Works request input output (Err failure)
    → (IsUnwritten {X = Bool} (Err failure) → output.new ≡ output.old) → (IsOfMessage request → input.new ≡ input.old)
    → (IsRefusal {X = Bool} (Err failure) → input.new ≡ input.old)
    → status ≡ status_of failure → Told in_words errors failure → Performs request in_words input output errors status
work_failed request in_words input output errors failure status converts checks works unwritten unread refused is told =
    let line = subst (λ (t : List ℕ). IsTold errors t) (plain_line in_words request failure converts checks) told in
    record {
      at_most_four = ⊎_elim (λ (one : status_of failure ≡ 1). omega (arith, is, one)) (λ (two : status_of failure ≡ 2). omega (arith, is, two))
          (status_is failure);
      done = λ zero. absurd
          (⊎_elim (λ (one : status_of failure ≡ 1). omega (arith, is, one, zero)) (λ (two : status_of failure ≡ 2). omega (arith, is, two, zero))
          (status_is failure));
      faulty = λ one. inr (failure, works.1 (sym is ∙ one), line);
      refused = λ two. (refused (sym is ∙ two), unwritten (unwritten_of Bool failure (sym is ∙ two)), failure, works.0 (sym is ∙ two), line);
      found = λ three. absurd
          (⊎_elim (λ (one : status_of failure ≡ 1). omega (arith, is, one, three)) (λ (two : status_of failure ≡ 2). omega (arith, is, two, three))
          (status_is failure));
      unjudged = λ four. absurd
          (⊎_elim (λ (one : status_of failure ≡ 1). omega (arith, is, one, four)) (λ (two : status_of failure ≡ 2). omega (arith, is, two, four))
          (status_is failure));
      unread = unread;
    }

-- the lines of a failure of a check other than a word that is no address
pub explained : (querier : List ℕ) (failure : Failure) → (failure ≡ NotAnAddress → ⊥) → failure_line true failure ≡ check_line querier failure
explained querier NoAddresses other = refl
explained querier NotAnAddress other = absurd (other refl)
explained querier NotHex other = refl
explained querier UntilTooLarge other = refl
explained querier (Unconfigured f query_seconds response_interval) other = refl
explained querier (Capture f) other = refl
explained querier (Gap number) other = refl
explained querier (Waiting number) other = refl
explained querier (Conversion number f) other = refl
explained querier ConversionRead other = refl
explained querier Memory other = refl
explained querier Write other = refl
