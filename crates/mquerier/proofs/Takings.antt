-- The result of a check of the querier that the capture names.
use Rattle.mquerier.proofs.Common.{◌≡◌, ◌⊎◌, ◌∙◌, ap, subst, sym, refl, arith, ℕ, true, List, Option, None, Some, Result, Ok, Err, inl, inr, ⊎_elim}
use Rattle.mquerier.proofs.Common.{CaptureFault, CheckTerms, Totals, Settings, InputState, OutputState, Family, CheckOptions, Failure, Memory, Write, BreaksOff}
use Rattle.mquerier.proofs.Common.{Input, Output, status_of, family_of, Concludes, IsTold, Told, taken_line, ChecksAt}
use Rattle.mq_check.specs.{declared.announced.Announced.Announced, Announced.Announces, Numbered.numbered_announced_if}
use Rattle.mquerier.specs.{Changes.Writes, CheckRuns.IsCheckDoneAt, Failures.no_querier_line, Taking.with_variables}
use Rattle.mquerier.specs.Taking.{ChecksBy, ChecksFound, ChecksTaking, IsFoundDone, PerformsBy, PerformsFound, PerformsTaking, first_failure, terms_found}
use Rattle.mquerier.proofs.Checkings.{status_is}
use Rattle.mq_walk.specs.declared.capture_fault.CaptureFault.TheVariants as answer

-- the check was done, and the line was not written
pub found_unwritten : (family : Family) (options : CheckOptions) (found : Announced ℕ) (settings : Settings) (terms : CheckTerms) (input : Input)
    (output : Output) (mid : OutputState) (text : List ℕ) (totals : Totals) (failure : Failure) → settings ≡ with_variables options.settings found
    → terms ≡ terms_found options found → text ≡ taken_line options.terms.additions.json family options.settings found →
    ChecksAt family found.querier settings terms input (record { old = output.old; new = mid }) (Ok totals)
    → (failure ≡ Write) × BreaksOff (record { old = mid; new = output.new }) text → ChecksFound family options found input output (Err failure)
found_unwritten family options found settings terms input output mid text totals failure is is_terms is_line works why =
    let there = subst (λ (s : Settings). IsCheckDoneAt family found.querier s terms input (record { old = output.old; new = mid }) totals) is works in
    let done = subst (λ (t : CheckTerms). IsCheckDoneAt family found.querier (with_variables options.settings found) t input
    (record { old = output.old; new = mid }) totals) is_terms there in
    let broke = subst (λ (t : List ℕ). BreaksOff (record { old = mid; new = output.new }) t) is_line why.1 in
    let one = ap status_of why.0 in
    (λ two. absurd (omega (arith, one, two)), λ _. inr (why.0, mid, totals, done, broke))

-- both were done
pub found_done : (family : Family) (options : CheckOptions) (found : Announced ℕ) (settings : Settings) (terms : CheckTerms) (input : Input)
    (output : Output) (mid : OutputState) (text : List ℕ) (totals : Totals) → settings ≡ with_variables options.settings found
    → terms ≡ terms_found options found → text ≡ taken_line options.terms.additions.json family options.settings found →
    ChecksAt family found.querier settings terms input (record { old = output.old; new = mid }) (Ok totals)
    → Writes (record { old = mid; new = output.new }) text → ChecksFound family options found input output (Ok totals)
found_done family options found settings terms input output mid text totals is is_terms is_line works wrote =
    let there = subst (λ (s : Settings). IsCheckDoneAt family found.querier s terms input (record { old = output.old; new = mid }) totals) is works in
    let done = subst (λ (t : CheckTerms). IsCheckDoneAt family found.querier (with_variables options.settings found) t input
    (record { old = output.old; new = mid }) totals) is_terms there in
    (mid, done, subst (λ (t : List ℕ). Writes (record { old = mid; new = output.new }) t) is_line wrote)

-- the status of a failure is neither 0, 3 nor 4
never : {X : Type 0} (failure : Failure) (status : ℕ) → status ≡ status_of failure → (status ≡ 0) ⊎ (status ≡ 3) ⊎ (status ≡ 4) → X
never failure status is at = absurd (⊎_elim
    (λ (one : status_of failure ≡ 1). ⊎_elim (λ (e : status ≡ 0). omega (arith, is, one, e))
    (⊎_elim (λ (e : status ≡ 3). omega (arith, is, one, e)) (λ (e : status ≡ 4). omega (arith, is, one, e))) at)
    (λ (two : status_of failure ≡ 2). ⊎_elim (λ (e : status ≡ 0). omega (arith, is, two, e))
    (⊎_elim (λ (e : status ≡ 3). omega (arith, is, two, e)) (λ (e : status ≡ 4). omega (arith, is, two, e))) at)
    (status_is failure))

-- a check of the found querier failed, and this was reported
failed_by : (family : Family) (options : CheckOptions) (found : Announced ℕ) (input : Input) (output errors : Output)
    (failure : Failure) (status : ℕ)
    → ChecksFound family options found input output (Err failure) → status ≡ status_of failure → Told true errors failure →
    PerformsFound family options found input output errors status
failed_by family options found input output errors failure status checks is told = record {
  at_most_four = ⊎_elim (λ (one : status_of failure ≡ 1). omega (arith, is, one)) (λ (two : status_of failure ≡ 2). omega (arith, is, two)) (status_is failure);
  done = λ e. never failure status is (inl e);
  faulty = λ one. (failure, checks.1 (sym is ∙ one), told);
  refused = λ two. let why = checks.0 (sym is ∙ two) in (why.0, failure, why.1, told);
  differs = λ e. never failure status is (inr (inl e));
  unjudged = λ e. never failure status is (inr (inr e));
}

-- the status of a failure of the first reading is 1
is_one : (fault : CaptureFault) → status_of (first_failure fault) ≡ 1
is_one (answer.Pcap f) = refl
is_one answer.Write = refl
is_one (answer.Gap at) = refl
is_one (answer.Waiting at) = refl
is_one answer.Memory = refl

abbrev failure_in : Result (Option Totals) Failure → Failure
failure_in (Ok x) = Memory
failure_in (Err e) = e

pub taking_failed : (options : CheckOptions) (first input : Input) (output errors : Output) (failure : Failure) (status : ℕ)
    → ChecksTaking (family_of options.protocol) options first input output (Err failure) → status ≡ status_of failure → Told true errors failure
    → PerformsTaking options first input output errors status
taking_failed options first input output errors failure status checks is told =
    record { found = checks.found; announces = checks.announces; performs = by_found checks.found checks.checks }
  where
    by_found : (found : Result (Option (Announced ℕ)) CaptureFault) → ChecksBy (family_of options.protocol) options input output found (Err failure)
        → PerformsBy (family_of options.protocol) options input output errors status found
    by_found (Ok (Some found)) checks = failed_by (family_of options.protocol) options found input output errors failure status checks is told
    by_found (Ok None) checks = absurd (cc checks.0)
    by_found (Err fault) checks =
        let same = ap failure_in checks.0 in (is ∙ ap status_of same ∙ is_one fault, checks.1, subst (λ (g : Failure). Told true errors g) same told)

-- a check of the querier that was found reached its end
done_by : (family : Family) (options : CheckOptions) (found : Announced ℕ) (input : Input) (output errors : Output)
    (totals : Totals) (status : ℕ)
    → IsFoundDone family options found input output totals → Concludes totals errors status →
    PerformsFound family options found input output errors status
done_by family options found input output errors totals status done concludes = record {
  at_most_four = ⊎_elim (λ (e : status ≡ 0). omega (arith, e)) (⊎_elim (λ (e : status ≡ 3). omega (arith, e)) (λ (e : status ≡ 4). omega (arith, e)))
      concludes.one_of;
  done = λ zero. let it = concludes.done zero in (totals, it.0, it.1, done, it.2);
  faulty = λ one. absurd
      (⊎_elim (λ (e : status ≡ 0). omega (arith, e, one))
      (⊎_elim (λ (e : status ≡ 3). omega (arith, e, one)) (λ (e : status ≡ 4). omega (arith, e, one))) concludes.one_of);
  refused = λ two. absurd
      (⊎_elim (λ (e : status ≡ 0). omega (arith, e, two))
      (⊎_elim (λ (e : status ≡ 3). omega (arith, e, two)) (λ (e : status ≡ 4). omega (arith, e, two))) concludes.one_of);
  differs = λ three. let it = concludes.found three in (totals, it.0, it.1, done, it.2);
  unjudged = λ four. let it = concludes.unjudged four in (totals, it.0, it.1, done, it.2);
}

pub taking_done : (options : CheckOptions) (first input : Input) (output errors : Output) (totals : Totals) (status : ℕ)
    → ChecksTaking (family_of options.protocol) options first input output (Ok (Some totals)) → Concludes totals errors status
    → PerformsTaking options first input output errors status
taking_done options first input output errors totals status checks concludes =
    record { found = checks.found; announces = checks.announces; performs = by_found checks.found checks.checks }
  where
    by_found : (found : Result (Option (Announced ℕ)) CaptureFault) → ChecksBy (family_of options.protocol) options input output found (Ok (Some totals))
        → PerformsBy (family_of options.protocol) options input output errors status found
    by_found (Ok (Some found)) checks = done_by (family_of options.protocol) options found input output errors totals status checks concludes
    by_found (Ok None) checks = absurd (cc checks.0)
    by_found (Err fault) checks = absurd (cc checks.0)

pub taking_nothing : (options : CheckOptions) (first input : Input) (output errors : Output)
    → ChecksTaking (family_of options.protocol) options first input output (Ok None) → IsTold errors no_querier_line
    → PerformsTaking options first input output errors 4
taking_nothing options first input output errors checks told =
    record { found = checks.found; announces = checks.announces; performs = by_found checks.found checks.checks }
  where
    by_found : (found : Result (Option (Announced ℕ)) CaptureFault) → ChecksBy (family_of options.protocol) options input output found (Ok None)
        → PerformsBy (family_of options.protocol) options input output errors 4 found
    by_found (Ok (Some found)) checks = absurd checks
    by_found (Ok None) checks = (refl, checks.1, told)
    by_found (Err fault) checks = absurd (cc checks.0)

-- the same in the terms of the code
pub as_found : {K : Type 0} (family : Family) (number : K → ℕ) (old new : InputState) (o o' : Option (Announced K)) → o ≡ o'
    → Announces family old new (Ok (numbered_announced_if number o)) → Announces family old new (Ok (numbered_announced_if number o'))
as_found {K} family number old new o o' same announces =
    subst (λ (x : Option (Announced K)). Announces family old new (Ok (numbered_announced_if number x))) same announces

pub as_family : (family : Family) (options : CheckOptions) (first input : Input) (output : Output) (r : Result (Option Totals) Failure) →
    family_of options.protocol ≡ family
    → ChecksTaking family options first input output r → ChecksTaking (family_of options.protocol) options first input output r
as_family family options first input output r same checks = subst (λ (f : Family). ChecksTaking f options first input output r) (sym same) checks

pub as_result : (family : Family) (options : CheckOptions) (first input : Input) (output : Output) (o o' : Option Totals) → o ≡ o' →
    ChecksTaking family options first input output (Ok o) → ChecksTaking family options first input output (Ok o')
as_result family options first input output o o' same checks = subst (λ (x : Option Totals). ChecksTaking family options first input output (Ok x)) same checks
