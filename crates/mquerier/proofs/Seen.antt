-- The search for the querier of a check, and the outcome of the request.
use Rattle.mquerier.proofs.Common.{◌≡◌, ◌⊎◌, ℕ, Bool, true, false, List, Option, None, Some, Result, Ok, Err, refl, ap, sym, subst, ◌∙◌, arith, inl, inr}
use Rattle.mquerier.proofs.Common.{CaptureFault, Family, Protocol, Request, Settings, OutputState, Failure, Input, Output, SpellsAddress, family_of, status_of}
use Rattle.mquerier.proofs.Common.{IsTold, Performs, Told}
use Rattle.mquerier.specs.Taking.{IsUntouched}
use Rattle.mquerier.specs.Unseen.{EndsWith, IsToBePerformed, PerformsBy, SeeksAt, SeeksNamed}
use Rattle.mquerier.proofs.Replayed.{refused_for}

abbrev some_in : ℕ → Option ℕ → ℕ
some_in other None = other
some_in other (Some n) = n

-- a search at the address of a text
pub sought_for : (protocol : Protocol) (querier : List ℕ) (own : ℕ) (settings : Settings) (until : Option ℕ) (first : Input) (r : Result Bool Failure)
    → SpellsAddress protocol querier own → SeeksAt (family_of protocol) own settings until first r
    → SeeksNamed protocol querier settings until first r
sought_for protocol querier own settings until first (Ok is_unseen) spelled sought = (own, spelled, sought)
sought_for protocol querier own settings until first (Err failure) spelled sought =
    (λ two. refused_for protocol querier own settings until failure spelled (sought.0 two), λ one. (own, spelled, sought.1 one))

-- the request is not performed
pub not_performed : (request : Request) (in_words : Bool) (input : Input) (output errors : Output) (status : ℕ) (found : Result Bool Failure)
    → EndsWith found errors (Some status) → IsUntouched input output → PerformsBy request in_words input output errors status found
not_performed request in_words input output errors status (Ok true) ends same = (ap (some_in status) ends.0, same, ends.1)
not_performed request in_words input output errors status (Ok false) ends same = absurd (cc ends.0)
not_performed request in_words input output errors status (Err failure) ends same =
    (λ two. absurd (cc (ends.0 two).0), λ one. (ap (some_in status) (ends.1 one).0, same, (ends.1 one).1))

-- the request is performed
pub is_performed : (request : Request) (in_words : Bool) (input : Input) (output : Output) (old mid new : OutputState) (status : ℕ)
    (found : Result Bool Failure) → EndsWith found (record { old = old; new = mid }) None
    → Performs request in_words input output (record { old = mid; new = new }) status
    → PerformsBy request in_words input output (record { old = old; new = new }) status found
is_performed request in_words input output old mid new status (Ok true) ends performs = absurd (cc ends.0)
is_performed request in_words input output old mid new status (Ok false) ends performs =
    subst (λ (s : OutputState). Performs request in_words input output (record { old = s; new = new }) status) ends.1 performs
is_performed request in_words input output old mid new status (Err failure) ends performs = (
  λ two. subst (λ (s : OutputState). Performs request in_words input output (record { old = s; new = new }) status) (ends.0 two).1 performs,
  λ one. absurd (cc (ends.1 one).0),
)
