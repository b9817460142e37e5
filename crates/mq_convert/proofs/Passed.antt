-- Bytes of a block that are passed over.
use Rattle.mq_convert.proofs.Common.{◌≡◌, ◌≤◌, ◌+◌, ℕ, List, [], ◌++◌, length, refl, arith, ◌∙◌, length-append, InputState, Takes, Takes-nil, Takes-trans}

-- these bytes were read after the first `from` bytes, up to a place, and no call has failed
pub record IsPassedFrom (old new : InputState) (from n to : ℕ) : Type 0 where
  pub bytes : List ℕ
  pub takes : Takes old new bytes
  pub place : n ≡ from + length bytes
  pub within : n ≤ to
  pub failed : new.failed ≡ old.failed

pub passed_none : (s : InputState) (from to : ℕ) → from ≤ to → IsPassedFrom s s from from to
passed_none s from to within = record { bytes = []; takes = Takes-nil s; place = omega arith; within = within; failed = refl }

pub passed_more : (old mid new : InputState) (part : List ℕ) (from n more to : ℕ) → more ≡ length part → n + more ≤ to →
    IsPassedFrom old mid from n to → Takes mid new part → new.failed ≡ mid.failed → IsPassedFrom old new from (n + more) to
passed_more old mid new part from n more to size fits passed takes failed =
    let place = passed.place in
    record {
      bytes = passed.bytes ++ part;
      takes = Takes-trans old mid new passed.bytes part passed.takes takes;
      place = omega (arith, place, size, length-append passed.bytes part);
      within = fits;
      failed = failed ∙ passed.failed;
    }
