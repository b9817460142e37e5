-- A buffer that is filled up to a place, and one more read.
use Rattle.mq_convert.proofs.Common.{◌≡◌, ◌≤◌, ◌+◌, ◌-◌, ℕ, List, [], ◌++◌, length, take, refl, arith, ◌∙◌, ap, sym, length-append, append-nil, append_assoc}
use Rattle.mq_convert.proofs.Common.{length-take-le, take-append-le, take-append-add, put_mid, mid_of, post_of, mid_len, same_len_mid, InputState, Takes}
use Rattle.mq_convert.proofs.Common.{Takes-nil, Takes-trans}

-- these bytes were read after the first `from` bytes, up to a place, and no call has failed
pub record IsFilledFrom (old new : InputState) (before buffer : List ℕ) (from n to : ℕ) : Type 0 where
  pub bytes : List ℕ
  pub takes : Takes old new bytes
  pub front : take n buffer ≡ take from before ++ bytes
  pub place : n ≡ from + length bytes
  pub within : n ≤ to
  pub size : length buffer ≡ length before
  pub failed : new.failed ≡ old.failed

pub filled_none : (s : InputState) (buffer : List ℕ) (from to : ℕ) → from ≤ to → IsFilledFrom s s buffer buffer from from to
filled_none s buffer from to within = record {
  bytes = [];
  takes = Takes-nil s;
  front = sym (append-nil (take from buffer));
  place = omega arith;
  within = within;
  size = refl;
  failed = refl;
}

-- the front of a buffer, once a part is overwritten
front : (buffer part : List ℕ) (n size more : ℕ) → n + size ≤ length buffer → more ≤ length part →
    take (n + more) (put_mid n size buffer part) ≡ take n buffer ++ take more part
front buffer part n size more within fits =
    let first = length-take-le n buffer (omega arith) in
    let joined = take-append-add (take n buffer) (part ++ post_of n size buffer) more in
    (rw first at joined) ∙ ap (λ (xs : List ℕ). take n buffer ++ xs) (take-append-le more part (post_of n size buffer) fits)

pub filled_more : (old mid new : InputState) (before buffer part : List ℕ) (from n to more : ℕ) → to ≤ length before →
    length part ≡ length (mid_of n (to - n) buffer) → more ≤ length part →
    IsFilledFrom old mid before buffer from n to → Takes mid new (take more part) → new.failed ≡ mid.failed →
    IsFilledFrom old new before (put_mid n (to - n) buffer part) from (n + more) to
filled_more old mid new before buffer part from n to more room same_length fits filled takes failed =
    let same = same_len_mid n (to - n) buffer part same_length in
    let middle = mid_len n to buffer (omega (arith, filled.size, filled.within, room)) in
    let taken = length-take-le more part fits in
    record {
      bytes = filled.bytes ++ take more part;
      takes = Takes-trans old mid new filled.bytes (take more part) filled.takes takes;
      front = front buffer part n (to - n) more (omega (arith, filled.size, filled.within, room)) fits
          ∙ ap (λ (xs : List ℕ). xs ++ take more part) filled.front ∙ append_assoc (take from before) filled.bytes (take more part);
      place = omega (arith, filled.place, taken, length-append filled.bytes (take more part));
      within = omega (arith, middle, filled.within, same_length, fits);
      size = omega (arith, same, filled.size);
      failed = failed ∙ filled.failed;
    }
