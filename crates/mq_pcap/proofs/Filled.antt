-- A buffer that is filled up to a place, and one more read.
use Rattle.std.proofs.Common.{◌≡◌, ◌≤◌, ◌+◌, ◌-◌, ℕ, List, [], ◌++◌, length, take, refl, arith, ◌∙◌, ap, length-append}
use Rattle.std.proofs.{lemmas.List.length-take-le, lemmas.List.take-append-le, Math.Seq.take-append-add, KnownBytes.Consumes-nil, KnownBytes.Consumes-trans}
use borrow.Rule.Slice.PartMut.{put_mid, mid_of, post_of, mid_len, same_len_mid}
use Rattle.mq_pcap.specs.Filling.{InputState, Takes}

-- the first n bytes of the buffer were taken, and no call has failed
pub record IsFilledTo (old new : InputState) (buffer : List ℕ) (n : ℕ) : Type 0 where
  pub within : n ≤ length buffer
  pub takes : Takes old new (take n buffer)
  pub failed : new.failed ≡ old.failed

pub Takes-nil : (s : InputState) → Takes s s []
Takes-nil s = record { ahead = Consumes-nil s.ahead; taken = omega arith }

pub Takes-trans : (a b c : InputState) (bs cs : List ℕ) → Takes a b bs → Takes b c cs → Takes a c (bs ++ cs)
Takes-trans a b c bs cs first second = record {
  ahead = Consumes-trans a.ahead b.ahead c.ahead bs cs first.ahead second.ahead;
  taken = omega (arith, length-append bs cs, first.taken, second.taken);
}

pub filled_none : (s : InputState) (buffer : List ℕ) → IsFilledTo s s buffer 0
filled_none s buffer = record { within = omega arith; takes = Takes-nil s; failed = refl }

-- the front of a buffer, once a part is overwritten
front : (buffer part : List ℕ) (n more : ℕ) → n ≤ length buffer → more ≤ length part →
    take (n + more) (put_mid n (length buffer - n) buffer part) ≡ take n buffer ++ take more part
front buffer part n more within fits =
    let size = length-take-le n buffer within in
    let joined = take-append-add (take n buffer) (part ++ post_of n (length buffer - n) buffer) more in
    (rw size at joined) ∙ ap (λ xs. take n buffer ++ xs) (take-append-le more part (post_of n (length buffer - n) buffer) fits)

pub filled_more : (old mid new : InputState) (buffer part : List ℕ) (n more : ℕ) → length part ≡ length (mid_of n (length buffer - n) buffer) →
    more ≤ length part →
    IsFilledTo old mid buffer n → Takes mid new (take more part) → new.failed ≡ mid.failed →
    IsFilledTo old new (put_mid n (length buffer - n) buffer part) (n + more)
filled_more old mid new buffer part n more same_length fits filled takes failed =
    let same = same_len_mid n (length buffer - n) buffer part same_length in
    let middle = mid_len n (length buffer) buffer (omega arith) in
    record {
      within = omega (arith, same, middle, filled.within);
      takes = rw (front buffer part n more filled.within fits) (Takes-trans old mid new (take n buffer) (take more part) filled.takes takes);
      failed = failed ∙ filled.failed;
    }
