-- The seen bytes of a block that was read in parts.
use Rattle.mq_convert.proofs.Common.{◌≡◌, ◌≤◌, ◌<◌, ◌+◌, ◌-◌, ◌||◌, ℕ, Bool, true, false, min, List, ◌++◌, length, take, drop, Result, Ok, Err, refl, arith}
use Rattle.mq_convert.proofs.Common.{◌∙◌, ap, sym, length-append, append_assoc, le-ltb, lt-ltb, length-take-le, take_at, or-false, drop-append_seam, InputState}
use Rattle.mq_convert.proofs.Common.{Takes, Takes-trans, FillsFrom, FillsSeen, PassesOver, most_seen, seen_of}

-- all of a block that isn't longer
pub all_seen : (block : List ℕ) → length block ≤ most_seen → seen_of block ≡ block
unfolding seen_of
all_seen block short = let fits = le-ltb most_seen (length block) short in rw fits refl

-- the first bytes and the last 4 of a longer block
parts_seen : (first mid last : List ℕ) → length first ≡ most_seen - 4 → length last ≡ 4 → 0 < length mid → seen_of ((first ++ mid) ++ last) ≡ first ++ last
unfolding seen_of
parts_seen first mid last size four some =
    let a = length-append first mid in
    let b = length-append (first ++ mid) last in
    let long = lt-ltb most_seen (length ((first ++ mid) ++ last)) (omega (arith, a, b, size, four, some)) in
    let front : take (most_seen - 4) ((first ++ mid) ++ last) ≡ first = ap (take (most_seen - 4)) (append_assoc first mid last) ∙
    take_at first (mid ++ last) (most_seen - 4) size in
    let seam : length ((first ++ mid) ++ last) - 4 ≡ length (first ++ mid) = omega (arith, b, four) in
    let end : drop (length ((first ++ mid) ++ last) - 4) ((first ++ mid) ++ last) ≡ last = ap (λ n. drop n ((first ++ mid) ++ last)) seam ∙
    drop-append_seam (first ++ mid) last in
    rw (long, front, end) refl

-- it was read at once
pub short_filled : (E : Type 0) (old new : InputState) (before after : List ℕ) (from size : ℕ) (answer : Result ℕ E) → from ≤ length before → size ≤ most_seen
    → FillsFrom {E = E} old new before after from size answer → FillsSeen {E = E} old new before after from size answer
short_filled E old new before after from size (Ok n) head short filled =
    let place = filled.fills.1 in
    let all = length-append (take from before) filled.bytes in
    let first = length-take-le from before head in
    let fits : min size most_seen ≡ size = omega (arith, short) in
    record {
      bytes = filled.bytes;
      takes = filled.takes;
      passes = (place, filled.fills.2, filled.fills.3);
      shows = λ is. all_seen (take from before ++ filled.bytes) (omega (arith, is, place, all, first, short)) ∙ sym filled.fills.0 ∙
          ap (λ k. take k after) (is ∙ sym fits);
      failed = filled.failed;
      size = filled.size;
    }
short_filled E old new before after from size (Err e) head short filled =
    record { bytes = filled.bytes; takes = filled.takes; passes = filled.fills; shows = tt; failed = filled.failed; size = filled.size }

-- the file ended among the first bytes, or a read failed
pub first_cut : (E : Type 0) (old new : InputState) (before after : List ℕ) (from size count : ℕ) → most_seen < size → count < most_seen - 4
    → FillsFrom {E = E} old new before after from (most_seen - 4) (Ok count) → FillsSeen {E = E} old new before after from size (Ok count)
first_cut E old new before after from size count long short filled =
    let place = filled.fills.1 in
    record {
      bytes = filled.bytes;
      takes = filled.takes;
      passes = (place, omega (arith, long, short), λ under. filled.fills.3 short);
      shows = λ is. absurd (omega (arith, is, long, short));
      failed = filled.failed;
      size = filled.size;
    }

-- the first bytes are there
pub record IsFirst (old mid : InputState) (before block : List ℕ) (from : ℕ) : Type 0 where
  pub bytes : List ℕ
  pub takes : Takes old mid bytes
  pub front : take (most_seen - 4) block ≡ take from before ++ bytes
  pub place : from + length bytes ≡ most_seen - 4
  pub failed : mid.failed ≡ old.failed
  pub size : length block ≡ length before

pub first_there : (E : Type 0) (old mid : InputState) (before block : List ℕ) (from count : ℕ) → most_seen - 4 ≤ count
    → FillsFrom {E = E} old mid before block from (most_seen - 4) (Ok count) → IsFirst old mid before block from
first_there E old mid before block from count whole filled =
    let place = filled.fills.1 in
    let within = filled.fills.2 in
    let is : count ≡ most_seen - 4 = omega (arith, within, whole) in
    record {
      bytes = filled.bytes;
      takes = filled.takes;
      front = ap (λ n. take n block) (sym is) ∙ filled.fills.0;
      place = omega (arith, place, is);
      failed = filled.failed ∙ or-false old.failed;
      size = filled.size;
    }

-- the file ended among those that are passed over, or a read failed
pub middle_cut : (E : Type 0) (old mid new : InputState) (before block : List ℕ) (from size count : ℕ) → most_seen < size → count < size - 4 →
    IsFirst old mid before block from
    → PassesOver {E = E} mid new (most_seen - 4) (size - 4) (Ok count) → FillsSeen {E = E} old new before block from size (Ok count)
middle_cut E old mid new before block from size count long short first passed =
    let place = first.place in
    let more = passed.passes.0 in
    record {
      bytes = first.bytes ++ passed.bytes;
      takes = Takes-trans old mid new first.bytes passed.bytes first.takes passed.takes;
      passes = (omega (arith, place, more, length-append first.bytes passed.bytes), omega (arith, short), λ under. passed.passes.2 short);
      shows = λ is. absurd (omega (arith, is, short, long));
      failed = passed.failed ∙ ap (λ (b : Bool). b || false) first.failed;
      size = first.size;
    }

pub middle_failed : (E : Type 0) (old mid new : InputState) (before block : List ℕ) (from size : ℕ) (e : E) → most_seen < size →
    IsFirst old mid before block from
    → PassesOver {E = E} mid new (most_seen - 4) (size - 4) (Err e) → FillsSeen {E = E} old new before block from size (Err e)
middle_failed E old mid new before block from size e long first passed =
    let place = first.place in
    let short = passed.passes in
    record {
      bytes = first.bytes ++ passed.bytes;
      takes = Takes-trans old mid new first.bytes passed.bytes first.takes passed.takes;
      passes = omega (arith, place, short, long, length-append first.bytes passed.bytes);
      shows = tt;
      failed = passed.failed ∙ ap (λ (b : Bool). b || true) first.failed;
      size = first.size;
    }

-- all but the last 4 bytes are there
pub record IsPassed (old mid : InputState) (before block : List ℕ) (from size : ℕ) : Type 0 where
  pub first : List ℕ
  pub middle : List ℕ
  pub takes : Takes old mid (first ++ middle)
  pub front : take (most_seen - 4) block ≡ take from before ++ first
  pub first_size : from + length first ≡ most_seen - 4
  pub middle_size : most_seen + length middle ≡ size
  pub failed : mid.failed ≡ old.failed
  pub same : length block ≡ length before

pub middle_there : (E : Type 0) (old mid new : InputState) (before block : List ℕ) (from size count : ℕ) → most_seen < size → size - 4 ≤ count →
    IsFirst old mid before block from
    → PassesOver {E = E} mid new (most_seen - 4) (size - 4) (Ok count) → IsPassed old new before block from size
middle_there E old mid new before block from size count long whole first passed =
    let more = passed.passes.0 in
    let within = passed.passes.1 in
    record {
      first = first.bytes;
      middle = passed.bytes;
      takes = Takes-trans old mid new first.bytes passed.bytes first.takes passed.takes;
      front = first.front;
      first_size = first.place;
      middle_size = omega (arith, more, within, whole, long);
      failed = passed.failed ∙ or-false mid.failed ∙ first.failed;
      same = first.size;
    }

-- the last ones were read, or some of them
pub last_filled : (E : Type 0) (old mid new : InputState) (before block after : List ℕ) (from size count : ℕ) → from ≤ length before →
    most_seen < size → IsPassed old mid before block from size
    → FillsFrom {E = E} mid new block after (most_seen - 4) most_seen (Ok count) →
    FillsSeen {E = E} old new before after from size (Ok (size - most_seen + count))
last_filled E old mid new before block after from size count head long passed filled =
    let place = filled.fills.1 in
    let within = filled.fills.2 in
    let first = passed.first_size in
    let middle = passed.middle_size in
    let some = length-append passed.first passed.middle in
    let all = length-append (passed.first ++ passed.middle) filled.bytes in
    let begin = take from before in
    let front = begin ++ passed.first in
    let front_size : length front ≡ most_seen - 4 = omega (arith, first, length-take-le from before head, length-append begin passed.first) in
    let joined : begin ++ ((passed.first ++ passed.middle) ++ filled.bytes) ≡ (front ++ passed.middle) ++ filled.bytes =
    sym (append_assoc begin (passed.first ++ passed.middle) filled.bytes) ∙
    ap (λ xs. xs ++ filled.bytes) (sym (append_assoc begin passed.first passed.middle)) in
    let room : most_seen ≡ min size most_seen = omega (arith, long) in
    record {
      bytes = (passed.first ++ passed.middle) ++ filled.bytes;
      takes = Takes-trans old mid new (passed.first ++ passed.middle) filled.bytes passed.takes filled.takes;
      passes = (omega (arith, place, first, middle, some, all), omega (arith, within, long), λ under. filled.fills.3 (omega (arith, under, long)));
      shows = λ is.
          let whole : count ≡ most_seen = omega (arith, is, long) in
          ap seen_of joined
          ∙ parts_seen front passed.middle filled.bytes front_size (omega (arith, place, whole)) (omega (arith, middle, long))
          ∙ ap (λ xs. xs ++ filled.bytes) (sym passed.front) ∙ sym filled.fills.0 ∙ ap (λ n. take n after) (whole ∙ room);
      failed = filled.failed ∙ ap (λ (b : Bool). b || false) passed.failed;
      size = filled.size ∙ passed.same;
    }

pub last_failed : (E : Type 0) (old mid new : InputState) (before block after : List ℕ) (from size : ℕ) (e : E) → most_seen < size →
    IsPassed old mid before block from size
    → FillsFrom {E = E} mid new block after (most_seen - 4) most_seen (Err e) → FillsSeen {E = E} old new before after from size (Err e)
last_failed E old mid new before block after from size e long passed filled =
    let short = filled.fills in
    let first = passed.first_size in
    let middle = passed.middle_size in
    let some = length-append passed.first passed.middle in
    let all = length-append (passed.first ++ passed.middle) filled.bytes in
    record {
      bytes = (passed.first ++ passed.middle) ++ filled.bytes;
      takes = Takes-trans old mid new (passed.first ++ passed.middle) filled.bytes passed.takes filled.takes;
      passes = omega (arith, short, first, middle, some, all, long);
      shows = tt;
      failed = filled.failed ∙ ap (λ (b : Bool). b || true) passed.failed;
      size = filled.size ∙ passed.same;
    }
