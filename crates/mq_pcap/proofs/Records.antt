-- A record whose header and body were taken one after the other.
use Rattle.std.proofs.Common.{◌≡◌, ◌≤◌, ◌<◌, ◌+◌, ◌^◌, ◌||◌, ℕ, List, ◌++◌, length, take, drop, Some, Result, Ok, Err, refl, arith, ◌∙◌, ap, inr, subst}
use Rattle.std.{proofs.Common.length-append, proofs.Common.length-drop, proofs.Math.Bool.or-false, proofs.Math.Seq.drop-append-le, specs.Prelude.is_err}
use Rattle.std.proofs.lemmas.{Bool.le-ltb, Bool.lt-ltb, List.take_all, List.take_at, List.length-take-le}
use Rattle.byteorder.specs.Numbers.{big_from-append, little_from-append}
use Rattle.mq_pcap.specs.declared.form.{Endian.Endian, Endian.TheVariants.Big, Endian.TheVariants.Little, Form.Form}
use Rattle.mq_pcap.specs.{Capture.number_in, Capture.stamp_of, Capture.captured_length, Capture.most_bytes, Capture.endless, Reading.Reads}
use Rattle.mq_pcap.{specs.Filling.InputState, specs.Filling.Takes, specs.Filling.Fills, proofs.Filled.Takes-trans}
use Rattle.mq_pcap.specs.declared.fault.PcapFault.TheVariants as fault

-- a number is in the bytes that it has
pub number_in-append : (order : Endian) (n : ℕ) (xs ys : List ℕ) → n ≤ length xs → number_in order n (xs ++ ys) ≡ number_in order n xs
number_in-append Big n xs ys fits = big_from-append n xs ys fits
number_in-append Little n xs ys fits = little_from-append n xs ys fits

-- a header's length field does not depend on later bytes
pub captured_length-append : (form : Form) (bytes more : List ℕ) → 16 ≤ length bytes → captured_length form (bytes ++ more) ≡ captured_length form bytes
captured_length-append form bytes more whole =
    ap (number_in form.order 4) (drop-append-le 8 bytes more (omega (arith, whole)))
    ∙ number_in-append form.order 4 (drop 8 bytes) more (omega (arith, whole, length-drop 8 bytes))

pub length_of_header : (form : Form) (header body : List ℕ) → length header ≡ 16 → captured_length form (header ++ body) ≡ captured_length form header
length_of_header form header body size = captured_length-append form header body (omega (arith, size))

-- a header that was filled was taken
header_taken : {E : Type 0} (old mid : InputState) (header : List ℕ) (count : ℕ) → length header ≡ 16 → 16 ≤ count →
    Fills {E = E} old mid header (Ok count) → Takes old mid header
header_taken old mid header count size whole fills =
    subst (λ bytes. Takes old mid bytes) (fills.fills.0 ∙ take_all count header (omega (arith, size))) fills.takes

none_failed : {E : Type 0} (old mid new : InputState) (header body : List ℕ) (count : ℕ) (answer : Result ℕ E) →
    Fills {E = E} old mid header (Ok count) → Fills mid new body answer → new.failed ≡ (old.failed || is_err answer)
none_failed old mid new header body count answer first second = rw (← or-false old.failed, ← first.failed) second.failed

pub record_read : {E : Type 0} (form : Form) (number : ℕ) (old mid new : InputState) (header body rest : List ℕ) (count n m stamp : ℕ) →
    number < endless → length header ≡ 16 → 16 ≤ count → n ≡ captured_length form header → (within : n ≤ most_bytes) → length body ≡ n → n ≤ m →
    (in_range : stamp ≤ 2 ^ 53) → stamp ≡ stamp_of form header →
    Fills {E = E} old mid header (Ok count) → Fills {E = E} mid new body (Ok m) →
    Reads form number old new (body ++ rest) (Ok (Some (record { stamp_ms = stamp; length = n; within = within; in_range = in_range })))
record_read form number old mid new header body rest count n m stamp few size whole announced within length_is filled in_range at first second =
    let lent = take_at body rest n length_is in
    record {
      bytes = header ++ body;
      takes = Takes-trans old mid new header body (header_taken old mid header count size whole first)
          (subst (λ bytes. Takes mid new bytes) (second.fills.0 ∙ take_all m body (omega (arith, length_is))) second.takes);
      answers = (
        few,
        record {
          header = header;
          parts = rw lent refl;
          header_length = size;
          stamp = at;
          captured = rw lent (length_is ∙ announced);
          within = rw lent (omega (arith, length_is));
        },
      );
      failed = none_failed old mid new header body count (Ok m) first second;
    }

pub data_cut : {E : Type 0} (form : Form) (number : ℕ) (old mid new : InputState) (header body rest : List ℕ) (count n m : ℕ) →
    number < endless → length header ≡ 16 → 16 ≤ count → n ≡ captured_length form header → n ≤ most_bytes → length body ≡ n → m < n →
    Fills {E = E} old mid header (Ok count) → Fills {E = E} mid new body (Ok m) →
    Reads form number old new (body ++ rest) (Err (fault.CutData number))
data_cut form number old mid new header body rest count n m few size whole announced within length_is short first second =
    let bytes = header ++ take m body in
    let taken = length-append header (take m body) in
    let part = length-take-le m body (omega (arith, length_is)) in
    let says = length_of_header form header (take m body) size in
    record {
      bytes = bytes;
      takes = Takes-trans old mid new header (take m body) (header_taken old mid header count size whole first)
          (subst (λ bytes. Takes mid new bytes) second.fills.0 second.takes);
      answers = (
        rw (
          le-ltb (length bytes) 1 (omega (arith, taken, size)),
          lt-ltb number endless few,
          le-ltb (length bytes) 16 (omega (arith, taken, size)),
          le-ltb most_bytes (captured_length form bytes) (omega (arith, says, announced)),
          lt-ltb (length bytes) (16 + captured_length form bytes) (omega (arith, says, announced, taken, part, size)),
        ) refl,
        second.fills.2 (omega (arith, length_is)),
      );
      failed = none_failed old mid new header body count (Ok m) first second;
    }

pub data_failed : {E : Type 0} (form : Form) (number : ℕ) (old mid new : InputState) (header body rest : List ℕ) (count n : ℕ) (e : E) →
    length header ≡ 16 → 16 ≤ count → n ≡ captured_length form header → n ≤ most_bytes → length body ≡ n →
    Fills {E = E} old mid header (Ok count) → Fills mid new body (Err e) →
    Reads form number old new (body ++ rest) (Err fault.Read)
data_failed form number old mid new header body rest count n e size whole announced within length_is first second =
    let bytes = header ++ second.bytes in
    let says = length_of_header form header second.bytes size in
    record {
      bytes = bytes;
      takes = Takes-trans old mid new header second.bytes (header_taken old mid header count size whole first) second.takes;
      answers = inr (omega (arith, says, announced), omega (arith, says, announced, length-append header second.bytes, second.fills, length_is, size));
      failed = none_failed old mid new header body count (Err e) first second;
    }
