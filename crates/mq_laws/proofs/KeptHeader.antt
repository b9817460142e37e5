-- The header of a classic capture of Ethernet in nanoseconds, as a block of a file that is converted.
use Rattle.mq_laws.proofs.Common.{◌≡◌, ◌≤◌, ◌<◌, ◌%◌, ℕ, Bool, true, false, List, ◌++◌, length, take, drop, None, Some, Result, Ok, refl, arith, sym, ◌∙◌, ap}
use Rattle.mq_laws.proofs.Common.{nat_lt, ◌==◌, eqb-true, ltb-false, ne_eqb, length-take-le, All-drop, take-add, little_bytes, PcapFault, Big, Little, Form}
use Rattle.mq_laws.proofs.Common.{field, magic_of, block_in, seen_in, at_start, file_header, IsWhole, section_type, looked_at, plain, ◌&&◌, Endian, Nanoseconds}
use Rattle.mq_pcap.specs.declared.form.Fraction.{Fraction, TheVariants.Microseconds}
use Rattle.mq_pcap.specs.{declared.link_type.LinkType.TheVariants.Ethernet, declared.link_type.LinkType.TheVariants.RawIp, Capture.header_in, Capture.header_of}
use Rattle.mq_convert.specs.{declared.context.Kind.TheVariants.Start, Blocks.classic_in, Blocks.first_in, Sizes.first_size, Sizes.form_in}
use Rattle.mq_laws.proofs.KeptBytes.{AreBytes, each_byte, field-take, four_at, low_two_at}
use Rattle.mq_laws.proofs.KeptRecords.{behind_header, whole_seen}

-- the fields of the header beside its magic number
record SaysPlain (order : Endian) (fraction : Fraction) (bytes : List ℕ) : Type 0 where
  order_is : order ≡ Little
  fraction_is : fraction ≡ Nanoseconds
  version : (field order 4 2 bytes == 2 && field order 6 2 bytes == 4) ≡ true
  link : (field order 20 4 bytes % 65536 == 1) ≡ true

form_one : (a b : Form) (x : Result Form PcapFault) → x ≡ Ok a → x ≡ Ok b → a ≡ b
form_one a b x is other = let c : Ok a ≡ Ok b = sym is ∙ other in cc

says_plain : (order : Endian) (fraction : Fraction) (bytes : List ℕ) → header_in order fraction bytes ≡ Ok plain → SaysPlain order fraction bytes
unfolding header_in
says_plain order fraction bytes is =
    by_tests (field order 4 2 bytes == 2 && field order 6 2 bytes == 4) (field order 20 4 bytes % 65536 == 1)
    (field order 20 4 bytes % 65536 == 101) refl refl refl
  where
    by_tests : (v e r : Bool) → (field order 4 2 bytes == 2 && field order 6 2 bytes == 4) ≡ v → (field order 20 4 bytes % 65536 == 1) ≡ e →
        (field order 20 4 bytes % 65536 == 101) ≡ r → SaysPlain order fraction bytes
    by_tests false e r a b c = absurd (let d = rw a at is in cc)
    by_tests true true r a b c =
        let d = rw (a, b) at is in
        let same = form_one (record { order = order; fraction = fraction; link = Ethernet }) plain _ refl d in
        record { order_is = ap (λ (f : Form). f.order) same; fraction_is = ap (λ (f : Form). f.fraction) same; version = a; link = b }
    by_tests true false true a b c =
        absurd (let d = rw (a, b, c) at is in
        let same = ap (λ (f : Form). f.link) (form_one (record { order = order; fraction = fraction; link = RawIp }) plain _ refl d) in
        cc)
    by_tests true false false a b c = absurd (let d = rw (a, b, c) at is in cc)

-- the facts about the header of such a file, test by test
pub record IsPlainHeader (bytes : List ℕ) : Type 0 where
  pub long : 24 ≤ length bytes
  pub big_micro : (field Big 0 4 bytes == magic_of Microseconds) ≡ false
  pub big_nano : (field Big 0 4 bytes == magic_of Nanoseconds) ≡ false
  pub little_micro : (field Little 0 4 bytes == magic_of Microseconds) ≡ false
  pub magic : (field Little 0 4 bytes == magic_of Nanoseconds) ≡ true
  pub version : (field Little 4 2 bytes == 2 && field Little 6 2 bytes == 4) ≡ true
  pub link : (field Little 20 4 bytes % 65536 == 1) ≡ true

pub plain_header : (bytes : List ℕ) → header_of bytes ≡ Ok plain → IsPlainHeader bytes
unfolding header_of
plain_header bytes is =
    by_tests (nat_lt (length bytes) 24) (field Big 0 4 bytes == magic_of Microseconds) (field Big 0 4 bytes == magic_of Nanoseconds)
    (field Little 0 4 bytes == magic_of Microseconds) (field Little 0 4 bytes == magic_of Nanoseconds) refl refl refl refl refl
  where
    by_tests : (s a b c d : Bool) → nat_lt (length bytes) 24 ≡ s → (field Big 0 4 bytes == magic_of Microseconds) ≡ a →
        (field Big 0 4 bytes == magic_of Nanoseconds) ≡ b
        → (field Little 0 4 bytes == magic_of Microseconds) ≡ c → (field Little 0 4 bytes == magic_of Nanoseconds) ≡ d → IsPlainHeader bytes
    by_tests true a b c d s' a' b' c' d' = absurd (let e = rw s' at is in cc)
    by_tests false true b c d s' a' b' c' d' = absurd (let e = (says_plain Big Microseconds bytes (rw (s', a') at is)).order_is in cc)
    by_tests false false true c d s' a' b' c' d' = absurd (let e = (says_plain Big Nanoseconds bytes (rw (s', a', b') at is)).order_is in cc)
    by_tests false false false true d s' a' b' c' d' = absurd (let e = (says_plain Little Microseconds bytes (rw (s', a', b', c') at is)).fraction_is in cc)
    by_tests false false false false true s' a' b' c' d' =
        let e = says_plain Little Nanoseconds bytes (rw (s', a', b', c', d') at is) in
        record { long = ltb-false (length bytes) 24 s'; big_micro = a'; big_nano = b'; little_micro = c'; magic = d'; version = e.version; link = e.link }
    by_tests false false false false false s' a' b' c' d' = absurd (let e = rw (s', a', b', c', d') at is in cc)

-- it is no section header
no_section : (bytes : List ℕ) → AreBytes bytes → (field Little 0 4 bytes == magic_of Nanoseconds) ≡ true → (field Big 0 4 bytes == section_type) ≡ false
no_section bytes all magic =
    ne_eqb (field Big 0 4 bytes) section_type (λ section. let is = eqb-true (field Little 0 4 bytes) (magic_of Nanoseconds) magic in
    omega (arith, section, is, each_byte bytes all 0, each_byte bytes all 1, each_byte bytes all 2, each_byte bytes all 3))

-- it is the first block of the file
pub header_whole : (bytes : List ℕ) → AreBytes bytes → IsPlainHeader bytes → IsWhole Start (take 24 bytes)
unfolding first_size form_in
header_whole bytes all h =
    let size = length-take-le 24 bytes h.long in
    let long : 12 ≤ length (take 24 bytes) = omega (arith, size) in
    let big : field Big 0 4 (take 12 (take 24 bytes)) ≡ field Big 0 4 bytes = field-take Big 0 4 12 (take 24 bytes) (omega arith) long ∙
    field-take Big 0 4 24 bytes (omega arith) h.long in
    let little : field Little 0 4 (take 12 (take 24 bytes)) ≡ field Little 0 4 bytes = field-take Little 0 4 12 (take 24 bytes) (omega arith) long ∙
    field-take Little 0 4 24 bytes (omega arith) h.long in
    let section = no_section bytes all h.magic in
    record { head = long; size = rw (size, big, little, section, h.big_micro, h.big_nano, h.little_micro, h.magic) refl }

both_true : (a b : Bool) → (a && b) ≡ true → (a ≡ true) × (b ≡ true)
both_true true true is = (refl, refl)
both_true _ _ is = absurd (cc)

form_is : (bytes : List ℕ) → IsPlainHeader bytes → form_in (take 24 bytes) ≡ Some (Little, Nanoseconds)
unfolding form_in
form_is bytes h =
    let big = field-take Big 0 4 24 bytes (omega arith) h.long in
    let little = field-take Little 0 4 24 bytes (omega arith) h.long in
    rw (big, little, h.big_micro, h.big_nano, h.little_micro, h.magic) refl

classic_is : (bytes : List ℕ) → IsPlainHeader bytes → classic_in Little Nanoseconds (take 24 bytes) ≡ Ok (behind_header, None)
unfolding classic_in
classic_is bytes h =
    let tests = both_true (field Little 4 2 bytes == 2) (field Little 6 2 bytes == 4) h.version in
    let major : field Little 4 2 (take 24 bytes) ≡ 2 = field-take Little 4 2 24 bytes (omega arith) h.long ∙ eqb-true (field Little 4 2 bytes) 2 tests.0 in
    let minor : field Little 6 2 (take 24 bytes) ≡ 4 = field-take Little 6 2 24 bytes (omega arith) h.long ∙ eqb-true (field Little 6 2 bytes) 4 tests.1 in
    let link : field Little 20 4 (take 24 bytes) % 65536 ≡ 1 = ap (λ n. n % 65536) (field-take Little 20 4 24 bytes (omega arith) h.long) ∙
    eqb-true (field Little 20 4 bytes % 65536) 1 h.link in
    rw (major, minor, link) refl

pub header_read : (bytes : List ℕ) → AreBytes bytes → IsPlainHeader bytes → block_in at_start (take 24 bytes) ≡ Ok (behind_header, None)
unfolding first_in
header_read bytes all h =
    let big = field-take Big 0 4 24 bytes (omega arith) h.long in
    let section = no_section bytes all h.magic in
    let form = form_is bytes h in
    let is : seen_in at_start (length (take 24 bytes)) (take 24 bytes) ≡ Ok (behind_header, None) = rw (first_in, big, section, form) (classic_is bytes h) in
    whole_seen at_start (take 24 bytes) (omega (arith, length-take-le 24 bytes h.long)) ∙ is

-- the examined bytes are those written
pub looked_is : (bytes : List ℕ) → AreBytes bytes → IsPlainHeader bytes → looked_at bytes ≡ file_header
looked_is bytes all h =
    let long = h.long in
    let tests = both_true (field Little 4 2 bytes == 2) (field Little 6 2 bytes == 4) h.version in
    let magic = eqb-true (field Little 0 4 bytes) (magic_of Nanoseconds) h.magic in
    let major = eqb-true (field Little 4 2 bytes) 2 tests.0 in
    let minor = eqb-true (field Little 6 2 bytes) 4 tests.1 in
    let link = eqb-true (field Little 20 4 bytes % 65536) 1 h.link in
    let low : field Little 20 2 bytes ≡ 1 =
    omega (
      arith,
      link,
      each_byte (drop 20 bytes) (All-drop (λ (byte : ℕ). byte < 256) 20 bytes all) 0,
      each_byte (drop 20 bytes) (All-drop (λ (byte : ℕ). byte < 256) 20 bytes all) 1,
    ) in
    let a : take 4 bytes ≡ little_bytes 4 (magic_of Nanoseconds) = sym (four_at 0 bytes (omega (arith, long)) all) ∙ ap (little_bytes 4) magic in
    let b : take 2 (drop 4 bytes) ≡ little_bytes 2 2 = sym (low_two_at 4 bytes (omega (arith, long)) all) ∙ ap (little_bytes 2) major in
    let c : take 2 (drop 6 bytes) ≡ little_bytes 2 4 = sym (low_two_at 6 bytes (omega (arith, long)) all) ∙ ap (little_bytes 2) minor in
    let d : take 2 (drop 20 bytes) ≡ little_bytes 2 1 = sym (low_two_at 20 bytes (omega (arith, long)) all) ∙ ap (little_bytes 2) low in
    let six : take 6 bytes ≡ take 4 bytes ++ take 2 (drop 4 bytes) = take-add 4 2 bytes in
    let eight : take 8 bytes ≡ take 6 bytes ++ take 2 (drop 6 bytes) = take-add 6 2 bytes in
    rw (eight, six, a, b, c, d) refl
