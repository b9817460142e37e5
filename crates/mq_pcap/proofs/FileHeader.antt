-- The content of a file's header, whatever bytes follow it.
use Rattle.std.proofs.Common.{◌≡◌, ◌≤◌, ◌+◌, ℕ, List, ◌++◌, length, drop, refl, arith, ◌∙◌, ap, length-append, length-drop}
use Rattle.std.proofs.{lemmas.Bool.le-ltb, Math.Seq.drop-append-le}
use Rattle.mq_pcap.specs.declared.form.Endian.{Endian, TheVariants.Big, TheVariants.Little}
use Rattle.mq_pcap.specs.declared.form.Fraction.{Fraction, TheVariants.Microseconds, TheVariants.Nanoseconds}
use Rattle.mq_pcap.{specs.Capture.field, specs.Capture.number_in, specs.Capture.header_in, specs.Capture.header_of, proofs.Records.number_in-append}

pub field-append : (order : Endian) (place n : ℕ) (bytes more : List ℕ) → place + n ≤ length bytes → field order place n (bytes ++ more)
    ≡ field order place n bytes
field-append order place n bytes more within =
    ap (number_in order n) (drop-append-le place bytes more (omega (arith, within)))
    ∙ number_in-append order n (drop place bytes) more (omega (arith, within, length-drop place bytes))

header_in-append : (order : Endian) (fraction : Fraction) (bytes more : List ℕ) → 24 ≤ length bytes → header_in order fraction (bytes ++ more)
    ≡ header_in order fraction bytes
unfolding header_in
header_in-append order fraction bytes more whole =
    let kind = field-append order 20 4 bytes more (omega (arith, whole)) in
    let major = field-append order 4 2 bytes more (omega (arith, whole)) in
    let minor = field-append order 6 2 bytes more (omega (arith, whole)) in
    rw (kind, major, minor) refl

pub header_of-append : (bytes more : List ℕ) → 24 ≤ length bytes → header_of (bytes ++ more) ≡ header_of bytes
unfolding header_of
header_of-append bytes more whole =
    let big = field-append Big 0 4 bytes more (omega (arith, whole)) in
    let little = field-append Little 0 4 bytes more (omega (arith, whole)) in
    let long = le-ltb (length bytes) 24 whole in
    let longer = le-ltb (length (bytes ++ more)) 24 (omega (arith, whole, length-append bytes more)) in
    let a = header_in-append Big Microseconds bytes more whole in
    let b = header_in-append Big Nanoseconds bytes more whole in
    let c = header_in-append Little Microseconds bytes more whole in
    let d = header_in-append Little Nanoseconds bytes more whole in
    rw (big, little, long, longer, a, b, c, d) refl
