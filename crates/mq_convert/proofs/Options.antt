-- Walking over options: one step of the walk is one option of the list.
use Rattle.mq_convert.proofs.Common.{◌≡◌, ◌≤◌, ◌+◌, ◌-◌, ℕ, zero, suc, Bool, true, false, List, [], ◌∷◌, length, take, drop, min, refl, arith, length-drop}
use Rattle.mq_convert.proofs.Common.{nat_lt, slice_range, lt-ltb, le-ltb, ltb-false, ne_eqb, field, from_place, filled_up, options_within, options_of}
use Rattle.mq_pcap.specs.declared.form.Endian.{Endian}

-- the bytes after the first option
abbrev behind : Endian → List ℕ → List ℕ
behind order bytes = drop (min (length bytes) (filled_up (4 + field order 2 2 bytes))) bytes

one_more : (order : Endian) (most n : ℕ) (bytes : List ℕ) (short : Bool) → nat_lt (length bytes) 4 ≡ short
    → (short ≡ false → options_within order most (behind order bytes) ≡ options_within order n (behind order bytes))
    → options_within order (suc most) bytes ≡ options_within order (suc n) bytes
one_more order most n bytes true is same = rw is refl
one_more order most n bytes false is same = let rest = same refl in rw (is, rest) refl

-- as many options as there are bytes are all of them
enough : (order : Endian) (most n : ℕ) (bytes : List ℕ) → length bytes ≤ most → length bytes ≤ n →
    options_within order most bytes ≡ options_within order n bytes
enough order zero zero bytes a b = refl
enough order zero (suc n) bytes a b = let short = lt-ltb (length bytes) 4 (omega arith) in rw short refl
enough order (suc most) zero bytes a b = let short = lt-ltb (length bytes) 4 (omega arith) in rw short refl
enough order (suc most) (suc n) bytes a b =
    one_more order most n bytes (nat_lt (length bytes) 4) refl
    (λ long.
    let size = length-drop (min (length bytes) (filled_up (4 + field order 2 2 bytes))) bytes in
    let whole = ltb-false (length bytes) 4 long in
    enough order most n (behind order bytes) (omega arith) (omega arith))

-- an option that fits, and the bytes after this option
pub options_of-option : (order : Endian) (bytes : List ℕ) → 4 ≤ length bytes → (field order 0 2 bytes ≡ 0 → ⊥) → 4 + field order 2 2 bytes ≤ length bytes →
    options_of order bytes ≡ (field order 0 2 bytes, slice_range bytes 4 (4 + field order 2 2 bytes)) ∷ options_of order (behind order bytes)
options_of-option order [] whole other fits = absurd (omega arith)
options_of-option order (byte ∷ rest) whole other fits =
    let bytes : List ℕ = byte ∷ rest in
    let size = length-drop (min (length bytes) (filled_up (4 + field order 2 2 bytes))) bytes in
    let same = enough order (length rest) (length (behind order bytes)) (behind order bytes) (omega arith) (omega arith) in
    let a = le-ltb (length bytes) 4 whole in
    let b = ne_eqb (field order 0 2 bytes) 0 other in
    let c = le-ltb (length bytes) (4 + field order 2 2 bytes) fits in
    rw (a, b, c, same) refl

-- the same with what the code of the first option has
pub first_option_is : (order : Endian) (bytes : List ℕ) (code size place : ℕ) → 4 ≤ length bytes → code ≡ field order 0 2 bytes →
    size ≡ field order 2 2 bytes → (code ≡ 0 → ⊥) → 4 + size ≤ length bytes
    → place ≡ min (length bytes) (filled_up (4 + size)) →
    options_of order bytes ≡ (code, take (4 + size - 4) (drop 4 bytes)) ∷ options_of order (take (length bytes - place) (drop place bytes))
first_option_is order bytes code size place whole is_code is_size other fits is_place =
    rw (is_place, from_place (min (length bytes) (filled_up (4 + size))) bytes, is_code, is_size)
    (options_of-option order bytes whole (rw is_code at other) (rw is_size at fits))
