-- Walking over options: one step of the walk is one option of the list.
use Rattle.std.proofs.Common.{◌≡◌, ◌≤◌, ◌<◌, ◌+◌, ◌-◌, ℕ, zero, suc, List, [], ◌∷◌, length, take, drop, false, refl, ap, arith, length-drop}
use Rattle.std.specs.Prelude.{◌==◌, slice_index, slice_range}
use Rattle.std.proofs.lemmas.{Bool.lt-ltb, Bool.ne_eqb, List.take_all}
use Rattle.mq_pcap.specs.Options.{options_within, options_of}

-- as many options as there are bytes are all of them
enough : (most n : ℕ) (bytes : List ℕ) → length bytes ≤ most → length bytes ≤ n → options_within most bytes ≡ options_within n bytes
enough zero zero [] a b = refl
enough zero (suc n) [] a b = refl
enough (suc most) zero [] a b = refl
enough (suc most) (suc n) [] a b = refl
enough zero n (kind ∷ bytes) a b = absurd (omega arith)
enough (suc most) zero (kind ∷ bytes) a b = absurd (omega arith)
enough (suc most) (suc n) (kind ∷ bytes) a b =
    let end = slice_index bytes 0 + 1 in
    let rest = enough most n bytes (omega arith) (omega arith) in
    let behind = enough most n (drop end bytes) (omega (arith, length-drop end bytes)) (omega (arith, length-drop end bytes)) in
    rw (rest, behind) refl

-- an option that fits and isn't Pad1, and the bytes after this option
pub options_of-option : (kind : ℕ) (bytes : List ℕ) → (kind == 0) ≡ false → slice_index bytes 0 < length bytes →
    options_of (kind ∷ bytes) ≡ (kind, slice_range bytes 1 (slice_index bytes 0 + 1)) ∷ options_of (drop (slice_index bytes 0 + 1) bytes)
options_of-option kind bytes other fits =
    let end = slice_index bytes 0 + 1 in
    let behind = enough (length bytes) (length (drop end bytes)) (drop end bytes) (omega (arith, length-drop end bytes)) (omega arith) in
    rw (other, lt-ltb _ _ fits) (ap (λ options. (kind, slice_range bytes 1 end) ∷ options) behind)

-- the slice from a place to the end
pub from_place : {X : Type 0} (place : ℕ) (xs : List X) → take (length xs - place) (drop place xs) ≡ drop place xs
from_place place xs = take_all (length xs - place) (drop place xs) (omega (arith, length-drop place xs))

-- the same with what the code of the first option has
pub first_option_is : (kind length_byte : ℕ) (bytes behind : List ℕ) → bytes ≡ kind ∷ behind → (kind ≡ 0 → ⊥) → length_byte ≡ slice_index behind 0 →
    length_byte + 1 ≤ length behind →
    options_of bytes ≡ (kind, take (length_byte + 1 - 1) (drop 1 behind)) ∷ options_of
    (take (length behind - (length_byte + 1)) (drop (length_byte + 1) behind))
first_option_is kind length_byte bytes behind is other at fits =
    rw (is, from_place (length_byte + 1) behind, at) (options_of-option kind behind (ne_eqb kind 0 other) (omega (arith, at)))
