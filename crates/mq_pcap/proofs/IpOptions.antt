-- Walking over the options of an IPv4 header: one step of the walk is one option of the list.
use Rattle.std.proofs.Common.{◌≡◌, ◌≤◌, ◌+◌, ◌-◌, ℕ, zero, suc, List, [], ◌∷◌, length, take, drop, false, refl, ap, arith, length-drop}
use Rattle.std.{specs.Prelude.◌==◌, specs.Prelude.slice_index, proofs.lemmas.Bool.le-ltb, proofs.lemmas.Bool.ne_eqb, proofs.lemmas.List.take_all}
use Rattle.mq_pcap.specs.IpOptions.{types_within, types_of}

-- as many options as there are bytes are all of them
enough : (most n : ℕ) (bytes : List ℕ) → length bytes ≤ most → length bytes ≤ n → types_within most bytes ≡ types_within n bytes
enough zero zero [] a b = refl
enough zero (suc n) [] a b = refl
enough (suc most) zero [] a b = refl
enough (suc most) (suc n) [] a b = refl
enough zero n (kind ∷ bytes) a b = absurd (omega arith)
enough (suc most) zero (kind ∷ bytes) a b = absurd (omega arith)
enough (suc most) (suc n) (kind ∷ bytes) a b =
    let end = slice_index bytes 0 - 1 in
    let rest = enough most n bytes (omega arith) (omega arith) in
    let behind = enough most n (drop end bytes) (omega (arith, length-drop end bytes)) (omega (arith, length-drop end bytes)) in
    rw (rest, behind) refl

-- an option that fits and isn't of a single byte, and the bytes after it
types_of-option : (kind : ℕ) (bytes : List ℕ) → (kind == 0) ≡ false → (kind == 1) ≡ false → 2 ≤ slice_index bytes 0 → slice_index bytes 0 ≤ length bytes + 1 →
    types_of (kind ∷ bytes) ≡ kind ∷ types_of (drop (slice_index bytes 0 - 1) bytes)
types_of-option kind bytes other several long fits =
    let end = slice_index bytes 0 - 1 in
    let behind = enough (length bytes) (length (drop end bytes)) (drop end bytes) (omega (arith, length-drop end bytes)) (omega arith) in
    rw (other, several, le-ltb _ _ long, le-ltb _ _ fits) (ap (λ types. kind ∷ types) behind)

from_place : {X : Type 0} (place : ℕ) (xs : List X) → take (length xs - place) (drop place xs) ≡ drop place xs
from_place place xs = take_all (length xs - place) (drop place xs) (omega (arith, length-drop place xs))

-- the same with what the code of the first option has
pub first_option_is : (kind end : ℕ) (bytes behind : List ℕ) → bytes ≡ kind ∷ behind → (kind ≡ 0 → ⊥) → (kind ≡ 1 → ⊥) → end ≡ slice_index behind 0 →
    2 ≤ end → end ≤ length behind + 1 →
    types_of bytes ≡ kind ∷ types_of (take (length behind - (end - 1)) (drop (end - 1) behind))
first_option_is kind end bytes behind is other several at long fits =
    rw (is, from_place (end - 1) behind, at)
    (types_of-option kind behind (ne_eqb kind 0 other) (ne_eqb kind 1 several) (omega (arith, at, long)) (omega (arith, at, fits)))
