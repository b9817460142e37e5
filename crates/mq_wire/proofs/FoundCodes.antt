-- The code that is found for a value is the one whose value is the greatest not above it.
use Rattle.mq_wire.proofs.Common.{◌≡◌, ℕ, zero, suc, ◌+◌, ◌-◌, ◌*◌, ◌/◌, ◌%◌, ◌^◌, ◌<◌, ◌≤◌, inl, inr, nat_lt, true, false, refl, arith, subst}
use Rattle.mq_wire.proofs.Common.{pow-le-pow_right, mod-lt, mod-eq_of_lt, div-add-mod, pow-add, pow_pos, le-div, div_below, mul-le, nat_tests, leb_tells}
use Rattle.mq_wire.proofs.Common.{value_of, code_of, composed_for, IsCodeFor}
use Rattle.mq_wire.proofs.CodeValues.{composed_code, own_code}

-- the mantissa of a value, with its leading one
pub mantissa_bounds : (bits e v : ℕ) → 2 ^ (bits + e + 3) ≤ v → v < 2 ^ (bits + e + 4) → (2 ^ bits ≤ v / 2 ^ (e + 3)) × (v / 2 ^ (e + 3) < 2 ^ bits + 2 ^ bits)
mantissa_bounds bits e v low high =
    let base : 2 ^ (bits + (e + 3)) ≡ 2 ^ bits * 2 ^ (e + 3) = pow-add 2 bits (e + 3) in
    let sum : bits + (e + 3) ≡ bits + e + 3 = omega arith in
    let base_now : 2 ^ (bits + e + 3) ≡ 2 ^ bits * 2 ^ (e + 3) = rw sum at base in
    let next : bits + e + 3 + 1 ≡ bits + e + 4 = omega arith in
    let twice : 2 ^ (bits + e + 4) ≡ 2 ^ (bits + e + 3) * 2 ^ 1 = rw next at (pow-add 2 (bits + e + 3) 1) in (
      le-div (2 ^ bits) v (2 ^ (e + 3)) (pow_pos (e + 3)) (omega (arith, base_now, low)),
      div_below v (2 ^ (e + 3)) (2 ^ bits + 2 ^ bits) (pow_pos (e + 3)) (omega (arith, base_now, twice, high)),
    )

found : (bits e v : ℕ) → e < 8 → 2 ^ (bits + e + 3) ≤ v → v < 2 ^ (bits + e + 4) →
    IsCodeFor (value_of bits) (16 * 2 ^ bits - 1) v ((8 + e) * 2 ^ bits + (v / 2 ^ (e + 3) - 2 ^ bits))
found bits e v less low high =
    let p = 2 ^ (e + 3) in
    let bounds = mantissa_bounds bits e v low high in
    let parts : p * (v / p) + v % p ≡ v = div-add-mod v p in
    let rest : v % p < p = mod-lt v (pow_pos (e + 3)) in
    let whole : 2 ^ bits + (v / p - 2 ^ bits) ≡ v / p = omega (arith, bounds.0) in
    let below : (2 ^ bits + (v / p - 2 ^ bits)) * p ≤ v = rw whole (omega (arith, parts)) in
    let above : v < (2 ^ bits + (v / p - 2 ^ bits) + 1) * p = rw whole (omega (arith, parts, rest)) in
    composed_code bits e (v / p - 2 ^ bits) v (omega (arith, bounds.1)) less below (inl above)

-- a value that no code is above has the greatest code
greatest : (bits v : ℕ) → 2 ^ (bits + 11) ≤ v → IsCodeFor (value_of bits) (16 * 2 ^ bits - 1) v (16 * 2 ^ bits - 1)
greatest bits v high =
    let base : 2 ^ (bits + 11) ≡ 2 ^ bits * 2 ^ 11 = pow-add 2 bits 11 in
    let some : 0 < 2 ^ bits = pow_pos bits in
    let code : (8 + 7) * 2 ^ bits + (2 ^ bits - 1) ≡ 16 * 2 ^ bits - 1 = omega (arith, some) in
    subst (λ (c : ℕ). IsCodeFor (value_of bits) (16 * 2 ^ bits - 1) v c) code
    (composed_code bits 7 (2 ^ bits - 1) v (omega (arith, some)) (omega arith) (omega (arith, base, some, high)) (inr (refl, omega (arith, some))))

composed_is_code : (bits v left e : ℕ) → left + e ≡ 8 → 2 ^ (bits + e + 3) ≤ v → IsCodeFor (value_of bits) (16 * 2 ^ bits - 1) v (composed_for bits v left e)
composed_is_code bits v zero e all low =
    let last : e ≡ 8 = omega (arith, all) in
    let place : bits + e + 3 ≡ bits + 11 = omega (arith, last) in
    greatest bits v (rw place at low)
composed_is_code bits v (suc left) e all low =
    elim (leb_tells (2 ^ (bits + e + 4)) v) [
      | inr less ↦ (
          let test : nat_lt v (2 ^ (bits + e + 4)) ≡ true = grind (arith, nat_tests, less.0) in
          rw test (found bits e v (omega (arith, all)) low less.1)
          )
      | inl more ↦ (
          let test : nat_lt v (2 ^ (bits + e + 4)) ≡ false = grind (arith, nat_tests, more.0) in
          let place : bits + e + 4 ≡ bits + (e + 1) + 3 = omega arith in
          rw test (composed_is_code bits v left (e + 1) (omega (arith, all)) (rw place at more.1))
          )
    ]

pub code_is_greatest : (bits v : ℕ) → IsCodeFor (value_of bits) (16 * 2 ^ bits - 1) v (code_of bits v)
unfolding code_of
code_is_greatest bits v =
    elim (leb_tells (2 ^ (bits + 3)) v) [
      | inr own ↦ (
          let test : nat_lt v (2 ^ (bits + 3)) ≡ true = grind (arith, nat_tests, own.0) in
          rw test (own_code bits v own.1)
          )
      | inl composed ↦ (
          let test : nat_lt v (2 ^ (bits + 3)) ≡ false = grind (arith, nat_tests, composed.0) in
          let place : bits + 3 ≡ bits + 0 + 3 = omega arith in
          rw test (composed_is_code bits v 8 0 refl (rw place at composed.1))
          )
    ]

-- the code of a value that is its own
pub own : (bits v : ℕ) → v < 2 ^ (bits + 3) → code_of bits v ≡ v
unfolding code_of
own bits v less =
    let test : nat_lt v (2 ^ (bits + 3)) ≡ true = grind (arith, nat_tests, less) in rw test refl

-- how the code of another is found, from the least exponent on
pub begins : (bits v : ℕ) → 2 ^ (bits + 3) ≤ v → code_of bits v ≡ composed_for bits v 8 0
unfolding code_of
begins bits v more =
    let test : nat_lt v (2 ^ (bits + 3)) ≡ false = grind (arith, nat_tests, more) in rw test refl

stops_at : (bits v left e : ℕ) → v < 2 ^ (bits + e + 4) → composed_for bits v (suc left) e ≡ (8 + e) * 2 ^ bits + (v / 2 ^ (e + 3) - 2 ^ bits)
stops_at bits v left e less =
    let test : nat_lt v (2 ^ (bits + e + 4)) ≡ true = grind (arith, nat_tests, less) in rw test refl

goes_on_at : (bits v left e : ℕ) → 2 ^ (bits + e + 4) ≤ v → composed_for bits v (suc left) e ≡ composed_for bits v left (e + 1)
goes_on_at bits v left e more =
    let test : nat_lt v (2 ^ (bits + e + 4)) ≡ false = grind (arith, nat_tests, more) in rw test refl

pub stops : (bits v e : ℕ) → e < 8 → v < 2 ^ (bits + e + 4) → composed_for bits v (8 - e) e ≡ (8 + e) * 2 ^ bits + (v / 2 ^ (e + 3) - 2 ^ bits)
stops bits v e less below =
    let left : 8 - e ≡ suc (7 - e) = omega (arith, less) in rw left (stops_at bits v (7 - e) e below)

pub goes_on : (bits v e : ℕ) → e < 8 → 2 ^ (bits + e + 4) ≤ v → composed_for bits v (8 - e) e ≡ composed_for bits v (8 - (e + 1)) (e + 1)
goes_on bits v e less more =
    let left : 8 - e ≡ suc (8 - (e + 1)) = omega (arith, less) in
    rw left (goes_on_at bits v (8 - (e + 1)) e more)

-- shifts that fit 32 bits
pub shifted : (k : ℕ) → k ≤ 23 → 1 * 2 ^ k % 4294967296 ≡ 2 ^ k
shifted k small =
    let most : 2 ^ k ≤ 2 ^ 23 = pow-le-pow_right (omega arith) {i = k} {j = 23} (omega (arith, small)) in
    let one : 1 * 2 ^ k ≡ 2 ^ k = omega arith in rw one (mod-eq_of_lt (omega (arith, most)))

pub shifted_base : (n bits : ℕ) → n ≤ 16 → bits ≤ 12 → n * 2 ^ bits % 4294967296 ≡ n * 2 ^ bits
shifted_base n bits few small =
    let most : 2 ^ bits ≤ 2 ^ 12 = pow-le-pow_right (omega arith) {i = bits} {j = 12} (omega (arith, small)) in
    let all : n * 2 ^ bits ≤ 16 * 2 ^ 12 = mul-le n (2 ^ bits) 16 (2 ^ 12) few most in mod-eq_of_lt (omega (arith, all))

-- the greatest code follows the last exponent
pub ends : (bits v e : ℕ) → e ≡ 8 → composed_for bits v (8 - e) e ≡ 16 * 2 ^ bits - 1
ends bits v e last = rw last refl

-- no code is greater than the greatest
pub fits_sum : (bits e m : ℕ) → bits ≤ 12 → e < 8 → m < 2 ^ bits + 2 ^ bits → (8 + e) * 2 ^ bits + (m - 2 ^ bits) < 4294967296
fits_sum bits e m small less below =
    let most : 2 ^ bits ≤ 2 ^ 12 = pow-le-pow_right (omega arith) {i = bits} {j = 12} (omega (arith, small)) in
    let all : (8 + e) * 2 ^ bits ≤ 16 * 2 ^ 12 = mul-le (8 + e) (2 ^ bits) 16 (2 ^ 12) (omega (arith, less)) most in omega (arith, all, most, below)
