-- The values of codes: a code with a greater exponent has a greater value, and so has one with a greater
-- mantissa and the same exponent.
use Rattle.mq_wire.proofs.Common.{◌≡◌, ℕ, ◌+◌, ◌-◌, ◌*◌, ◌/◌, ◌%◌, ◌^◌, ◌<◌, ◌≤◌, ◌⊎◌, inl, inr, nat_lt, true, false, ap, refl, arith, mul-le-mul_left}
use Rattle.mq_wire.proofs.Common.{mul-le-mul_right, pow-le-pow_right, mod-lt, pow-add, shr_high, mod_low, pow_pos, nat_tests, leb_tells, value_of, IsCodeFor}
use Rattle.std.proofs.lemmas.Bool.{cases_order}

-- a power of two is at most half of a greater one
pub half_of : (e f : ℕ) → e < f → 2 * 2 ^ (e + 3) ≤ 2 ^ (f + 3)
half_of e f less =
    let twice : 2 ^ (1 + (e + 3)) ≡ 2 * 2 ^ (e + 3) = pow-add 2 1 (e + 3) in
    let half : 2 ^ (1 + (e + 3)) ≤ 2 ^ (f + 3) = pow-le-pow_right (omega arith) (omega arith) in
    omega (arith, twice, half)

-- mantissas below b, each with b added: the smaller exponent has the smaller value
lower_exponent : (b m n p q : ℕ) → n < b → 2 * q ≤ p → (b + n) * q ≤ (b + m) * p
lower_exponent b m n p q small half =
    let of_mantissa : n * q ≤ b * q = mul-le-mul_right q (omega arith) in
    let of_half : b * (2 * q) ≤ b * p = mul-le-mul_left b half in
    omega (arith, of_mantissa, of_half)

-- a value of this exponent that is at most v is at most the greatest such value
same_exponent : (b m n p v : ℕ) → v < (b + m + 1) * p → (b + n) * p ≤ v → (b + n) * p ≤ (b + m) * p
same_exponent b m n p v above below =
    elim (leb_tells n m) [
      | inl less ↦ mul-le-mul_right p (omega (arith, less.1))
      | inr more ↦ (let least : (b + m + 1) * p ≤ (b + n) * p = mul-le-mul_right p (omega (arith, more.1)) in absurd (omega (arith, least)))
    ]

-- a number below the next mantissa's value is below each value with a greater exponent
higher_exponent : (b m n p q v : ℕ) → m < b → 2 * p ≤ q → v < (b + m + 1) * p → (b + n) * q ≤ v → ⊥
higher_exponent b m n p q v small half above below =
    let of_mantissa : (b + m + 1) * p ≤ (b + b) * p = mul-le-mul_right p (omega arith) in
    let of_half : b * (2 * p) ≤ b * q = mul-le-mul_left b half in
    omega (arith, of_mantissa, of_half)

-- no value that is no more than v is above the one whose next is above v
no_greater : (b m n e f v : ℕ) → m < b → n < b → v < (b + m + 1) * 2 ^ (e + 3) → (b + n) * 2 ^ (f + 3) ≤ v → (b + n) * 2 ^ (f + 3) ≤ (b + m) * 2 ^ (e + 3)
no_greater b m n e f v small_m small_n above below =
    elim (cases_order f e) [
      | inl same ↦ (
          let q_is : 2 ^ (f + 3) ≡ 2 ^ (e + 3) = ap (λ (x : ℕ). 2 ^ (x + 3)) same in
          rw q_is (same_exponent b m n (2 ^ (e + 3)) v above (rw q_is at below))
          )
      | inr other ↦ elim other [
        | inl less ↦ lower_exponent b m n (2 ^ (e + 3)) (2 ^ (f + 3)) small_n (half_of f e less)
        | inr more ↦ absurd (higher_exponent b m n (2 ^ (e + 3)) (2 ^ (f + 3)) v small_m (half_of e f more) above below)
      ]
    ]

-- the value of a code that is made of an exponent and a mantissa
value_composed : (bits e m : ℕ) → m < 2 ^ bits → e < 8 → value_of bits ((8 + e) * 2 ^ bits + m) ≡ (2 ^ bits + m) * 2 ^ (e + 3)
value_composed bits e m small less =
    let eight : 2 ^ (bits + 3) ≡ 2 ^ bits * 2 ^ 3 = pow-add 2 bits 3 in
    let top : 8 * 2 ^ bits ≤ (8 + e) * 2 ^ bits = mul-le-mul_right (2 ^ bits) (omega arith) in
    let test : nat_lt ((8 + e) * 2 ^ bits + m) (2 ^ (bits + 3)) ≡ false = grind (arith, nat_tests, eight, top) in
    let low = mod_low (8 + e) bits m small in
    let high = shr_high (8 + e) bits m small in
    let exponent : (8 + e) % 8 ≡ e = omega arith in
    rw (test, low, high, exponent) refl

-- the value of the code with the greatest mantissa and exponent is the greatest
greatest_of_all : (b n f : ℕ) → n < b → f < 8 → (b + n) * 2 ^ (f + 3) ≤ (b + (b - 1)) * 2 ^ (7 + 3)
greatest_of_all b n f small less =
    let p : 2 ^ (f + 3) ≤ 2 ^ (7 + 3) = pow-le-pow_right (omega arith) {i = f + 3} {j = 10} (omega arith) in
    let by_exponent : (b + n) * 2 ^ (f + 3) ≤ (b + n) * 2 ^ (7 + 3) = mul-le-mul_left (b + n) p in
    let by_mantissa : (b + n) * 2 ^ (7 + 3) ≤ (b + (b - 1)) * 2 ^ (7 + 3) = mul-le-mul_right (2 ^ (7 + 3)) (omega arith) in
    omega (arith, by_exponent, by_mantissa)

-- the least value with an exponent
pub least_composed : (bits e m : ℕ) → 2 ^ (bits + 3) ≤ (2 ^ bits + m) * 2 ^ (e + 3)
least_composed bits e m =
    let eight : 2 ^ (bits + 3) ≡ 2 ^ bits * 2 ^ 3 = pow-add 2 bits 3 in
    let p : 2 ^ 3 ≤ 2 ^ (e + 3) = pow-le-pow_right (omega arith) {i = 3} {j = e + 3} (omega arith) in
    let of_base : 2 ^ bits * 2 ^ 3 ≤ 2 ^ bits * 2 ^ (e + 3) = mul-le-mul_left (2 ^ bits) p in
    omega (arith, eight, of_base)

greatest_value : (bits e m v other : ℕ) → m < 2 ^ bits → e < 8 → (2 ^ bits + m) * 2 ^ (e + 3) ≤ v → (v < (2 ^ bits + m + 1) * 2 ^ (e + 3)) ⊎
    ((e ≡ 7) × (m + 1 ≡ 2 ^ bits)) → other ≤ 16 * 2 ^ bits - 1 → value_of bits other ≤ v → value_of bits other ≤ (2 ^ bits + m) * 2 ^ (e + 3)
greatest_value bits e m v other small less below next within no_more =
    let n_small : other % 2 ^ bits < 2 ^ bits = mod-lt other (pow_pos bits) in
    let f_small : other / 2 ^ bits % 8 < 8 = omega arith in
    elim (leb_tells (2 ^ (bits + 3)) other) [
      | inr own ↦ (
          let test : nat_lt other (2 ^ (bits + 3)) ≡ true = grind (arith, nat_tests, own.0) in
          rw test (let least = least_composed bits e m in omega (arith, own.1, least))
          )
      | inl composed ↦ (
          let test : nat_lt other (2 ^ (bits + 3)) ≡ false = grind (arith, nat_tests, composed.0) in
          let no_more_now = rw test at no_more in
          rw test (elim next [
            | inl above ↦ no_greater (2 ^ bits) m (other % 2 ^ bits) e (other / 2 ^ bits % 8) v small n_small above no_more_now
            | inr last ↦ (
                let greatest = greatest_of_all (2 ^ bits) (other % 2 ^ bits) (other / 2 ^ bits % 8) n_small f_small in
                let m_is : 2 ^ bits - 1 ≡ m = omega (arith, last.1) in
                rw last.0 (rw m_is at greatest)
                )
          ])
          )
    ]

-- The code of an exponent and a mantissa is the one for v if two conditions hold. Its value is at most v. And
-- the value of the next mantissa is above v, or there is no next code.
pub composed_code : (bits e m v : ℕ) → m < 2 ^ bits → e < 8 → (2 ^ bits + m) * 2 ^ (e + 3) ≤ v → (v < (2 ^ bits + m + 1) * 2 ^ (e + 3)) ⊎
    ((e ≡ 7) × (m + 1 ≡ 2 ^ bits)) → IsCodeFor (value_of bits) (16 * 2 ^ bits - 1) v ((8 + e) * 2 ^ bits + m)
composed_code bits e m v small less below next =
    let fits : (8 + e) * 2 ^ bits ≤ 15 * 2 ^ bits = mul-le-mul_right (2 ^ bits) (omega arith) in
    let value = value_composed bits e m small less in
    record {
      fits = omega (arith, fits);
      not_above = rw value below;
      greatest = λ other within no_more. rw value (greatest_value bits e m v other small less below next within no_more);
    }

-- a value below those with an exponent is its own code
pub own_code : (bits v : ℕ) → v < 2 ^ (bits + 3) → IsCodeFor (value_of bits) (16 * 2 ^ bits - 1) v v
own_code bits v less =
    let eight : 2 ^ (bits + 3) ≡ 2 ^ bits * 2 ^ 3 = pow-add 2 bits 3 in
    let test : nat_lt v (2 ^ (bits + 3)) ≡ true = grind (arith, nat_tests, less) in
    record {
      fits = omega (arith, eight);
      not_above = rw test (omega arith);
      greatest = λ other within no_more. rw test no_more;
    }
