-- The values of codes, which all differ.
use Rattle.mq_laws.proofs.Common.{◌≡◌, ℕ, ◌+◌, ◌-◌, ◌*◌, ◌/◌, ◌%◌, ◌^◌, ◌<◌, ◌≤◌, inl, inr, true, false, ap, sym, ◌∙◌, arith, mul-le-mul_left, mul-le-mul_right}
use Rattle.mq_laws.proofs.Common.{mod-lt, pow-add, pow_pos, div-add-mod', cases_order, nat_tests, leb_tells, value_of, nat_lt}
use Rattle.mq_wire.proofs.CodeValues.{half_of, least_composed}
use Rattle.mq_laws.specs.Messages.{CodesComeBack}

-- the smaller exponent has a smaller value
apart : (b m n p q : ℕ) → m < b → 0 < p → 2 * p ≤ q → (b + m) * p ≡ (b + n) * q → ⊥
apart b m n p q small some half same =
    let of_mantissa : (b + m + 1) * p ≤ (b + b) * p = mul-le-mul_right p (omega arith) in
    let of_half : b * (2 * p) ≤ b * q = mul-le-mul_left b half in
    omega (arith, of_mantissa, of_half, same)

-- under one exponent the mantissas are one
same_mantissa : (b m n p : ℕ) → 0 < p → (b + m) * p ≡ (b + n) * p → m ≡ n
same_mantissa b m n p some same =
    elim (cases_order m n) [
      | inl one ↦ one
      | inr other ↦ elim other [
        | inl less ↦ (let more : (b + m + 1) * p ≤ (b + n) * p = mul-le-mul_right p (omega arith) in absurd (omega (arith, more, same)))
        | inr greater ↦ (let more : (b + n + 1) * p ≤ (b + m) * p = mul-le-mul_right p (omega arith) in absurd (omega (arith, more, same)))
      ]
    ]

-- one value is of one exponent and one mantissa
same_parts : (b m n e f : ℕ) → m < b → n < b → (b + m) * 2 ^ (e + 3) ≡ (b + n) * 2 ^ (f + 3) → (e ≡ f) × (m ≡ n)
same_parts b m n e f small_m small_n same =
    elim (cases_order e f) [
      | inl one ↦ (
          let p_is : 2 ^ (e + 3) ≡ 2 ^ (f + 3) = ap (λ (x : ℕ). 2 ^ (x + 3)) one in
          (one, same_mantissa b m n (2 ^ (f + 3)) (pow_pos (f + 3)) (rw p_is at same))
          )
      | inr other ↦ elim other [
        | inl less ↦ absurd (apart b m n (2 ^ (e + 3)) (2 ^ (f + 3)) small_m (pow_pos (e + 3)) (half_of e f less) same)
        | inr greater ↦ absurd (apart b n m (2 ^ (f + 3)) (2 ^ (e + 3)) small_n (pow_pos (f + 3)) (half_of f e greater) (sym same))
      ]
    ]

-- a number of 16 parts with 8 whole ones, in parts
high_parts : (h l b : ℕ) → l < b → 8 * b ≤ h * b + l → h * b + l ≤ 16 * b - 1 → h ≡ 8 + h % 8
high_parts h l b small low high =
    elim (leb_tells 16 h) [
      | inl more ↦ (let least : 16 * b ≤ h * b = mul-le-mul_right b more.1 in absurd (omega (arith, least)))
      | inr less ↦ elim (leb_tells 8 h) [
        | inl enough ↦ omega (arith, less.1, enough.1)
        | inr fewer ↦ (let most : (h + 1) * b ≤ 8 * b = mul-le-mul_right b (omega (arith, fewer.1)) in absurd (omega (arith, most)))
      ]
    ]

-- a code that is its own value is below the values of those with an exponent
own_is_below : (bits c e m : ℕ) → c < 2 ^ (bits + 3) → c ≡ (2 ^ bits + m) * 2 ^ (e + 3) → ⊥
own_is_below bits c e m less same =
    let least = least_composed bits e m in omega (arith, least, same)

-- a code with an exponent, from its parts
parts : (bits code : ℕ) → 2 ^ (bits + 3) ≤ code → code ≤ 16 * 2 ^ bits - 1 → code ≡ (8 + code / 2 ^ bits % 8) * 2 ^ bits + code % 2 ^ bits
parts bits code low high =
    let eight : 2 ^ (bits + 3) ≡ 2 ^ bits * 2 ^ 3 = pow-add 2 bits 3 in
    let b = 2 ^ bits in
    let whole : code / 2 ^ bits * 2 ^ bits + code % 2 ^ bits ≡ code = div-add-mod' code (2 ^ bits) in
    let rest : code % 2 ^ bits < 2 ^ bits = mod-lt code (pow_pos bits) in
    let high_part : code / 2 ^ bits ≡ 8 + code / 2 ^ bits % 8 = high_parts (code / 2 ^ bits) (code % 2 ^ bits)
    (2 ^ bits) rest (omega (arith, whole, eight)) (omega (arith, whole)) in
    sym whole ∙ ap (λ (h : ℕ). h * 2 ^ bits + code % 2 ^ bits) high_part

-- no two codes up to the top one have one value
one_code : (bits c d : ℕ) → c ≤ 16 * 2 ^ bits - 1 → d ≤ 16 * 2 ^ bits - 1 → value_of bits c ≡ value_of bits d → c ≡ d
one_code bits c d fits_c fits_d same =
    elim (leb_tells (2 ^ (bits + 3)) c) [
      | inr own_c ↦ (
          let test_c : nat_lt c (2 ^ (bits + 3)) ≡ true = grind (arith, nat_tests, own_c.0) in
          elim (leb_tells (2 ^ (bits + 3)) d) [
            | inr own_d ↦ (let test_d : nat_lt d (2 ^ (bits + 3)) ≡ true = grind (arith, nat_tests, own_d.0) in rw (test_c, test_d) at same)
            | inl composed_d ↦ (
                let test_d : nat_lt d (2 ^ (bits + 3)) ≡ false = grind (arith, nat_tests, composed_d.0) in
                absurd (own_is_below bits c (d / 2 ^ bits % 8) (d % 2 ^ bits) own_c.1 (rw (test_c, test_d) at same))
                )
          ]
          )
      | inl composed_c ↦ (
          let test_c : nat_lt c (2 ^ (bits + 3)) ≡ false = grind (arith, nat_tests, composed_c.0) in
          elim (leb_tells (2 ^ (bits + 3)) d) [
            | inr own_d ↦ (
                let test_d : nat_lt d (2 ^ (bits + 3)) ≡ true = grind (arith, nat_tests, own_d.0) in
                absurd (own_is_below bits d (c / 2 ^ bits % 8) (c % 2 ^ bits) own_d.1 (sym (rw (test_c, test_d) at same)))
                )
            | inl composed_d ↦ (
                let test_d : nat_lt d (2 ^ (bits + 3)) ≡ false = grind (arith, nat_tests, composed_d.0) in
                let one = same_parts (2 ^ bits) (c % 2 ^ bits) (d % 2 ^ bits) (c / 2 ^ bits % 8) (d / 2 ^ bits % 8) (mod-lt c (pow_pos bits))
                (mod-lt d (pow_pos bits)) (rw (test_c, test_d) at same) in
                parts bits c composed_c.1 fits_c ∙ ap (λ (e : ℕ). (8 + e) * 2 ^ bits + c % 2 ^ bits) one.0
                ∙ ap (λ (m : ℕ). (8 + d / 2 ^ bits % 8) * 2 ^ bits + m) one.1 ∙ sym (parts bits d composed_d.1 fits_d)
                )
          ]
          )
    ]

pub come_back : (bits : ℕ) → CodesComeBack (value_of bits) (16 * 2 ^ bits - 1)
come_back bits code found fits is_code =
    let up = is_code.greatest code fits (omega arith) in
    let down = is_code.not_above in
    one_code bits found code is_code.fits fits (omega (arith, up, down))
