-- The codes of times (RFC 3376 sections 4.1.1 and 4.1.7, RFC 3810 sections 5.1.3 and 5.1.9).
use Rattle.std.specs.Prelude.{ℕ, zero, suc, ◌+◌, ◌-◌, ◌*◌, ◌/◌, ◌%◌, ◌^◌, ◌≤◌, nat_lt, if◌then◌else◌}

-- The value of a code with a mantissa of `bits` bits, below three bits of exponent and the highest bit. If the highest
-- bit is clear, the code is its own value.
abbrev pub value_of : ℕ → ℕ → ℕ
value_of bits code =
    if nat_lt code (2 ^ (bits + 3)) then code else (2 ^ bits + code % 2 ^ bits) * 2 ^ (code / 2 ^ bits % 8 + 3)

-- the value of an 8-bit code
abbrev pub value8 : ℕ → ℕ
value8 code = value_of 4 code

-- the value of a 16-bit code
abbrev pub value16 : ℕ → ℕ
value16 code = value_of 12 code

-- the code up to the top one whose value is the greatest not above v
pub record IsCodeFor (value : ℕ → ℕ) (top v code : ℕ) : Type 0 where
  pub fits : code ≤ top
  pub not_above : value code ≤ v
  pub greatest : (other : ℕ) → other ≤ top → value other ≤ v → value other ≤ value code

-- The code with one of `left` exponents from e on, for a value that is not below the least with exponent e. If the
-- value is above all of these, it is the greatest code.
abbrev pub composed_for : (bits v left e : ℕ) → ℕ
composed_for bits v zero e = 16 * 2 ^ bits - 1
composed_for bits v (suc left) e =
    if nat_lt v (2 ^ (bits + e + 4)) then (8 + e) * 2 ^ bits + (v / 2 ^ (e + 3) - 2 ^ bits) else composed_for bits v left (e + 1)

-- The code whose value is the greatest not above v, with a mantissa of `bits` bits (the law `codes_are_greatest`).
unfoldable pub code_of : (bits v : ℕ) → ℕ
code_of bits v = if nat_lt v (2 ^ (bits + 3)) then v else composed_for bits v 8 0

abbrev pub code8_of : ℕ → ℕ
code8_of v = code_of 4 v

abbrev pub code16_of : ℕ → ℕ
code16_of v = code_of 12 v
