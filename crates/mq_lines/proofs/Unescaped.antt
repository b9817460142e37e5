-- The bytes of addresses. None has an escape in a string of JSON.
use Rattle.mq_lines.proofs.Common.{ℕ, Bool, false, arith, List, [], ◌∷◌, ◌++◌, codes, Family, Igmp, Mld}
use Rattle.std.proofs.Common.{zero, suc, ◌+◌, ◌*◌, ◌/◌, ◌%◌, ◌<◌, ◌≤◌, nat_le, true, inl, inr, take, drop, if◌then◌else◌}
use Rattle.std.specs.{List.All, Fmt.decimal, Fmt.digit_glyph, Int.w32, Int.to_be_bytes}
use Rattle.std.proofs.lemmas.{Bool.cases_lt, Bool.le-ltb, Bool.lt-ltb, Fmt.decimal_digit}
use Rattle.mq_text.specs.{AddressV4.dotted, AddressV6.groups_of, AddressV6.hexadecimal, AddressV6.longest_zeros, AddressV6.shortened, AddressV6.with_colons}
use Rattle.mq_lines.specs.{Objects.IsPlain, Text.address_text}
use Rattle.mq_text.proofs.Digits as digits
use Rattle.mq_text.proofs.Hexadecimal as hex

-- a fact about each item of a list
module _ {X : Type 0} (P : X → Type 0) where
  abbrev Each : List X → Type 0
  Each [] = Unit {0}
  Each (x ∷ xs) = P x × Each xs

  each_append : (xs ys : List X) → Each xs → Each ys → Each (xs ++ ys)
  each_append [] ys first second = second
  each_append (x ∷ xs) ys first second = (first.0, each_append xs ys first.1 second)

  each_take : (n : ℕ) (xs : List X) → Each xs → Each (take n xs)
  each_take zero xs each = tt
  each_take (suc n) [] each = tt
  each_take (suc n) (x ∷ xs) each = (each.0, each_take n xs each.1)

  each_drop : (n : ℕ) (xs : List X) → Each xs → Each (drop n xs)
  each_drop zero xs each = each
  each_drop (suc n) [] each = tt
  each_drop (suc n) (x ∷ xs) each = each_drop n xs each.1

  all_of : (xs : List X) → Each xs → All P xs
  all_of [] each k d within = absurd (omega (arith, within))
  all_of (x ∷ xs) each zero d within = each.0
  all_of (x ∷ xs) each (suc k) d within = all_of xs each.1 k d (omega (arith, within))

plain_between : (c : ℕ) → 46 ≤ c → c < 91 → IsPlain c
plain_between c more less = (omega (arith, more), omega (arith, less), λ e. absurd (omega (arith, more, e)), λ e. absurd (omega (arith, less, e)))

plain_above : (c : ℕ) → 93 ≤ c → c < 127 → IsPlain c
plain_above c more less = (omega (arith, more), less, λ e. absurd (omega (arith, more, e)), λ e. absurd (omega (arith, more, e)))

-- the digits of decimal and of hexadecimal numbers
plain_digit : (d : ℕ) → d < 10 → IsPlain (48 + d)
plain_digit d small = plain_between (48 + d) (omega arith) (omega (arith, small))

plain_glyph : (d : ℕ) → d < 16 → IsPlain (digit_glyph false d)
plain_glyph d small = elim (cases_lt d 10) [
  | inl less ↦ rw (lt-ltb d 10 less) (plain_digit d less)
  | inr more ↦ rw (le-ltb d 10 more) (plain_above (87 + d) (omega (arith, more)) (omega (arith, small)))
]

plain_decimal : (n : ℕ) → n < 256 → Each IsPlain (decimal n)
plain_decimal n small = elim (cases_lt n 10) [
  | inl one ↦ rw (decimal_digit n one) (plain_digit n one, tt)
  | inr more ↦ elim (cases_lt n 100) [
    | inl two ↦ rw (digits.two_digits n more two) (plain_digit (n / 10) (omega (arith, two)), (plain_digit (n % 10) (omega arith), tt))
    | inr three ↦
        rw (digits.three_digits n three (omega (arith, small)))
        (plain_digit (n / 100) (omega (arith, small)), (plain_digit (n % 100 / 10) (omega arith), (plain_digit (n % 100 % 10) (omega arith), tt)))
  ]
]

plain_hexadecimal : (n : ℕ) → n < 65536 → Each IsPlain (hexadecimal n)
plain_hexadecimal n small =
    let c = plain_glyph (n / 16 % 16) (omega arith) in
    let d = plain_glyph (n % 16) (omega arith) in
    elim (cases_lt n 4096) [
      | inr four ↦
          rw (hex.all_four_digits n four small)
          (plain_glyph (n / 4096) (omega (arith, small)), (plain_glyph (n / 256 % 16) (omega arith), (c, (d, tt))))
      | inl h₃ ↦ elim (cases_lt n 256) [
        | inr three ↦ rw (hex.three_digits n three h₃) (plain_glyph (n / 256) (omega (arith, h₃)), (c, (d, tt)))
        | inl h₂ ↦ elim (cases_lt n 16) [
          | inr two ↦ rw (hex.two_digits n two h₂) (plain_glyph (n / 16) (omega (arith, h₂)), (d, tt))
          | inl h₁ ↦ rw (hex.one_digit n h₁) (plain_glyph n h₁, tt)
        ]
      ]
    ]

plain_dotted : (octets : List ℕ) → Each (λ n. n < 256) octets → Each IsPlain (dotted octets)
plain_dotted [] fit = tt
plain_dotted (octet ∷ []) fit = plain_decimal octet fit.0
plain_dotted (octet ∷ next ∷ octets) fit =
    each_append IsPlain (decimal octet ++ codes ".") (dotted (next ∷ octets))
    (each_append IsPlain (decimal octet) (codes ".") (plain_decimal octet fit.0) (plain_between 46 (omega arith) (omega arith), tt))
    (plain_dotted (next ∷ octets) fit.1)

plain_groups : (groups : List ℕ) → Each (λ n. n < 65536) groups → Each IsPlain (with_colons groups)
plain_groups [] fit = tt
plain_groups (group ∷ []) fit = plain_hexadecimal group fit.0
plain_groups (group ∷ next ∷ groups) fit =
    each_append IsPlain (hexadecimal group ++ codes ":") (with_colons (next ∷ groups))
    (each_append IsPlain (hexadecimal group) (codes ":") (plain_hexadecimal group fit.0) (plain_between 58 (omega arith) (omega arith), tt))
    (plain_groups (next ∷ groups) fit.1)

plain_shortened : (groups : List ℕ) → Each (λ n. n < 65536) groups → Each IsPlain (shortened groups (longest_zeros groups))
unfolding shortened
plain_shortened groups fit = by_count (nat_le 2 (longest_zeros groups).count) (longest_zeros groups).place
    ((longest_zeros groups).place + (longest_zeros groups).count)
  where
    by_count : (b : Bool) (place end : ℕ) → Each IsPlain
        (if b then with_colons (take place groups) ++ codes "::" ++ with_colons (drop end groups) else with_colons groups)
    by_count true place end =
        let colon : IsPlain 58 = plain_between 58 (omega arith) (omega arith) in
        let front = plain_groups (take place groups) (each_take (λ n. n < 65536) place groups fit) in
        let back = plain_groups (drop end groups) (each_drop (λ n. n < 65536) end groups fit) in
        each_append IsPlain (with_colons (take place groups) ++ codes "::") (with_colons (drop end groups))
        (each_append IsPlain (with_colons (take place groups)) (codes "::") front (colon, (colon, tt))) back
    by_count false place end = plain_groups groups fit

-- two octets are a group of 16 bits
two : (a b : ℕ) → a % 256 * 256 + b % 256 < 65536
two a b = omega arith

groups_fit : (address : ℕ) → Each (λ n. n < 65536) (groups_of address)
groups_fit address = (two _ _, (two _ _, (two _ _, (two _ _, (two _ _, (two _ _, (two _ _, (two _ _, tt))))))))

each_plain : (family : Family) (address : ℕ) → Each IsPlain (address_text family address)
each_plain Igmp address = plain_dotted (to_be_bytes w32 address) (omega arith, (omega arith, (omega arith, (omega arith, tt))))
each_plain Mld address = plain_shortened (groups_of address) (groups_fit address)

pub plain_address : (family : Family) (address : ℕ) → All IsPlain (address_text family address)
plain_address family address = all_of IsPlain (address_text family address) (each_plain family address)
