-- The address as the number of its groups of digits.
use Rattle.mq_laws.proofs.Common.{◌≡◌, ℕ, zero, suc, get_or, ◌+◌, ◌*◌, ◌/◌, ◌%◌, ◌^◌, ◌<◌, List, [], ◌∷◌, refl, ap, ◌∙◌, arith, div-div-eq-div-mul, w128}
use Rattle.mq_laws.proofs.Common.{to_be_bytes, from_be_bytes, byte_at, groups_of, number_of}
use Rattle.std.specs.Net.Addr.{octets_of}
use Rattle.mq_text.specs.AddressV6.{groups_in}

-- pairs of octets
abbrev pub ArePairs : List ℕ → Type 0
ArePairs [] = Unit {0}
ArePairs (octet ∷ []) = ⊥
ArePairs (high ∷ low ∷ octets) = (high < 256) × (low < 256) × ArePairs octets

-- octets come back of their groups
octets_back : (octets : List ℕ) → ArePairs octets → octets_of (groups_in octets) ≡ octets
octets_back [] are = refl
octets_back (octet ∷ []) are = absurd are
octets_back (high ∷ low ∷ octets) are =
    let first : high < 256 = are.0 in
    let second : low < 256 = are.1 in
    let front : (high * 256 + low) / 256 ≡ high = omega (arith, second) in
    let back : (high * 256 + low) % 256 ≡ low = omega (arith, second) in
    let others = octets_back octets are.2 in
    λ i. front i ∷ back i ∷ others i

-- a number taken apart octet by octet is put together again
together : (q0 q1 q2 q3 q4 q5 q6 q7 q8 q9 q10 q11 q12 q13 q14 q15 q16 r0 r1 r2 r3 r4 r5 r6 r7 r8 r9 r10 r11 r12 r13 r14 r15 : ℕ) →
    q0 ≡ 256 * q1 + r0 → q1 ≡ 256 * q2 + r1 → q2 ≡ 256 * q3 + r2 → q3 ≡ 256 * q4 + r3 → q4 ≡ 256 * q5 + r4 → q5 ≡ 256 * q6 + r5 → q6 ≡ 256 * q7 + r6 →
    q7 ≡ 256 * q8 + r7 → q8 ≡ 256 * q9 + r8 → q9 ≡ 256 * q10 + r9 → q10 ≡ 256 * q11 + r10 → q11 ≡ 256 * q12 + r11 → q12 ≡ 256 * q13 + r12 →
    q13 ≡ 256 * q14 + r13 → q14 ≡ 256 * q15 + r14 → q15 ≡ 256 * q16 + r15 → q16 ≡ 0
    → from_be_bytes w128 (r15 ∷ r14 ∷ r13 ∷ r12 ∷ r11 ∷ r10 ∷ r9 ∷ r8 ∷ r7 ∷ r6 ∷ r5 ∷ r4 ∷ r3 ∷ r2 ∷ r1 ∷ r0 ∷ []) ≡ q0
together q0 q1 q2 q3 q4 q5 q6 q7 q8 q9 q10 q11 q12 q13 q14 q15 q16 r0 r1 r2 r3 r4 r5 r6 r7 r8 r9 r10 r11 r12 r13 r14 r15 e0 e1 e2 e3 e4 e5 e6 e7 e8 e9
    e10 e11 e12 e13 e14 e15 none = omega (arith, e0, e1, e2, e3, e4, e5, e6, e7, e8, e9, e10, e11, e12, e13, e14, e15, none)

step : (c n : ℕ) → 0 < c → n / c ≡ 256 * (n / (c * 256)) + n / c % 256
step c n some = rw (← div-div-eq-div-mul n c 256) (omega arith)

pub octets_are_pairs : (a : ℕ) → ArePairs (to_be_bytes w128 a)
octets_are_pairs a = (
  omega arith,
  omega arith,
  (
    omega arith,
    omega arith,
    (
      omega arith,
      omega arith,
      (omega arith, omega arith, (omega arith, omega arith, (omega arith, omega arith, (omega arith, omega arith, (omega arith, omega arith, tt))))),
    ),
  ),
)

-- and each group has 16 bits
pub groups_fit : (octets : List ℕ) → ArePairs octets → (k : ℕ) → get_or (groups_in octets) k 0 < 65536
groups_fit [] are k = omega arith
groups_fit (octet ∷ []) are k = absurd are
groups_fit (high ∷ low ∷ octets) are zero = let first : high < 256 = are.0 in let second : low < 256 = are.1 in omega (arith, first, second)
groups_fit (high ∷ low ∷ octets) are (suc k) = groups_fit octets are.2 k

pub number_back : (a : ℕ) → a < 2 ^ 128 → number_of (groups_of a) ≡ a
unfolding number_of
number_back a small =
    ap (from_be_bytes w128) (octets_back (to_be_bytes w128 a) (octets_are_pairs a))
    ∙ together a (a / 256) (a / 65536) (a / 16777216) (a / 4294967296) (a / 1099511627776) (a / 281474976710656) (a / 72057594037927936)
    (a / 18446744073709551616) (a / 4722366482869645213696) (a / 1208925819614629174706176) (a / 309485009821345068724781056)
    (a / 79228162514264337593543950336) (a / 20282409603651670423947251286016) (a / 5192296858534827628530496329220096)
    (a / 1329227995784915872903807060280344576) (a / 340282366920938463463374607431768211456)
    (byte_at 0 a) (byte_at 1 a) (byte_at 2 a) (byte_at 3 a) (byte_at 4 a) (byte_at 5 a) (byte_at 6 a) (byte_at 7 a) (byte_at 8 a) (byte_at 9 a)
    (byte_at 10 a) (byte_at 11 a) (byte_at 12 a) (byte_at 13 a) (byte_at 14 a) (byte_at 15 a)
    (omega arith) (step 256 a (omega arith)) (step 65536 a (omega arith)) (step 16777216 a (omega arith)) (step 4294967296 a (omega arith))
    (step 1099511627776 a (omega arith)) (step 281474976710656 a (omega arith)) (step 72057594037927936 a (omega arith))
    (step 18446744073709551616 a (omega arith)) (step 4722366482869645213696 a (omega arith)) (step 1208925819614629174706176 a (omega arith))
    (step 309485009821345068724781056 a (omega arith)) (step 79228162514264337593543950336 a (omega arith))
    (step 20282409603651670423947251286016 a (omega arith)) (step 5192296858534827628530496329220096 a (omega arith))
    (step 1329227995784915872903807060280344576 a (omega arith)) (omega arith)
