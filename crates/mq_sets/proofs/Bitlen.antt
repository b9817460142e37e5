-- Laws of `bitlen`.
use Rattle.mq_sets.proofs.Common.{ℕ, zero, suc, ◌+◌, ◌/◌, ◌^◌, ◌<◌, ◌≤◌, ◌≡◌, arith, refl, subst, bitlen, BitlenIsLeast}
use Rattle.std.{specs.Int.Digits.digits_of, proofs.Math.Pow.pow_mono}
use Rattle.std.proofs.lemmas.Int.Digits.{length-digits_of_step, length-digits_of-le, number_lt, number_digits_of, all_below_base_digits_of}

pub bitlen-zero : bitlen 0 ≡ 0
unfolding bitlen
bitlen-zero = refl

-- half of a number has one binary digit less
pub bitlen-half : (n : ℕ) → 0 < n → bitlen n ≡ bitlen (n / 2) + 1
unfolding bitlen
bitlen-half n some = length-digits_of_step 2 n (omega arith) some

-- a number below 2 ^ k has at most k binary digits
pub bitlen-le : (k n : ℕ) → n < 2 ^ k → bitlen n ≤ k
unfolding bitlen
bitlen-le k n small = length-digits_of-le 2 k n (omega arith) small

-- and it is below 2 to the number of its digits
pub below_power_of_bitlen : (n : ℕ) → n < 2 ^ bitlen n
unfolding bitlen
below_power_of_bitlen n =
    let P : ℕ → Type 0 = λ m. m < 2 ^ bitlen n in
    subst P (number_digits_of 2 n (omega arith)) (number_lt 2 (digits_of 2 n) (all_below_base_digits_of 2 n (omega arith)))

-- no fewer digits for a greater number
pub bitlen-mono : (a b : ℕ) → a ≤ b → bitlen a ≤ bitlen b
bitlen-mono a b le = let small = below_power_of_bitlen b in bitlen-le (bitlen b) a (omega arith)

-- no more digits than the number says
pub bitlen-few : (n : ℕ) → bitlen n ≤ n
bitlen-few n = within n n (omega arith)
  where
    within : (most n : ℕ) → n ≤ most → bitlen n ≤ n
    within most zero few = let none = bitlen-zero in omega (arith, none)
    within zero (suc n) few = absurd (omega (arith, few))
    within (suc most) (suc n) few =
        let half = within most (suc n / 2) (omega (arith, few)) in
        let one_less = bitlen-half (suc n) (omega arith) in
        omega (arith, half, one_less)

-- a number is below 2 ^ k exactly where it has at most k binary digits
pub bitlen_is_least : BitlenIsLeast
bitlen_is_least n k =
    (bitlen-le k n, λ (few : bitlen n ≤ k). let small = below_power_of_bitlen n in let grows : 2 ^ bitlen n ≤ 2 ^ k = pow_mono few in omega arith)

-- worked examples
bitlen-1 : bitlen 1 ≡ 1
unfolding bitlen
bitlen-1 = refl

bitlen-366 : bitlen 366 ≡ 9
unfolding bitlen
bitlen-366 = refl

bitlen-1023 : bitlen 1023 ≡ 10
unfolding bitlen
bitlen-1023 = refl

bitlen-1024 : bitlen 1024 ≡ 11
unfolding bitlen
bitlen-1024 = refl
