-- Numbers of 16 bits in hexadecimal.
use Rattle.std.proofs.Common.{◌≡◌, ◌==◌, ℕ, zero, suc, ◌/◌, ◌%◌, ◌<◌, ◌≤◌, false, List, [], ◌∷◌, ◌++◌, map, refl, ap, ◌∙◌, arith}
use Rattle.std.{specs.Fmt.digit_glyph, specs.Int.Digits.digits_of, proofs.lemmas.Int.Digits.digits_of_step}
use Rattle.mq_text.specs.AddressV6.{hexadecimal}

-- the digits of numbers that have one, two, three and four
of_one : (n : ℕ) → 0 < n → n < 16 → digits_of 16 n ≡ n % 16 ∷ []
of_one n some small =
    let none : n / 16 ≡ 0 = omega arith in
    digits_of_step 16 n (omega arith) some ∙ ap (λ (m : ℕ). digits_of 16 m ++ (n % 16 ∷ [])) none

of_two : (n : ℕ) → 16 ≤ n → n < 256 → digits_of 16 n ≡ n / 16 % 16 ∷ n % 16 ∷ []
of_two n large small =
    digits_of_step 16 n (omega arith) (omega arith) ∙ ap (λ (ds : List ℕ). ds ++ (n % 16 ∷ [])) (of_one (n / 16) (omega arith) (omega arith))

of_three : (n : ℕ) → 256 ≤ n → n < 4096 → digits_of 16 n ≡ n / 16 / 16 % 16 ∷ n / 16 % 16 ∷ n % 16 ∷ []
of_three n large small =
    digits_of_step 16 n (omega arith) (omega arith) ∙ ap (λ (ds : List ℕ). ds ++ (n % 16 ∷ [])) (of_two (n / 16) (omega arith) (omega arith))

of_four : (n : ℕ) → 4096 ≤ n → n < 65536 → digits_of 16 n ≡ n / 16 / 16 / 16 % 16 ∷ n / 16 / 16 % 16 ∷ n / 16 % 16 ∷ n % 16 ∷ []
of_four n large small =
    digits_of_step 16 n (omega arith) (omega arith) ∙ ap (λ (ds : List ℕ). ds ++ (n % 16 ∷ [])) (of_three (n / 16) (omega arith) (omega arith))

some_digits : (n : ℕ) → 0 < n → hexadecimal n ≡ map (digit_glyph false) (digits_of 16 n)
some_digits n some = let no : (n == 0) ≡ false = grind arith in rw no refl

pub one_digit : (n : ℕ) → n < 16 → hexadecimal n ≡ digit_glyph false n ∷ []
one_digit zero small = refl
one_digit (suc n) small =
    let last : suc n % 16 ≡ suc n = omega (arith, small) in
    some_digits (suc n) (omega arith) ∙ ap (map (digit_glyph false)) (of_one (suc n) (omega arith) small) ∙ ap (λ (m : ℕ). digit_glyph false m ∷ []) last

pub two_digits : (n : ℕ) → 16 ≤ n → n < 256 → hexadecimal n ≡ digit_glyph false (n / 16) ∷ digit_glyph false (n % 16) ∷ []
two_digits n large small =
    let first : n / 16 % 16 ≡ n / 16 = omega (arith, small) in
    some_digits n (omega arith) ∙ ap (map (digit_glyph false)) (of_two n large small) ∙
    ap (λ (m : ℕ). digit_glyph false m ∷ digit_glyph false (n % 16) ∷ []) first

pub three_digits : (n : ℕ) → 256 ≤ n → n < 4096 → hexadecimal n ≡ digit_glyph false (n / 256) ∷ digit_glyph false (n / 16 % 16) ∷ digit_glyph false
    (n % 16) ∷ []
three_digits n large small =
    let same : n / 16 / 16 % 16 ≡ n / 256 = omega (arith, small) in
    some_digits n (omega arith) ∙ ap (map (digit_glyph false)) (of_three n large small)
    ∙ ap (λ (m : ℕ). digit_glyph false m ∷ digit_glyph false (n / 16 % 16) ∷ digit_glyph false (n % 16) ∷ []) same

pub all_four_digits : (n : ℕ) → 4096 ≤ n → n < 65536 →
    hexadecimal n ≡ digit_glyph false (n / 4096) ∷ digit_glyph false (n / 256 % 16) ∷ digit_glyph false (n / 16 % 16) ∷ digit_glyph false (n % 16) ∷ []
all_four_digits n large small =
    let third : n / 16 / 16 ≡ n / 256 = omega arith in
    let fourth : n / 16 / 16 / 16 % 16 ≡ n / 4096 = omega arith in
    some_digits n (omega arith) ∙ ap (map (digit_glyph false)) (of_four n large small)
    ∙ (λ i. digit_glyph false (fourth i) ∷ digit_glyph false (third i % 16) ∷ digit_glyph false (n / 16 % 16) ∷ digit_glyph false (n % 16) ∷ [])
