-- The decimal digits of a number.
use Rattle.std.proofs.Common.{◌≡◌, ℕ, ◌+◌, ◌/◌, ◌%◌, ◌^◌, ◌<◌, ◌≤◌, List, [], ◌∷◌, ◌++◌, length, get_or, length-append, append_assoc, ap, sym, ◌∙◌, arith}
use Rattle.std.{proofs.lemmas.Fmt.decimal_digit, proofs.lemmas.Fmt.decimal_step, specs.Fmt.decimal}
use Rattle.mq_text.specs.Digits.{four_digits_of}

-- numbers of two, three and four digits
pub two_digits : (n : ℕ) → 10 ≤ n → n < 100 → decimal n ≡ (48 + n / 10) ∷ (48 + n % 10) ∷ []
two_digits n more less =
    decimal_step n more (omega (arith, less))
    ∙ ap (λ (front : List ℕ). front ++ ((48 + n % 10) ∷ [])) (decimal_digit (n / 10) (omega (arith, less)))

pub three_digits : (n : ℕ) → 100 ≤ n → n < 1000 → decimal n ≡ (48 + n / 100) ∷ (48 + n % 100 / 10) ∷ (48 + n % 100 % 10) ∷ []
three_digits n more less =
    let a : n / 10 / 10 ≡ n / 100 = omega arith in
    let b : n / 10 % 10 ≡ n % 100 / 10 = omega arith in
    let c : n % 10 ≡ n % 100 % 10 = omega arith in
    decimal_step n (omega (arith, more)) (omega (arith, less))
    ∙ ap (λ (front : List ℕ). front ++ ((48 + n % 10) ∷ [])) (two_digits (n / 10) (omega (arith, more)) (omega (arith, less)))
    ∙ (λ i. (48 + a i) ∷ (48 + b i) ∷ (48 + c i) ∷ [])

pub all_four_digits : (n : ℕ) → 1000 ≤ n → n < 10000 → decimal n ≡ four_digits_of n
all_four_digits n more less =
    let a : n / 10 / 100 ≡ n / 100 / 10 = omega arith in
    let b : n / 10 % 100 / 10 ≡ n / 100 % 10 = omega arith in
    let c : n / 10 % 100 % 10 ≡ n % 100 / 10 = omega arith in
    let d : n % 10 ≡ n % 100 % 10 = omega arith in
    decimal_step n (omega (arith, more)) (omega (arith, less))
    ∙ ap (λ (front : List ℕ). front ++ ((48 + n % 10) ∷ [])) (three_digits (n / 10) (omega (arith, more)) (omega (arith, less)))
    ∙ (λ i. (48 + a i) ∷ (48 + b i) ∷ (48 + c i) ∷ (48 + d i) ∷ [])

one_by_one : (front : List ℕ) (a b c d : ℕ) → (((front ++ (a ∷ [])) ++ (b ∷ [])) ++ (c ∷ [])) ++ (d ∷ []) ≡ front ++ (a ∷ b ∷ c ∷ d ∷ [])
one_by_one front a b c d = simp append_assoc

-- the last four digits behind those before them
pub last_four : (n : ℕ) → 10000 ≤ n → n < 2 ^ 64 → decimal n ≡ decimal (n / 10000) ++ four_digits_of (n % 10000)
last_four n more fits =
    let front : n / 10 / 10 / 10 / 10 ≡ n / 10000 = omega arith in
    let a : n / 10 / 10 / 10 % 10 ≡ n % 10000 / 100 / 10 = omega arith in
    let b : n / 10 / 10 % 10 ≡ n % 10000 / 100 % 10 = omega arith in
    let c : n / 10 % 10 ≡ n % 10000 % 100 / 10 = omega arith in
    let d : n % 10 ≡ n % 10000 % 100 % 10 = omega arith in
    decimal_step n (omega (arith, more)) fits
    ∙ ap (λ (digits : List ℕ). digits ++ ((48 + n % 10) ∷ []))
    (decimal_step (n / 10) (omega (arith, more)) (omega (arith, fits))
    ∙ ap (λ (digits : List ℕ). digits ++ ((48 + n / 10 % 10) ∷ []))
    (decimal_step (n / 10 / 10) (omega (arith, more)) (omega (arith, fits))
    ∙ ap (λ (digits : List ℕ). digits ++ ((48 + n / 10 / 10 % 10) ∷ [])) (decimal_step (n / 10 / 10 / 10) (omega (arith, more)) (omega (arith, fits)))))
    ∙ one_by_one (decimal (n / 10 / 10 / 10 / 10)) (48 + n / 10 / 10 / 10 % 10) (48 + n / 10 / 10 % 10) (48 + n / 10 % 10) (48 + n % 10)
    ∙ (λ i. decimal (front i) ++ ((48 + a i) ∷ (48 + b i) ∷ (48 + c i) ∷ (48 + d i) ∷ []))

-- so it has four more than its number without them
pub four_more : (n : ℕ) → 10000 ≤ n → n < 2 ^ 64 → length (decimal n) ≡ length (decimal (n / 10000)) + 4
four_more n more fits = ap length (last_four n more fits) ∙ length-append (decimal (n / 10000)) (four_digits_of (n % 10000))

-- a text behind which a number was put, and then its last four digits
pub put_in_two : (old first second four : List ℕ) (n : ℕ) → 10000 ≤ n → n < 2 ^ 64 → first ≡ old ++ decimal (n / 10000) →
    four ≡ four_digits_of (n % 10000) → second ≡ first ++ four → second ≡ old ++ decimal n
put_in_two old first second four n more fits is_first is_four is_second =
    is_second
    ∙ rw (is_first, is_four)
    (append_assoc old (decimal (n / 10000)) (four_digits_of (n % 10000)) ∙ ap (λ (digits : List ℕ). old ++ digits) (sym (last_four n more fits)))

-- the three digits, the last two of them from a pair
pub three_from_pair : (n first : ℕ) (pair : List ℕ) → 100 ≤ n → n < 1000 → first ≡ 48 + n / 100 →
    pair ≡ (48 + n % 100 / 10) ∷ (48 + n % 100 % 10) ∷ [] → ◌≡◌ {A = List ℕ} (first ∷ get_or pair 0 0 ∷ get_or pair 1 0 ∷ []) (decimal n)
three_from_pair n first pair more less is_first is_pair = rw (is_first, is_pair) (sym (three_digits n more less))
