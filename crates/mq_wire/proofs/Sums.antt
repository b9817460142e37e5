-- One's complement sums of words add up.
use Rattle.mq_wire.proofs.Common.{◌≡◌, ℕ, ◌+◌, ◌%◌, List, [], ◌∷◌, ◌++◌, length, ap, sym, ◌∙◌, arith, nat_tests, sum_of_words, ones_complement}

-- the sum of words of bytes before others, so many that a word ends where the others begin
pub sum_of_both : (before bytes : List ℕ) → length before % 2 ≡ 0 → sum_of_words (before ++ bytes) ≡ sum_of_words before + sum_of_words bytes
sum_of_both [] bytes even = omega arith
sum_of_both (high ∷ []) bytes odd = absurd (omega arith)
sum_of_both (high ∷ low ∷ before) bytes even =
    let rest = sum_of_both before bytes (omega arith) in omega (arith, rest)

-- one's complement sums add up
pub sums_add_up : (a b : ℕ) → ones_complement (ones_complement a + ones_complement b) ≡ ones_complement (a + b)
sums_add_up a b = grind (arith, nat_tests)

pub sum_of_parts : (before bytes : List ℕ) (a b sum : ℕ) → length before % 2 ≡ 0 → a ≡ ones_complement (sum_of_words before) →
    b ≡ ones_complement (sum_of_words bytes) → sum ≡ ones_complement (a + b) → sum ≡ ones_complement (sum_of_words (before ++ bytes))
sum_of_parts before bytes a b sum even is_a is_b is_sum =
    let both = sum_of_both before bytes even in
    let parts = sums_add_up (sum_of_words before) (sum_of_words bytes) in
    is_sum ∙ rw (is_a, is_b) (parts ∙ ap ones_complement (sym both))
