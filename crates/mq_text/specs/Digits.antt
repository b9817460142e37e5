-- Digits of a number.
use Rattle.std.specs.Prelude.{ℕ, ◌+◌, ◌/◌, ◌%◌, List, [], ◌∷◌}

-- the four decimal digits of a number below 10000, with leading zeros
abbrev pub four_digits_of : ℕ → List ℕ
four_digits_of number =
    (48 + number / 100 / 10) ∷ (48 + number / 100 % 10) ∷ (48 + number % 100 / 10) ∷ (48 + number % 100 % 10) ∷ []
