-- The result of a search, and the binary digits that bound its comparisons.
use Rattle.std.specs.Prelude.{ℕ, ◌<◌, ◌≤◌, ◌^◌, ◌↔◌, List, length}
use Rattle.std.specs.List.{AllWithin}
use Rattle.std.specs.Int.Digits.{digits_of}

-- the number of binary digits of a number, none for 0
unfoldable pub bitlen : ℕ → ℕ
bitlen n = length (digits_of 2 n)

-- an item of number n goes at place i: those before it are below n, and all others above
pub record IsPlaceFor {X : Type 0} (number : X → ℕ) (xs : List X) (n i : ℕ) : Type 0 where
  pub within : i ≤ length xs
  pub below : AllWithin (λ x. number x < n) xs 0 i
  pub above : AllWithin (λ x. n < number x) xs i (length xs)

-- a number is below 2 ^ k exactly if it has at most k binary digits
abbrev pub BitlenIsLeast : Type 0
BitlenIsLeast = (n k : ℕ) → (n < 2 ^ k) ↔ (bitlen n ≤ k)
