-- The meter after some comparisons. A meter counts each comparison once, and stays at the greatest u64.
use Rattle.std.specs.Prelude.{ℕ, ◌+◌, ◌-◌, ◌^◌, ◌<◌, ◌≤◌, ◌≡◌, min}

-- the meter after n comparisons, starting from old: n more, up to the greatest u64
abbrev pub spent_after : ℕ → ℕ → ℕ
spent_after old n = old + min n (2 ^ 64 - 1 - old)

-- from old to new a meter counted at least low and at most high comparisons
pub record Spends (low high old new : ℕ) : Type 0 where
  pub at_least : spent_after old low ≤ new
  pub at_most : new ≤ spent_after old high

-- two counts in sequence add up
abbrev pub SpendingAddsUp : Type 0
SpendingAddsUp = (a b c d old mid new : ℕ) → Spends a b old mid → Spends c d mid new → Spends (a + c) (b + d) old new

-- a count within bounds is some n with low ≤ n ≤ high
abbrev pub SpendingIsANumber : Type 0
SpendingIsANumber = (low high old new : ℕ) → low ≤ high → Spends low high old new → (n : ℕ) × ((low ≤ n) × (n ≤ high) × (new ≡ spent_after old n))

-- below the greatest u64 a meter grows by at least low and at most high
abbrev pub SpendingIsGrowth : Type 0
SpendingIsGrowth = (low high old new : ℕ) → Spends low high old new → new < 2 ^ 64 - 1 → (old + low ≤ new) × (new ≤ old + high)

-- a meter in the range of a u64 grows by n, up to the greatest u64
abbrev pub SpendingStaysInRange : Type 0
SpendingStaysInRange = (old n : ℕ) → old < 2 ^ 64 → spent_after old n ≡ min (old + n) (2 ^ 64 - 1)
