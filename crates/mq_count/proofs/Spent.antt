-- Laws of `Spends`, for every function that counts.
use Rattle.mq_count.proofs.Common.{ℕ, ◌+◌, ◌-◌, ◌≤◌, max, arith, Spends, SpendingIsANumber}

-- nothing counted
pub Spends-none : (m : ℕ) → Spends 0 0 m m
Spends-none m = record { at_least = omega arith; at_most = omega arith }

-- two counts, one after the other
pub Spends-join : {a b c d old mid new : ℕ} → Spends a b old mid → Spends c d mid new → Spends (a + c) (b + d) old new
Spends-join first second = record { at_least = omega arith; at_most = omega arith }

-- wider bounds
pub Spends-within : {low high old new : ℕ} (lower higher : ℕ) → Spends low high old new → lower ≤ low → high ≤ higher → Spends lower higher old new
Spends-within lower higher counted below above = record { at_least = omega arith; at_most = omega arith }

-- two counts, one after the other, within wider bounds
pub Spends-join_within : {a b c d old mid new : ℕ} (lower higher : ℕ) → Spends a b old mid → Spends c d mid new → lower ≤ a + c → b + d ≤ higher →
    Spends lower higher old new
Spends-join_within lower higher first second below above =
    Spends-within lower higher (Spends-join first second) below above

-- the count: the growth of a meter that has room, and else the lower bound
pub spending_is_a_number : SpendingIsANumber
spending_is_a_number low high old new ordered counted =
    (max low (new - old), (omega arith, omega arith, omega arith))
