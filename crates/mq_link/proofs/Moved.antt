-- The sum of moves, with those put by for the next packing of the rows of sources.
use Rattle.mq_link.proofs.Common.{◌≡◌, ℕ, ◌+◌, ◌≤◌, arith, Spends, Spends-none, Spends-within, Spends-join_within, IsPaid}

-- nothing is moved
pub paid_none : (put_by moved : ℕ) → IsPaid 0 put_by put_by moved moved
paid_none put_by moved = record { moved = 0; spends = Spends-none moved; paid = omega arith }

-- no more than a number is moved
pub paid_by : (budget : ℕ) {low high before after old new : ℕ} → Spends low high old new → high + after ≤ before + budget → IsPaid budget before after old new
paid_by budget {high = high} spent within = record { moved = high; spends = Spends-within 0 high spent (omega arith) (omega arith); paid = within }

-- with a greater budget
pub paid_within : (budget : ℕ) {less before after old new : ℕ} → IsPaid less before after old new → less ≤ budget → IsPaid budget before after old new
paid_within budget h few = let paid = h.paid in record { moved = h.moved; spends = h.spends; paid = omega arith }

-- one after the other
pub paid_join : (budget : ℕ) {first second before between after old mid new : ℕ} → IsPaid first before between old mid →
    IsPaid second between after mid new → first + second ≤ budget → IsPaid budget before after old new
paid_join budget h k few =
    let a = h.paid in
    let b = k.paid in
    record { moved = h.moved + k.moved; spends = Spends-join_within 0 (h.moved + k.moved) h.spends k.spends (omega arith) (omega arith); paid = omega arith }

-- the moves are at most the budget and those put by
pub paid_moves : (most : ℕ) {budget before after old new : ℕ} → IsPaid budget before after old new → before + budget ≤ most → Spends 0 most old new
paid_moves most h few = let paid = h.paid in Spends-within 0 most h.spends (omega arith) (omega arith)

-- where no more than nothing is moved, nothing is
pub spends_none : {low high old new : ℕ} → Spends low high old new → high ≡ 0 → new ≡ old
spends_none spent none = omega arith
