-- One more at one name, in a row of counters.
use Rattle.std.proofs.Common.{◌≡◌, ◌≢◌, ℕ, ◌+◌, ◌-◌, ◌<◌, Bool, true, false, cond, List, length, get_or, set, get_or-set_other, sym, ap, ◌∙◌, arith}
use Rattle.mq_link.proofs.Common.{eqb-true, eq-eqb, counted_on, DropReason, Truncated, Refusal, counted_at, reason_number, refusal_number}
use Rattle.std.proofs.lemmas.Grind.{get_or-set_at}
use Rattle.std.specs.Prelude.{◌==◌}
use Rattle.mq_link.specs.{declared.answers.Refusal.TheVariants.Long, Counted.count_in}

other_than : (a b : ℕ) → (a == b) ≡ false → a ≢ b
other_than a b apart same = let is : (a == b) ≡ true = eq-eqb a b same in cc

-- a row in which one count has been written
at_name : (row : List ℕ) (place one other value : ℕ) → place + 1 ≡ one → 0 < other → place < length row → value ≡ counted_on (get_or row place 0) 1 →
    (b : Bool) → (other == one) ≡ b
    → get_or (set row place value) (other - 1) 0 ≡ cond b (counted_on (get_or row (other - 1) 0) 1) (get_or row (other - 1) 0)
at_name row place one other value is some within counted true same =
    let one_is : other ≡ one = eqb-true other one same in
    let here : other - 1 ≡ place = omega (arith, one_is) in
    get_or-set_at row place (other - 1) value 0 here within ∙ counted ∙ ap (λ k. counted_on (get_or row k 0) 1) (sym here)
at_name row place one other value is some within counted false apart =
    let elsewhere : other - 1 ≢ place = λ here. other_than other one apart (omega (arith, here)) in
    get_or-set_other row place (other - 1) value 0 elsewhere

pub row_counted : {X : Type 0} (number : X → ℕ) (positive : (x : X) → 0 < number x) (row : List ℕ) (place : ℕ) (name : X) (value : ℕ) →
    place + 1 ≡ number name → place < length row → value ≡ counted_on (get_or row place 0) 1
    → count_in number (set row place value) ≡ counted_at number name 1 (count_in number row)
row_counted number positive row place name value is within counted =
    let each = λ (other : _). at_name row place (number name) (number other) value is (positive other) within counted (number other == number name)
    (λ i. number other == number name) in
    λ i other. each other i

pub reason_positive : (reason : DropReason) → 0 < reason_number reason
reason_positive Truncated = omega arith
reason_positive _ = omega arith

pub refusal_positive : (name : Refusal) → 0 < refusal_number name
refusal_positive Long = omega arith
refusal_positive _ = omega arith
