-- The fault of bytes, case by case in the order of the tests.
use Rattle.mq_wire.proofs.Common.{◌≡◌, ℕ, ◌<◌, ◌≤◌, ◌⊎◌, min, List, [], ◌∷◌, ◌++◌, length, Option, Some, None, ◌%◌, inl, inr, arith, refl, true, false}
use Rattle.mq_wire.proofs.Common.{nat_tests, leb_tells, eqb_tells, MessageType, WireFault, Truncated, Checksum, UnknownType, IsRight, is_right, sum_of_words}
use Rattle.mq_wire.proofs.Common.{Family, fault_of, fault_within, first_of, cut_in, type_of, type_named}

is_right-true : (covered : List ℕ) → IsRight covered → is_right covered ≡ true
is_right-true covered right = grind (arith, nat_tests, right.some, right.divisible)

is_right-false : (covered : List ℕ) → ¬ IsRight covered → is_right covered ≡ false
is_right-false covered wrong =
    elim (leb_tells 1 (sum_of_words covered)) [
      | inl some ↦ elim (eqb_tells (sum_of_words covered % 65535) 0) [
        | inl divisible ↦ absurd (wrong (record { some = some.1; divisible = divisible.1 }))
        | inr other ↦ grind (arith, nat_tests, other.0)
      ]
      | inr none ↦ grind (arith, nat_tests, none.0)
    ]

pub right_or_not : (covered : List ℕ) → IsRight covered ⊎ ¬ IsRight covered
right_or_not covered =
    elim (leb_tells 1 (sum_of_words covered)) [
      | inl some ↦ elim (eqb_tells (sum_of_words covered % 65535) 0) [
        | inl divisible ↦ inl (record { some = some.1; divisible = divisible.1 })
        | inr other ↦ inr (λ right. other.1 right.divisible)
      ]
      | inr none ↦ inr (λ right. let positive = right.some in omega (arith, none.1))
    ]

pub short : (family : Family) (pseudo bytes : List ℕ) → length bytes < 4 → fault_of family pseudo bytes ≡ Some (Truncated (min (length bytes) 2))
unfolding fault_of
short family pseudo [] h = refl
short family pseudo (a ∷ []) h = refl
short family pseudo (a ∷ b ∷ []) h = refl
short family pseudo (a ∷ b ∷ c ∷ []) h = refl
short family pseudo (a ∷ b ∷ c ∷ d ∷ bytes) h = absurd (omega arith)

pub header_cut : (family : Family) (pseudo bytes : List ℕ) (fault : WireFault) → cut_in bytes (1 ∷ 1 ∷ 2 ∷ []) ≡ Some fault →
    fault_of family pseudo bytes ≡ Some fault
unfolding fault_of
header_cut family pseudo bytes fault cut = rw cut refl

-- the type, the code and the checksum are whole
header_whole : (bytes : List ℕ) → 4 ≤ length bytes → cut_in bytes (1 ∷ 1 ∷ 2 ∷ []) ≡ None
header_whole bytes long = grind (arith, nat_tests)

pub wrong : (family : Family) (pseudo bytes : List ℕ) → 4 ≤ length bytes → ¬ IsRight (pseudo ++ bytes) → fault_of family pseudo bytes ≡ Some Checksum
unfolding fault_of
wrong family pseudo bytes long not_right =
    let test = is_right-false (pseudo ++ bytes) not_right in
    let header = header_whole bytes long in rw (header, test) refl

pub unknown : (family : Family) (pseudo bytes : List ℕ) → 4 ≤ length bytes → IsRight (pseudo ++ bytes) → type_named family (type_of bytes) ≡ None →
    fault_of family pseudo bytes ≡ Some UnknownType
unfolding fault_of
unknown family pseudo bytes long right unlisted =
    let test = is_right-true (pseudo ++ bytes) right in
    let header = header_whole bytes long in rw (header, test, unlisted) refl

first_of_one : (fault : Option WireFault) → first_of (fault ∷ []) ≡ fault
first_of_one None = refl
first_of_one (Some fault) = refl

pub within : (family : Family) (pseudo bytes : List ℕ) (kind : MessageType) → 4 ≤ length bytes → IsRight (pseudo ++ bytes) →
    type_named family (type_of bytes) ≡ Some kind → fault_of family pseudo bytes ≡ fault_within family bytes kind
unfolding fault_of
within family pseudo bytes kind long right listed =
    let test = is_right-true (pseudo ++ bytes) right in
    let header = header_whole bytes long in rw (header, test, listed) (first_of_one (fault_within family bytes kind))
