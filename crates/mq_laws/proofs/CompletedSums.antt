-- A message with its checksum in its field has a right sum.
use Rattle.mq_laws.proofs.Common.{◌≡◌, ◌≤◌, ℕ, ◌+◌, ◌-◌, ◌*◌, ◌/◌, ◌%◌, ◌<◌, inl, inr, List, [], ◌∷◌, ◌++◌, length, ap, ◌∙◌, arith, refl, div-add-mod}
use Rattle.mq_laws.proofs.Common.{mul-mod_right, nat_tests, eqb_tells, sum_of_words, with_field, checksum_behind, sum_of_both}
use Rattle.mq_wire.specs.Checksum.{ones_complement, checksum_of, IsRight}

sum_with_field : (high low : ℕ) (bytes : List ℕ) → 4 ≤ length bytes → sum_of_words (with_field high low bytes)
    ≡ sum_of_words (with_field 0 0 bytes) + (high * 256 + low)
sum_with_field high low (a ∷ b ∷ c ∷ d ∷ bytes) long = omega arith
sum_with_field high low _ long = absurd (omega arith)

-- the difference of a sum to the next multiple of 65535
completed : (sum : ℕ) → 0 < sum → sum + (65535 - ((sum - 1) % 65535 + 1)) ≡ 65535 * ((sum - 1) / 65535 + 1)
completed sum some = omega (arith, div-add-mod (sum - 1) 65535)

completes : (sum : ℕ) → 0 < sum + (65535 - ones_complement sum)
completes sum = grind (arith, nat_tests)

completes_to_multiple : (sum : ℕ) → (sum + (65535 - ones_complement sum)) % 65535 ≡ 0
completes_to_multiple sum =
    elim (eqb_tells sum 0) [
      | inl none ↦ rw none.1 refl
      | inr some ↦ (
          let positive : 0 < sum = omega (arith, some.1) in
          let whole = completed sum positive in
          rw some.0 (ap (λ m. m % 65535) whole ∙ mul-mod_right 65535 ((sum - 1) / 65535 + 1))
          )
    ]

-- a message with the checksum for its place after other bytes is right there
pub completed_behind : (before bytes : List ℕ) → length before % 2 ≡ 0 → 4 ≤ length bytes →
    IsRight (before ++ with_field (checksum_behind before bytes / 256) (checksum_behind before bytes % 256) bytes)
completed_behind before bytes even long =
    let checksum = checksum_behind before bytes in
    let clear = sum_of_words (before ++ with_field 0 0 bytes) in
    let halves : checksum / 256 * 256 + checksum % 256 ≡ checksum = omega (arith, div-add-mod checksum 256) in
    let parts = sum_of_both before (with_field 0 0 bytes) even in
    let sum : sum_of_words (before ++ with_field (checksum / 256) (checksum % 256) bytes) ≡ clear + checksum =
    (let both = sum_of_both before (with_field (checksum / 256) (checksum % 256) bytes) even in
    let field = sum_with_field (checksum / 256) (checksum % 256) bytes long in
    omega (arith, both, field, parts, halves)) in
    record { some = rw sum (completes clear); divisible = rw sum (completes_to_multiple clear) }

pub completed_is_right : (bytes : List ℕ) → 4 ≤ length bytes → IsRight (with_field (checksum_of bytes / 256) (checksum_of bytes % 256) bytes)
completed_is_right bytes long = completed_behind [] bytes refl long

-- a checksum of words whose sum isn't zero is below the greatest number of 16 bits
pub checksum_below : (before bytes : List ℕ) → 0 < sum_of_words (before ++ with_field 0 0 bytes) → checksum_behind before bytes < 65535
checksum_below before bytes some = grind (arith, nat_tests, some)
