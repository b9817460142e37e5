-- The table of the two digits of each number below 100.
use Rattle.std.proofs.Common.{◌≡◌, ℕ, zero, suc, ◌+◌, ◌*◌, ◌/◌, ◌%◌, ◌<◌, ◌==◌, Bool, true, false, List, [], ◌∷◌, get_or, codes, inl, inr, refl, arith}
use Rattle.std.proofs.{Common.if◌then◌else◌, lemmas.Bool.cases_lt, lemmas.Bool.eqb-true}

-- the table
abbrev pub pairs : List ℕ
pairs = codes "00010203040506070809101112131415161718192021222324252627282930313233343536373839404142434445464748495051525354555657585960616263646566676869707172737475767778798081828384858687888990919293949596979899"

-- a test that each number below some number passes
abbrev all_pass : (ℕ → Bool) → ℕ → Bool
all_pass test zero = true
all_pass test (suc n) = if test n then all_pass test n else false

passes : (test : ℕ → Bool) (n m : ℕ) → all_pass test n ≡ true → m < n → test m ≡ true
passes test zero m all less = absurd (omega (arith, less))
passes test (suc n) m all less = by_last (passes test n m) (test n) refl all
  where
    by_last : (all_pass test n ≡ true → m < n → test m ≡ true) → (is : Bool) → test n ≡ is → (if is then all_pass test n else false) ≡ true → test m ≡ true
    by_last before true is others =
        elim (cases_lt m n) [
          | inl less ↦ before others less
          | inr behind ↦ (let same : m ≡ n = omega (arith, less, behind) in rw same is)
        ]
    by_last before false is others = grind (arith, others)

pub pair_at : (n : ℕ) → n < 100 → ◌≡◌ {A = List ℕ} (get_or pairs (2 * n) 0 ∷ get_or pairs (2 * n + 1) 0 ∷ []) ((48 + n / 10) ∷ (48 + n % 10) ∷ [])
pair_at n small =
    let first = eqb-true (get_or pairs (2 * n) 0) (48 + n / 10) (passes (λ m. get_or pairs (2 * m) 0 == 48 + m / 10) 100 n refl small) in
    let second = eqb-true (get_or pairs (2 * n + 1) 0) (48 + n % 10) (passes (λ m. get_or pairs (2 * m + 1) 0 == 48 + m % 10) 100 n refl small) in
    λ i. first i ∷ second i ∷ []
