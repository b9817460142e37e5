-- The binary search: what its loop keeps.
use Rattle.mq_sets.proofs.Common.{ℕ, ◌+◌, ◌-◌, ◌/◌, ◌<◌, ◌≤◌, ◌≡◌, min, arith, List, length, get_or, subst, ⊎_elim, cases_lt, at_read, nat_cmp, ranked, Less}
use Rattle.mq_sets.proofs.Common.{Greater, IsAscending, AllWithin, Spends, Spends-join_within, bitlen, IsPlaceFor}
use Rattle.mq_sets.proofs.Bitlen.{bitlen-half, bitlen-mono}

-- the item of number n lies from low on and below high, if it is there
pub record IsNarrowed {X : Type 0} (number : X → ℕ) (xs : List X) (n old m low high : ℕ) : Type 0 where
  pub ordered : low ≤ high
  pub within : high ≤ length xs
  pub below : AllWithin (λ x. number x < n) xs 0 low
  pub above : AllWithin (λ x. n < number x) xs high (length xs)
  pub spent : Spends (min 1 (length xs - (high - low))) (bitlen (length xs) - bitlen (high - low)) old m

-- a comparison that halves what is left
pub spent_by_halving : {old mid new : ℕ} (all left less : ℕ) → 0 < left → left ≤ all → less ≤ left / 2 →
    Spends (min 1 (all - left)) (bitlen all - bitlen left) old mid → Spends 1 1 mid new → Spends (min 1 (all - less)) (bitlen all - bitlen less) old new
spent_by_halving all left less some within half before one =
    Spends-join_within _ _ before one (omega arith) (omega (arith, bitlen-half left some, bitlen-mono less (left / 2) half, bitlen-mono left all within))

module _ {X : Type 0} (number : X → ℕ) (xs : List X) (n middle : ℕ) (x : X) (up : IsAscending number xs) (in_list : middle < length xs)
    (here : x ≡ get_or xs middle x) where
  -- items up to one below n are below n
  below_to : number x < n → AllWithin (λ y. number y < n) xs 0 (middle + 1)
  below_to low k d from upto =
      let at : number (get_or xs middle d) < n = at_read xs (λ y. number y < n) middle x in_list here low d in
      ⊎_elim
      (λ before. let step = up k middle d before in_list in omega (arith, step, at))
      (λ past. let same : middle ≡ k = omega arith in subst (λ j. number (get_or xs j d) < n) same at)
      (cases_lt k middle)

  -- items from one above n on are above n
  above_from : n < number x → AllWithin (λ y. n < number y) xs middle (length xs)
  above_from high k d from upto =
      let at : n < number (get_or xs middle d) = at_read xs (λ y. n < number y) middle x in_list here high d in
      ⊎_elim
      (λ behind. let step = up middle k d behind upto in omega (arith, step, at))
      (λ past. let same : middle ≡ k = omega arith in subst (λ j. n < number (get_or xs j d)) same at)
      (cases_lt middle k)

  -- the step of the loop where the item in the middle is below n
  pub IsNarrowed-to_above : {old m new low high : ℕ} → IsNarrowed number xs n old m low high → low < high → middle ≡ low + (high - low) / 2 →
      Less ≡ nat_cmp (number x) n → Spends 1 1 m new → IsNarrowed number xs n old new (middle + 1) high
  IsNarrowed-to_above {low = low} {high = high} known some half less one = record {
    ordered = omega arith;
    within = known.within;
    below = below_to (ranked (number x) n Less less);
    above = known.above;
    spent = spent_by_halving (length xs) (high - low) (high - (middle + 1)) (omega arith) (omega (arith, known.within)) (omega arith) known.spent one;
  }

  -- the step of the loop where it is above
  pub IsNarrowed-to_below : {old m new low high : ℕ} → IsNarrowed number xs n old m low high → low < high → middle ≡ low + (high - low) / 2 →
      Greater ≡ nat_cmp (number x) n → Spends 1 1 m new → IsNarrowed number xs n old new low middle
  IsNarrowed-to_below {low = low} {high = high} known some half greater one = record {
    ordered = omega arith;
    within = omega (arith, in_list);
    below = known.below;
    above = above_from (ranked (number x) n Greater greater);
    spent = spent_by_halving (length xs) (high - low) (middle - low) (omega arith) (omega (arith, known.within)) (omega arith) known.spent one;
  }

-- the comparisons if the item was found
pub spent_to_found : {X : Type 0} (number : X → ℕ) (xs : List X) (n : ℕ) {old m new low high : ℕ} → IsNarrowed number xs n old m low high →
    low < high → Spends 1 1 m new → Spends (min 1 (length xs)) (bitlen (length xs)) old new
spent_to_found number xs n {low = low} {high = high} known some one =
    Spends-join_within _ _ known.spent one (omega arith)
    (omega (arith, bitlen-half (high - low) (omega arith), bitlen-mono (high - low) (length xs) (omega (arith, known.within))))

-- the place for an item that was not found
pub place_left : {X : Type 0} (number : X → ℕ) (xs : List X) (n : ℕ) {old m low high : ℕ} → IsNarrowed number xs n old m low high → high ≤ low →
    IsPlaceFor number xs n low
place_left number xs n known none = grind arith
