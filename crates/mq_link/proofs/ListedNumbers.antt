-- The numbers whose count isn't zero, and the counts.
use Rattle.mq_link.proofs.Common.{◌≡◌, ◌≢◌, ℕ, suc, ◌+◌, ◌<◌, ◌≤◌, Bool, true, false, cond, ◌⊎◌, inl, inr, List, [], ◌∷◌, ◌++◌, length, set, drop, refl, sym}
use Rattle.mq_link.proofs.Common.{ap, ◌∙◌, arith, ltb, length-set, slice_index, All, count_by, nat_cmp, eq_by_cmp, cases_lt, lt-ltb, true≢false, All-push}
use Rattle.mq_link.proofs.Common.{sum_by-cons, sum_by-append, sum_by-set, count_by-le-length, tied, ties, times, is_cell, is_cell-same, is_cell-other}
use Rattle.mq_link.proofs.Common.{AreListed, AreNone}
use Rattle.std.proofs.lemmas.List.{get_or-set_same, get_or-set_other, length-append, drop_all}

abbrev one_or_none : Bool → ℕ
one_or_none b = cond b 1 0

abbrev counts_so : ℕ → ℕ
counts_so c = cond (ltb 0 c) 1 0

-- where no count is another, none is listed

pub none_counted : (counts : List ℕ) → AreNone counts → count_by (ltb 0) counts ≡ 0
none_counted [] none = omega arith
none_counted (c ∷ counts) none =
    let rest = none_counted counts (λ n. none (suc n)) in
    let first : counts_so c ≡ 0 = ap counts_so (none 0) in
    omega (arith, rest, first, sum_by-cons counts_so c counts)

pub none_listed : (counts : List ℕ) → AreNone counts → AreListed counts []
none_listed counts none = record {
  once = λ number. sym (ap counts_so (none number));
  within = λ k d in_list. absurd (omega (arith, in_list));
  count = sym (none_counted counts none);
}

-- a number whose count isn't zero is listed
pub listed_each : (counts numbers : List ℕ) → AreListed counts numbers → (number : ℕ) → 1 ≤ slice_index counts number → 1 ≤ times number numbers
listed_each counts numbers known number some =
    let one : counts_so (slice_index counts number) ≡ 1 = ap one_or_none (lt-ltb 0 (slice_index counts number) (omega (arith, some))) in
    omega (arith, known.once number, one)

module _ (counts numbers : List ℕ) (known : AreListed counts numbers) (number : ℕ) (within : number < length counts) (count : ℕ) (some : 1 ≤ count) where
  abbrev pub counted : List ℕ
  counted = set counts number count

  elsewhere : (n : ℕ) → n ≢ number → slice_index counted n ≡ slice_index counts n
  elsewhere n differs = get_or-set_other counts number n count 0 differs

  still_within : All (λ n. n < length counted) numbers
  still_within k d in_list = let was = known.within k d in_list in let same = length-set counts number count in omega (arith, was, same)

  has_one : counts_so count ≡ 1
  has_one = ap one_or_none (lt-ltb 0 count (omega (arith, some)))

  changed : count_by (ltb 0) counted + counts_so (slice_index counts number) ≡ count_by (ltb 0) counts + counts_so count
  changed = sum_by-set counts_so counts number count 0 within

  here : counts_so (slice_index counted number) ≡ 1
  here = ap counts_so (get_or-set_same counts number count 0 within) ∙ has_one

  -- a number that is listed is counted again
  pub listed_again : 1 ≤ slice_index counts number → AreListed counted numbers
  listed_again had = record {
    once = λ n. by_number n (eq_by_cmp nat_cmp n number) refl;
    within = still_within;
    count = let all = known.count in omega (arith, all, changed, has_one, one);
  }
    where
      one : counts_so (slice_index counts number) ≡ 1
      one = ap one_or_none (lt-ltb 0 (slice_index counts number) (omega (arith, had)))

      by_number : (n : ℕ) (b : Bool) → eq_by_cmp nat_cmp n number ≡ b → times n numbers ≡ counts_so (slice_index counted n)
      by_number n true same =
          let is = tied n number same in
          known.once n
          ∙ ap (λ m. counts_so (slice_index counts m)) is
          ∙ one
          ∙ sym here
          ∙ ap (λ m. counts_so (slice_index counted m)) (sym is)
      by_number n false differs =
          known.once n ∙ ap counts_so (sym (elsewhere n (λ same. true≢false (sym (ties n number same) ∙ differs))))

  module _ (none : slice_index counts number ≡ 0) where
    had_none : counts_so (slice_index counts number) ≡ 0
    had_none = ap counts_so none

    -- there is room in the list for a number that isn't listed
    pub room_for_one : length numbers < length counts
    room_for_one =
        let all = known.count in
        let most = count_by-le-length (ltb 0) counted in
        let same = length-set counts number count in
        omega (arith, all, changed, has_one, had_none, most, same)

    -- a number that isn't listed is put after the others
    pub listed_first : AreListed counted (numbers ++ number ∷ [])
    listed_first = record {
      once = λ n. by_number n (eq_by_cmp nat_cmp n number) refl;
      within = All-push (λ n. n < length counted) numbers number still_within (let same = length-set counts number count in omega (arith, within, same));
      count =
          let all = known.count in
          let long = length-append numbers (number ∷ []) in
          omega (arith, all, changed, has_one, had_none, long);
    }
      where
        by_number : (n : ℕ) (b : Bool) → eq_by_cmp nat_cmp n number ≡ b → times n (numbers ++ number ∷ []) ≡ counts_so (slice_index counted n)
        by_number n true same =
            let is = tied n number same in
            let had = known.once n in
            let had_not = ap (λ m. counts_so (slice_index counts m)) is in
            let counts_now = ap (λ m. counts_so (slice_index counted m)) is in
            omega (
              arith,
              had,
              had_not,
              had_none,
              counts_now,
              here,
              sum_by-append (is_cell n) numbers (number ∷ []),
              sum_by-cons (is_cell n) number [],
              is_cell-same n number (sym is),
            )
        by_number n false differs =
            let apart : n ≢ number = λ same. true≢false (sym (ties n number same) ∙ differs) in
            let had = known.once n in
            let there = ap counts_so (elsewhere n apart) in
            omega (
              arith,
              had,
              there,
              sum_by-append (is_cell n) numbers (number ∷ []),
              sum_by-cons (is_cell n) number [],
              is_cell-other n number (λ same. apart (sym same)),
            )

-- Counts are set to zero, one listed number after the other: what isn't zero is of a number that is left.
abbrev pub IsLeft : (counts numbers : List ℕ) (index : ℕ) → Type 0
IsLeft counts numbers index = (n : ℕ) → 1 ≤ slice_index counts n → 1 ≤ times n (drop index numbers)

pub all_cleared : (counts numbers : List ℕ) (index : ℕ) → length numbers ≤ index → IsLeft counts numbers index → AreNone counts
all_cleared counts numbers index all left n = by_count (cases_lt 0 (slice_index counts n))
  where
    by_count : (0 < slice_index counts n) ⊎ (slice_index counts n ≤ 0) → slice_index counts n ≡ 0
    by_count (inr none) = omega (arith, none)
    by_count (inl some) =
        let had = left n (omega (arith, some)) in
        let rest = ap (times n) (drop_all index numbers all) in
        absurd (omega (arith, had, rest))
