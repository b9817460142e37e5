-- The sources, schedules and moments of all groups, by the items of the order.
use Rattle.std.proofs.Common.{◌≡◌, ℕ, zero, suc, ◌+◌, ◌-◌, ◌<◌, ◌≤◌, Bool, true, false, true≢false, cond, not, if◌then◌else◌, refl, List, [], ◌∷◌}
use Rattle.mq_held.proofs.Common.{length, map, get_or, Option, None, Some, is_some, sym, ap, ◌∙◌, arith, ⊎_elim, option_to_list, nat_cmp, nat_cmp_total, FinMap}
use Rattle.mq_held.proofs.Common.{cases_lt, cases_eq, length-map, nil_from_length, All-map, sum_by-cons, length-filter, set_of, NumberedKey, cells_in, times}
use Rattle.mq_held.proofs.Common.{is_cell, is_cell-same, is_cell-other, Source, deadline_of, is_vacant, SourceTimer, len-timers_in, ScheduledGroup}
use Rattle.mq_held.proofs.Common.{ScheduledHead, unheld, sources_of, sources_in, schedules_of, schedules_in, running_in, moments_of, group_by, groups_by}
use Rattle.mq_held.proofs.Common.{earliest_of, IsStored}
use Rattle.std.specs.List.{All, sum_by, count_by, filter, flat_map}
use Rattle.std.specs.FinMap as map
use Rattle.mq_sets.specs.declared.extents.Extent.{Extent}
use Rattle.mq_sets.proofs.PackedRows.{size_of, named-sum}
use Rattle.mq_held.proofs.{Sorted.ties, Sorted.untied, Amounts.of_group, Amounts.total-entries, HeldMoments.held-moment, OrderedItems.number_of}
use Rattle.mq_held.proofs.{OrderedItems.has-number, OrderedItems.times-in, OrderedItems.absent-times, OrderedGroups.entries-groups, OrderedGroups.values-groups}

-- a sum over a map of a list
pub sum_by-map : {X Y : Type 0} (w : Y → ℕ) (f : X → Y) (xs : List X) → sum_by w (map f xs) ≡ sum_by (λ x. w (f x)) xs
sum_by-map w f [] = refl
sum_by-map w f (x ∷ xs) = sum_by-cons w (f x) (map f xs) ∙ ap (λ n. w (f x) + n) (sum_by-map w f xs) ∙ sym (sum_by-cons (λ x. w (f x)) x xs)

-- sums of what is the same at each item
pub sum_by-same : {X : Type 0} (v w : X → ℕ) (xs : List X) → All (λ x. v x ≡ w x) xs → sum_by v xs ≡ sum_by w xs
sum_by-same v w [] same = refl
sum_by-same v w (x ∷ xs) same =
    let first : v x ≡ w x = same 0 x (omega arith) in
    let rest = sum_by-same v w xs (λ k d within. same (suc k) d (omega (arith, within))) in
    omega (arith, first, rest, sum_by-cons v x xs, sum_by-cons w x xs)

-- the cells of rows that stand by number
module _ {T : Type 0} where
  abbrev extent_of : List T → Extent
  extent_of row = record { start = 0; length = length row; free = 0 }

  size-row : (rows : List (List T)) (n : ℕ) → size_of (map extent_of rows) n ≡ length (get_or rows n [])
  size-row [] n = refl
  size-row (row ∷ rows) zero = refl
  size-row (row ∷ rows) (suc n) = size-row rows n

  pub cells-named : (rows : List (List T)) (numbers : List ℕ) → All (λ n. n < length rows) numbers → ((n : ℕ) → times n numbers ≤ 1) →
      ((n : ℕ) → 0 < length (get_or rows n []) → 1 ≤ times n numbers)
      → sum_by (λ n. length (get_or rows n [])) numbers ≡ cells_in rows
  cells-named rows numbers within once each =
      sum_by-same (λ n. length (get_or rows n [])) (size_of (map extent_of rows)) numbers (λ k d in_list. sym (size-row rows (get_or numbers k d)))
      ∙ named-sum numbers (map extent_of rows) (λ k d in_list. omega (arith, within k d in_list, length-map rows extent_of)) once
      (λ n some. each n (omega (arith, some, size-row rows n)))
      ∙ sum_by-map (λ (e : Extent). e.length) extent_of rows

-- a map is as large as a list that has each of its numbers once
module _ {X : Type 0} where
  pub empty-contains : (m : FinMap nat_cmp X) (n : ℕ) → map.len m ≡ 0 → map.contains_key m n ≡ false
  empty-contains m n none_there = ap (λ (m : FinMap nat_cmp X). map.contains_key m n) (map.empty_of_len m none_there) ∙ ap is_some (map.get-empty nat_cmp n)

  pub absent-get : (m : FinMap nat_cmp X) (n : ℕ) → map.contains_key m n ≡ false → map.get m n ≡ None
  absent-get m n absent = by_value (map.get m n) absent
    where
      by_value : (o : Option X) → is_some o ≡ false → o ≡ None
      by_value None is = refl
      by_value (Some x) is = absurd (true≢false is)

  pub len-counted : (xs : List ℕ) (m : FinMap nat_cmp X) → ((n : ℕ) → times n xs ≡ (if map.contains_key m n then 1 else 0)) → length xs ≡ map.len m
  len-counted [] m each =
      sym (ap map.len (map.same_map nat_cmp_total map.nat_cmp-IsAntisymmetric m map.empty
      (λ n. absent-get m n (by_test n (map.contains_key m n) (each n)) ∙ sym (map.get-empty nat_cmp n))) ∙ map.len-empty nat_cmp X)
    where
      by_test : (n : ℕ) (b : Bool) → times n [] ≡ (if b then 1 else 0) → b ≡ false
      by_test n true is = absurd (omega (arith, is))
      by_test n false is = refl
  len-counted (x ∷ xs) m each =
      let rest = len-counted xs (map.remove m x) (λ n. without n (map.contains_key m n) refl) in
      let fewer : map.len (map.remove m x) ≡ map.len m - 1 = map.len-remove nat_cmp_total m x ∙ ap (λ b. cond b (map.len m - 1) (map.len m)) there in
      ⊎_elim
      (λ (none_there : map.len m < 1). absurd (true≢false (sym there ∙ empty-contains m x (omega (arith, none_there)))))
      (λ (some : 1 ≤ map.len m). omega (arith, rest, fewer, some))
      (cases_lt (map.len m) 1)
    where
      there : map.contains_key m x ≡ true
      there = by_test (map.contains_key m x) (each x)
        where
          by_test : (b : Bool) → times x (x ∷ xs) ≡ (if b then 1 else 0) → b ≡ true
          by_test true is = refl
          by_test false is = absurd (omega (arith, is, sum_by-cons (is_cell x) x xs, is_cell-same x x refl))

      without : (n : ℕ) (b : Bool) → map.contains_key m n ≡ b → times n xs ≡ (if map.contains_key (map.remove m x) n then 1 else 0)
      without n b is =
          let parts = sum_by-cons (is_cell n) x xs in
          let all : times n (x ∷ xs) ≡ (if b then 1 else 0) = each n ∙ ap (λ b. if b then 1 else 0) is in
          ⊎_elim
          (λ (same : n ≡ x).
          let gone : map.contains_key (map.remove m x) n ≡ false =
          ap is_some (map.get-remove nat_cmp_total m x n ∙ ap (λ b. cond b None (map.get m n)) (ties n x same)) in
          let b_is : b ≡ true = sym is ∙ ap (map.contains_key m) same ∙ there in
          let one : times n (x ∷ xs) ≡ 1 = all ∙ ap (λ b. if b then 1 else 0) b_is in
          let zero_left : times n xs ≡ 0 = omega (arith, parts, one, is_cell-same n x (sym same)) in
          zero_left ∙ ap (λ b. if b then 1 else 0) (sym gone))
          (λ (differs : n ≡ x → ⊥).
          let kept : map.contains_key (map.remove m x) n ≡ map.contains_key m n =
          ap is_some (map.get-remove nat_cmp_total m x n ∙ ap (λ b. cond b None (map.get m n)) (untied n x differs)) in
          let left : times n xs ≡ times n (x ∷ xs) = omega (arith, parts, is_cell-other n x (λ same. differs (sym same))) in
          left ∙ all ∙ ap (λ b. if b then 1 else 0) (sym (kept ∙ is)))
          (cases_eq n x)

-- how often a number is left where some pass
pub times-filter : (p : ℕ → Bool) (n : ℕ) (xs : List ℕ) → times n (filter p xs) ≡ cond (p n) (times n xs) 0
times-filter p n [] = by_test (p n)
  where
    by_test : (b : Bool) → times n [] ≡ cond b 0 0
    by_test true = refl
    by_test false = refl
times-filter p n (x ∷ xs) =
    ⊎_elim
    (λ (same : x ≡ n). here (times-filter p n xs) same (p x) refl)
    (λ (differs : x ≡ n → ⊥). elsewhere (times-filter p n xs) differs (p x) refl (p n) refl)
    (cases_eq x n)
  where
    here : times n (filter p xs) ≡ cond (p n) (times n xs) 0 → x ≡ n → (b : Bool) → p x ≡ b → times n (filter p (x ∷ xs)) ≡ cond (p n) (times n (x ∷ xs)) 0
    here rest same true is =
        let own : p n ≡ true = ap p (sym same) ∙ is in
        let after : times n (filter p xs) ≡ times n xs = rest ∙ ap (λ b. cond b (times n xs) 0) own in
        rw (is, own) (omega (arith, after, sum_by-cons (is_cell n) x (filter p xs), sum_by-cons (is_cell n) x xs))
    here rest same false is =
        let own : p n ≡ false = ap p (sym same) ∙ is in
        rw (is, own) (rest ∙ ap (λ b. cond b (times n xs) 0) own)

    elsewhere : times n (filter p xs) ≡ cond (p n) (times n xs) 0 → (x ≡ n → ⊥) → (b : Bool) → p x ≡ b → (o : Bool) → p n ≡ o →
        times n (filter p (x ∷ xs)) ≡ cond (p n) (times n (x ∷ xs)) 0
    elsewhere rest differs true is true own =
        let after : times n (filter p xs) ≡ times n xs = rest ∙ ap (λ b. cond b (times n xs) 0) own in
        rw (is, own) (omega (arith, after, sum_by-cons (is_cell n) x (filter p xs), sum_by-cons (is_cell n) x xs))
    elsewhere rest differs true is false own =
        let after : times n (filter p xs) ≡ 0 = rest ∙ ap (λ b. cond b (times n xs) 0) own in
        rw (is, own) (omega (arith, after, sum_by-cons (is_cell n) x (filter p xs), is_cell-other n x differs))
    elsewhere rest differs false is true own =
        let after : times n (filter p xs) ≡ times n xs = rest ∙ ap (λ b. cond b (times n xs) 0) own in
        rw (is, own) (omega (arith, after, sum_by-cons (is_cell n) x xs, is_cell-other n x differs))
    elsewhere rest differs false is false own = rw (is, own) (rest ∙ ap (λ b. cond b (times n xs) 0) own)

-- a group that isn't held has no moment
no-sources : map.entries (map.empty {X = SourceTimer} {R = nat_cmp}) ≡ []
no-sources = nil_from_length (map.entries map.empty) (sym (map.len-entries map.empty) ∙ map.len-empty nat_cmp SourceTimer)

pub no-moments : earliest_of (moments_of unheld) ≡ None
no-moments =
    ap (λ (es : List (ℕ × SourceTimer)). earliest_of
    (flat_map (λ timer. option_to_list (deadline_of (Some timer))) (map (λ (e : ℕ × SourceTimer). e.1) es))) no-sources

module _ {K : Type 0} (number : K → ℕ) {items : List NumberedKey} {heads : List ScheduledHead} {rows : List (List (Source K))}
    {moments : FinMap nat_cmp ℕ} {schedules : ℕ} (known : IsStored number items heads rows moments schedules) where
  abbrev numbers : List ℕ
  numbers = map number_of items

  abbrev pub of_number : ℕ → ScheduledGroup
  of_number n = group_by number heads rows n

  each_row : (n : ℕ) → 0 < length (get_or rows n []) → 1 ≤ times n numbers
  each_row n some = by_test (set_of number_of items n) refl
    where
      by_test : (b : Bool) → set_of number_of items n ≡ b → 1 ≤ times n numbers
      by_test true held = let found = has-number items n held in times-in items n found.0 found.1
      by_test false absent = absurd (omega (arith, some, ap length (known.unused_are_empty n absent)))

  all_within : All (λ n. n < length rows) numbers
  all_within = All-map (λ (n : ℕ). n < length rows) number_of items known.within

  pub sources-groups : sources_in (groups_by number items heads rows) ≡ cells_in rows
  sources-groups =
      ap (sum_by sources_of) (values-groups number items heads rows known.ascending)
      ∙ sum_by-map sources_of (λ (x : NumberedKey). of_number x.number) items
      ∙ sum_by-same (λ (x : NumberedKey). sources_of (of_number x.number)) (λ (x : NumberedKey). length (get_or rows x.number [])) items
      (λ k d in_list. sizes (get_or items k d).number (known.within k d in_list))
      ∙ sym (sum_by-map (λ n. length (get_or rows n [])) number_of items)
      ∙ cells-named rows numbers all_within known.once each_row
    where
      sizes : (n : ℕ) → n < length rows → sources_of (of_number n) ≡ length (get_or rows n [])
      sizes n within = len-timers_in number (get_or rows n []) (known.rows_ascend n [] within)

  pub schedules-groups : schedules_in (groups_by number items heads rows) ≡ schedules
  schedules-groups =
      total-entries schedules_of (groups_by number items heads rows)
      ∙ ap (sum_by (of_group schedules_of)) (entries-groups number items heads rows known.ascending)
      ∙ sym known.schedules_are

  -- a number has a moment exactly where its group isn't vacant
  pub no-moment : (n : ℕ) → set_of number_of items n ≡ false → map.contains_key moments n ≡ false
  no-moment n absent =
      ap is_some (known.moments_are n ∙ ap (λ b. if b then earliest_of (moments_of (of_number n)) else None) absent)

  pub has-moment : (n : ℕ) → set_of number_of items n ≡ true → map.contains_key moments n ≡ not (is_vacant (of_number n).group)
  has-moment n held =
      ap is_some (known.moments_are n ∙ ap (λ b. if b then earliest_of (moments_of (of_number n)) else None) held)
      ∙ by_test (is_vacant (of_number n).group) refl
    where
      by_test : (b : Bool) → is_vacant (of_number n).group ≡ b → is_some (earliest_of (moments_of (of_number n))) ≡ not b
      by_test true vacant = ap (λ (e : ScheduledGroup). is_some (earliest_of (moments_of e))) (known.vacant_are_unheld n held vacant) ∙ ap is_some no-moments
      by_test false other = held-moment (of_number n).group (of_number n).schedule (known.others_are_held n held other)

  abbrev runs : ℕ → Bool
  runs n = not (is_vacant (of_number n).group)

  each_running : (n : ℕ) → times n (filter runs numbers) ≡ (if map.contains_key moments n then 1 else 0)
  each_running n = times-filter runs n numbers ∙ by_test (set_of number_of items n) refl
    where
      by_test : (b : Bool) → set_of number_of items n ≡ b → cond (runs n) (times n numbers) 0 ≡ (if map.contains_key moments n then 1 else 0)
      by_test false absent =
          both_none (runs n) (times n numbers) (absent-times items n absent) ∙ ap (λ b. if b then 1 else 0) (sym (no-moment n absent))
        where
          both_none : (b : Bool) (k : ℕ) → k ≡ 0 → cond b k 0 ≡ 0
          both_none true k is = is
          both_none false k is = refl
      by_test true held =
          let found = has-number items n held in
          let one : times n numbers ≡ 1 = omega (arith, known.once n, times-in items n found.0 found.1) in
          ap (λ k. cond (runs n) k 0) one ∙ ap (λ b. if b then 1 else 0) (sym (has-moment n held))

  pub running-groups : running_in (groups_by number items heads rows) ≡ map.len moments
  running-groups =
      ap (count_by (λ (e : ScheduledGroup). not (is_vacant e.group))) (values-groups number items heads rows known.ascending)
      ∙ sum_by-map (λ (e : ScheduledGroup). if not (is_vacant e.group) then 1 else 0) (λ (x : NumberedKey). of_number x.number) items
      ∙ sym (sum_by-map (λ n. if runs n then 1 else 0) number_of items)
      ∙ sym (length-filter runs numbers)
      ∙ len-counted (filter runs numbers) moments each_running
