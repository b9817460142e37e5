-- The items of a whole merge.
use Rattle.mq_sets.proofs.Common.{ℕ, ◌<◌, ◌≤◌, ◌≡◌, Bool, true, false, cond, ◌==◌, ltb, arith, refl, List, [], ◌∷◌, map, Option, None, Some, ◌∙◌, ⊎_elim, All}
use Rattle.mq_sets.proofs.Common.{filter, option_or, cases_lt, eq-eqb, lt-ltb, le-ltb, ltb-true, eqb_tells, All-cons, All-append, All-map, All-weaker}
use Rattle.mq_sets.proofs.Common.{All-filter, All-head, All-tail, filter_passes, find-append, AllPairs-filter, IsAscending, item_with, merged_lists, number_of}
use Rattle.mq_sets.proofs.Common.{paired}
use Rattle.mq_sets.proofs.Ascents.{IsAscending-head, IsAscending-tail, IsAscending-cons, IsAscending-append, IsAscending-map, item_with-above, below-eqb}
use Rattle.mq_sets.proofs.Ascents.{above-eqb}

module _ {X : Type 0} (number : X → ℕ) (p : X → Bool) (n : ℕ) where
  -- an item of another number, kept or not, changes nothing for n
  kept_or_not : (b : Bool) (y : X) (ys : List X) → (number y == n) ≡ false → item_with number (cond b (y ∷ ys) ys) n ≡ item_with number ys n
  kept_or_not true y ys differs = rw differs refl
  kept_or_not false y ys differs = refl

  -- a filter that keeps the items of a number keeps what is found there
  item_with-filter_kept : ((y : X) → number y ≡ n → p y ≡ true) → (xs : List X) → item_with number (filter p xs) n ≡ item_with number xs n
  item_with-filter_kept keeps [] = refl
  item_with-filter_kept keeps (y ∷ ys) =
      ⊎_elim
      (λ same. rw (keeps y same.1, same.0) refl)
      (λ other. rw other.0 (kept_or_not (p y) y (filter p ys) other.0 ∙ item_with-filter_kept keeps ys))
      (eqb_tells (number y) n)

  -- a filter that drops them finds nothing
  item_with-filter_dropped : ((y : X) → number y ≡ n → p y ≡ false) → (xs : List X) → item_with number (filter p xs) n ≡ None
  item_with-filter_dropped drops [] = refl
  item_with-filter_dropped drops (y ∷ ys) =
      ⊎_elim
      (λ same. rw (drops y same.1) (item_with-filter_dropped drops ys))
      (λ other. kept_or_not (p y) y (filter p ys) other.0 ∙ item_with-filter_dropped drops ys)
      (eqb_tells (number y) n)

module _ {L R : Type 0} (left_number : L → ℕ) (right_number : R → ℕ) where
  -- a fact about the numbers of both sides holds for the merged numbers
  all_merged : (P : ℕ → Type 0) (left : List L) (right : List R) → All (λ x. P (left_number x)) left → All (λ y. P (right_number y)) right →
      All (λ p. P (number_of left_number right_number p)) (merged_lists left_number right_number left right)
  all_merged P [] right all_l all_r = All-map (λ p. P (number_of left_number right_number p)) (λ y. (None, Some y)) right all_r
  all_merged P (x ∷ left) right all_l all_r =
      All-append (λ p. P (number_of left_number right_number p)) (map (λ y. (None, Some y)) (filter (λ y. ltb (right_number y) (left_number x)) right)) _
      (All-map (λ p. P (number_of left_number right_number p))
      (λ y. (None, Some y)) _ (All-filter (λ y. ltb (right_number y) (left_number x)) (λ y. P (right_number y)) right all_r))
      (All-cons (λ p. P (number_of left_number right_number p)) _ _ (All-head (λ x. P (left_number x)) x left all_l)
      (all_merged P left _ (All-tail (λ x. P (left_number x)) x left all_l)
      (All-filter (λ y. ltb (left_number x) (right_number y)) (λ y. P (right_number y)) right all_r)))

  -- it is ascending
  pub merged-ascending : (left : List L) (right : List R) → IsAscending left_number left → IsAscending right_number right →
      IsAscending (number_of left_number right_number) (merged_lists left_number right_number left right)
  merged-ascending [] right up_l up_r = IsAscending-map (number_of left_number right_number) (λ y. (None, Some y)) right up_r
  merged-ascending (x ∷ left) right up_l up_r =
      let low = filter (λ y. ltb (right_number y) (left_number x)) right in
      let high = filter (λ y. ltb (left_number x) (right_number y)) right in
      let up_low = AllPairs-filter (λ y z. right_number y < right_number z) (λ y. ltb (right_number y) (left_number x)) right up_r in
      let up_high = AllPairs-filter (λ y z. right_number y < right_number z) (λ y. ltb (left_number x) (right_number y)) right up_r in
      let is_low : All (λ y. right_number y < left_number x) low = All-weaker (λ y. ltb (right_number y) (left_number x) ≡ true)
      (λ y. right_number y < left_number x) (λ y h. ltb-true _ _ h) low (filter_passes (λ y. ltb (right_number y) (left_number x)) right) in
      let is_high : All (λ y. left_number x < right_number y) high = All-weaker (λ y. ltb (left_number x) (right_number y) ≡ true)
      (λ y. left_number x < right_number y) (λ y h. ltb-true _ _ h) high (filter_passes (λ y. ltb (left_number x) (right_number y)) right) in
      let rest = merged_lists left_number right_number left high in
      let above : All (λ p. left_number x < number_of left_number right_number p) rest =
      all_merged (λ n. left_number x < n) left high (IsAscending-head left_number x left up_l) is_high in
      let up_rest = merged-ascending left high (IsAscending-tail left_number x left up_l) up_high in
      IsAscending-append (number_of left_number right_number) (left_number x) (map (λ y. (None, Some y)) low)
      ((Some x, item_with right_number right (left_number x)) ∷ rest)
      (IsAscending-map (number_of left_number right_number) (λ y. (None, Some y)) low up_low)
      (IsAscending-cons (number_of left_number right_number) (Some x, item_with right_number right (left_number x)) rest above up_rest)
      (All-map (λ p. number_of left_number right_number p < left_number x) (λ y. (None, Some y)) low is_low)
      (All-cons (λ p. left_number x ≤ number_of left_number right_number p) (Some x, item_with right_number right (left_number x)) rest (omega arith)
      (All-weaker (λ p. left_number x < number_of left_number right_number p) (λ p. left_number x ≤ number_of left_number right_number p)
      (λ p h. omega arith) rest above))

  -- the item of the right side, if only the right has items
  item_with-map_right : (right : List R) (n : ℕ) → item_with (number_of left_number right_number) (map (λ y. (None, Some y)) right) n
      ≡ paired {L = L} None (item_with right_number right n)
  item_with-map_right [] n = refl
  item_with-map_right (y ∷ right) n =
      ⊎_elim
      (λ same. rw same.0 refl)
      (λ other. rw other.0 (item_with-map_right right n))
      (eqb_tells (right_number y) n)

  or_none : (there : Option R) → option_or (paired {L = L} None there) None ≡ paired None there
  or_none None = refl
  or_none (Some y) = refl

  -- at each number it is what the two sides have there
  pub merged-at : (left : List L) (right : List R) (n : ℕ) → IsAscending left_number left → item_with (number_of left_number right_number)
      (merged_lists left_number right_number left right) n ≡ paired (item_with left_number left n) (item_with right_number right n)
  merged-at [] right n up = item_with-map_right right n
  merged-at (x ∷ left) right n up =
      let low = filter (λ y. ltb (right_number y) (left_number x)) right in
      let high = filter (λ y. ltb (left_number x) (right_number y)) right in
      let rest = merged_lists left_number right_number left high in
      let parts = find-append (λ p. number_of left_number right_number p == n) (map (λ y. (None, Some y)) low)
      ((Some x, item_with right_number right (left_number x)) ∷ rest) in
      let first = item_with-map_right low n in
      let later = merged-at left high n (IsAscending-tail left_number x left up) in
      ⊎_elim
      (λ (before : n < left_number x).
      let kept = item_with-filter_kept right_number (λ y. ltb (right_number y) (left_number x)) n (λ y same. lt-ltb _ _ (omega arith)) right in
      let dropped = item_with-filter_dropped right_number (λ y. ltb (left_number x) (right_number y)) n (λ y same. le-ltb _ _ (omega arith)) right in
      let none = item_with-above left_number left n
      (All-weaker (λ z. left_number x < left_number z) (λ z. n < left_number z) (λ z h. omega arith) left (IsAscending-head left_number x left up)) in
      parts ∙ rw (first, kept, above-eqb (left_number x) n before, later, none, dropped) (or_none (item_with right_number right n)))
      (λ (from : left_number x ≤ n).
      let dropped = item_with-filter_dropped right_number (λ y. ltb (right_number y) (left_number x)) n (λ y same. le-ltb _ _ (omega arith)) right in
      ⊎_elim
      (λ (behind : left_number x < n).
      let kept = item_with-filter_kept right_number (λ y. ltb (left_number x) (right_number y)) n (λ y same. lt-ltb _ _ (omega arith)) right in
      parts ∙ rw (first, dropped, below-eqb (left_number x) n behind, later, kept) refl)
      (λ (upto : n ≤ left_number x).
      let same : left_number x ≡ n = omega arith in
      parts ∙ rw (first, dropped, eq-eqb (left_number x) n same, same) refl)
      (cases_lt (left_number x) n))
      (cases_lt n (left_number x))
