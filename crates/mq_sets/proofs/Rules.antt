-- The results of a rule for each item of an ascending list, number by number.
use Rattle.mq_sets.proofs.Common.{ℕ, ◌<◌, ◌≡◌, arith, refl, List, [], ◌∷◌, Option, None, Some, sym, ap, subst, ◌∙◌, ⊎_elim, All, filter_map, cons_option}
use Rattle.mq_sets.proofs.Common.{option_and_then, eqb_tells, All-nil, All-cons, All-head, All-tail, All-weaker, IsAscending, item_with, merged_lists}
use Rattle.mq_sets.proofs.Common.{number_of}
use Rattle.mq_sets.specs.Rules.{KeepsNumbers, RulesKeepOrder, RulesActAtEachNumber}
use Rattle.mq_sets.proofs.WholeMerge.{merged-ascending, merged-at}
use Rattle.mq_sets.proofs.Ascents.{IsAscending-head, IsAscending-tail, IsAscending-cons, item_with-above}

module _ {X Y : Type 0} (number_x : X → ℕ) (number_y : Y → ℕ) (rule : X → Option Y) (keeps : KeepsNumbers number_x number_y rule) where
  -- a fact about the numbers of all items holds for the results
  All-made : (P : ℕ → Type 0) (x : X) (xs : List X) (made : Option Y) → rule x ≡ made → P (number_x x) →
      All (λ y. P (number_y y)) (filter_map rule xs) → All (λ y. P (number_y y)) (cons_option made (filter_map rule xs))
  All-made P x xs None is here rest = rest
  All-made P x xs (Some y) is here rest =
      All-cons (λ y. P (number_y y)) y (filter_map rule xs) (subst P (sym (keeps x y is)) here) rest

  All-filter_map : (P : ℕ → Type 0) (xs : List X) → All (λ x. P (number_x x)) xs → All (λ y. P (number_y y)) (filter_map rule xs)
  All-filter_map P [] all = All-nil (λ y. P (number_y y))
  All-filter_map P (x ∷ xs) all =
      All-made P x xs (rule x) refl (All-head (λ x. P (number_x x)) x xs all) (All-filter_map P xs (All-tail (λ x. P (number_x x)) x xs all))

  -- the results for an ascending list are ascending
  IsAscending-made : (x : X) (xs : List X) (made : Option Y) → rule x ≡ made → All (λ y. number_x x < number_y y) (filter_map rule xs) →
      IsAscending number_y (filter_map rule xs) → IsAscending number_y (cons_option made (filter_map rule xs))
  IsAscending-made x xs made is above up = grind (arith, IsAscending-cons)

  pub IsAscending-filter_map : (xs : List X) → IsAscending number_x xs → IsAscending number_y (filter_map rule xs)
  IsAscending-filter_map [] up = λ i j d before in_list. absurd (omega arith)
  IsAscending-filter_map (x ∷ xs) up =
      IsAscending-made x xs (rule x) refl
      (All-filter_map (λ n. number_x x < n) xs (IsAscending-head number_x x xs up))
      (IsAscending-filter_map xs (IsAscending-tail number_x x xs up))

  -- the result at each number is that of the item there
  item_with-made : (x : X) (xs : List X) (n : ℕ) (made : Option Y) → rule x ≡ made → IsAscending number_x (x ∷ xs) →
      item_with number_y (filter_map rule xs) n ≡ option_and_then rule (item_with number_x xs n) →
      item_with number_y (cons_option made (filter_map rule xs)) n ≡ option_and_then rule (item_with number_x (x ∷ xs) n)
  item_with-made x xs n None is up rest =
      ⊎_elim
      (λ same.
      let above = All-weaker (λ z. number_x x < number_x z) (λ z. n < number_x z) (λ z h. omega (arith, same.1)) xs (IsAscending-head number_x x xs up) in
      rw (same.0, is) (item_with-above number_y (filter_map rule xs) n (All-filter_map (λ t. n < t) xs above)))
      (λ other. rw other.0 rest)
      (eqb_tells (number_x x) n)
  item_with-made x xs n (Some y) is up rest =
      ⊎_elim
      (λ same. rw (keeps x y is, same.0, is) refl)
      (λ other. rw (keeps x y is, other.0) rest)
      (eqb_tells (number_x x) n)

  pub item_with-filter_map : (xs : List X) (n : ℕ) → IsAscending number_x xs → item_with number_y (filter_map rule xs) n
      ≡ option_and_then rule (item_with number_x xs n)
  item_with-filter_map [] n up = refl
  item_with-filter_map (x ∷ xs) n up =
      item_with-made x xs n (rule x) refl up (item_with-filter_map xs n (IsAscending-tail number_x x xs up))

-- for the pairs of a merge
pub rules_keep_order : {L R T : Type 0} (left_number : L → ℕ) (right_number : R → ℕ) (number_t : T → ℕ) → RulesKeepOrder left_number right_number number_t
rules_keep_order left_number right_number number_t rule left right keeps up_l up_r =
    IsAscending-filter_map (number_of left_number right_number) number_t rule keeps (merged_lists left_number right_number left right)
    (merged-ascending left_number right_number left right up_l up_r)

pub rules_act_at_each_number : {L R T : Type 0} (left_number : L → ℕ) (right_number : R → ℕ) (number_t : T → ℕ) →
    RulesActAtEachNumber left_number right_number number_t
rules_act_at_each_number left_number right_number number_t rule left right n keeps up_l up_r =
    item_with-filter_map (number_of left_number right_number) number_t rule keeps (merged_lists left_number right_number left right) n
    (merged-ascending left_number right_number left right up_l up_r) ∙ ap (option_and_then rule) (merged-at left_number right_number left right n up_l)
