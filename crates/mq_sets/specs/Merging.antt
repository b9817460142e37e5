-- The merge of two ascending lists, whose items need not have the same type.
use Rattle.std.specs.Prelude.{ℕ, ◌+◌, Bool, ◌&&◌, is_some, if◌then◌else◌, List, [], ◌∷◌, ◌++◌, Option, Some, None, map, filter, length, min, nat_lt}
use Rattle.std.specs.List.{list_any}
use Rattle.std.specs.Option.{option_map_or, option_to_list}
use Rattle.mq_sets.specs.Ascending.{item_with}
use Rattle.mq_sets.specs.Sides.{Sides}
use Rattle.mq_sets.specs.declared.merge_state.Merged.{Merged}
use Rattle.mq_sets.specs.declared.merge_state.Merged.TheVariants.{Left, Both, Right}

-- the items of two ascending lists in ascending order; two items of one number are a pair
abbrev pub merged_lists : {L R : Type 0} → (L → ℕ) → (R → ℕ) → List L → List R → List (Option L × Option R)
merged_lists left_number right_number [] right = map (λ y. (None, Some y)) right
merged_lists left_number right_number (x ∷ left) right =
    map (λ y. (None, Some y)) (filter (λ y. nat_lt (right_number y) (left_number x)) right)
    ++ (Some x, item_with right_number right (left_number x))
    ∷ merged_lists left_number right_number left (filter (λ y. nat_lt (left_number x) (right_number y)) right)

abbrev pub merged : {L R : Type 0} → (L → ℕ) → (R → ℕ) → Sides L R → List (Option L × Option R)
merged left_number right_number sides = merged_lists left_number right_number sides.left sides.right

-- the result of one call of a merge, as the pair of what each side has at its number
abbrev pub pair_of : {L R : Type 0} → Merged L R → Option L × Option R
pair_of (Left x) = (Some x.now, None)
pair_of (Both x y) = (Some x.now, Some y.now)
pair_of (Right y) = (None, Some y.now)

-- the items that one call takes from the left side, and from the right
abbrev pub left_of : {L R : Type 0} → Option (Merged L R) → List L
left_of None = []
left_of (Some p) = option_to_list (pair_of p).0

abbrev pub right_of : {L R : Type 0} → Option (Merged L R) → List R
right_of None = []
right_of (Some p) = option_to_list (pair_of p).1

-- the comparisons of one call: one while neither side is used up
abbrev pub comparisons_of : {L R : Type 0} → Sides L R → ℕ
comparisons_of sides = min 1 (min (length sides.left) (length sides.right))

-- both sides have an item among the pairs
abbrev pub have_both_sides : {L R : Type 0} → List (Option L × Option R) → Bool
have_both_sides pairs = list_any (λ p. is_some p.0) pairs && list_any (λ p. is_some p.1) pairs

-- the number of pairs that are returned while neither side is used up
abbrev pub comparisons_along : {L R : Type 0} → List (Option L × Option R) → ℕ
comparisons_along [] = 0
comparisons_along (p ∷ pairs) = (if have_both_sides (p ∷ pairs) then 1 else 0) + comparisons_along pairs

-- the number of a pair
abbrev pub number_of : {L R : Type 0} → (L → ℕ) → (R → ℕ) → Option L × Option R → ℕ
number_of left_number right_number p = option_map_or left_number p.0 (option_map_or right_number p.1 0)

-- the pair of what two sides have at one number, if either has anything
abbrev pub paired : {L R : Type 0} → Option L → Option R → Option (Option L × Option R)
paired None None = None
paired None (Some y) = Some (None, Some y)
paired (Some x) there = Some (Some x, there)
