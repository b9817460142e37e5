-- The results of a rule on the pairs of a merge.
use Rattle.std.specs.Prelude.{ℕ, ◌≡◌, List, Option, Some, filter_map}
use Rattle.std.specs.Option.{option_and_then}
use Rattle.mq_sets.specs.Ascending.{IsAscending, item_with}
use Rattle.mq_sets.specs.Merging.{merged_lists, number_of, paired}

-- a result of the rule has the number of its item
abbrev pub KeepsNumbers : {X Y : Type 0} → (X → ℕ) → (Y → ℕ) → (X → Option Y) → Type 0
KeepsNumbers {X} {Y} number_x number_y rule =
    (x : X) (y : Y) → rule x ≡ Some y → number_y y ≡ number_x x

-- A rule turns the merge of two ascending lists into an ascending list. For what they have at one number it gives an
-- item, or none.
abbrev pub RulesKeepOrder : {L R T : Type 0} → (L → ℕ) → (R → ℕ) → (T → ℕ) → Type 0
RulesKeepOrder {L} {R} {T} left_number right_number number_t =
    (rule : Option L × Option R → Option T) (left : List L) (right : List R)
    → KeepsNumbers (number_of left_number right_number) number_t rule
    → IsAscending left_number left → IsAscending right_number right
    → IsAscending number_t (filter_map rule (merged_lists left_number right_number left right))

-- at each number that list has the rule's result for what the two lists have there
abbrev pub RulesActAtEachNumber : {L R T : Type 0} → (L → ℕ) → (R → ℕ) → (T → ℕ) → Type 0
RulesActAtEachNumber {L} {R} {T} left_number right_number number_t =
    (rule : Option L × Option R → Option T) (left : List L) (right : List R) (n : ℕ)
    → KeepsNumbers (number_of left_number right_number) number_t rule
    → IsAscending left_number left → IsAscending right_number right
    → item_with number_t (filter_map rule (merged_lists left_number right_number left right)) n
    ≡ option_and_then rule (paired (item_with left_number left n) (item_with right_number right n))
