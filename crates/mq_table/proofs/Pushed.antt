-- A list to which a rule's results for the pairs of a merge are pushed, one after another.
use Rattle.mq_table.proofs.Common.{◌≡◌, ℕ, ◌+◌, ◌≤◌, Bool, true, false, ◌||◌, refl, List, [], ◌∷◌, ◌++◌, length, Option, None, Some, sym, ap, ◌∙◌, arith}
use Rattle.mq_table.proofs.Common.{append_assoc, length-append, filter_map, cons_option, list_any, option_to_list, left_of, right_of}
use Rattle.mq_sets.specs.declared.merge_state.Merged.{Merged}

-- the result for the first pair is pushed; those for the others are still ahead
cons_pushed : {X : Type 0} (xs : List X) (made : Option X) (rest : List X) → (xs ++ option_to_list made) ++ rest ≡ xs ++ cons_option made rest
cons_pushed xs None rest = append_assoc xs [] rest
cons_pushed xs (Some x) rest = append_assoc xs (x ∷ []) rest

pub pushed_next : {X P : Type 0} (f : P → Option X) (xs pushed : List X) (p : P) (ahead rest : List P) (all : List X) → pushed ≡ xs ++
    option_to_list (f p) → ahead ≡ p ∷ rest → xs ++ filter_map f ahead ≡ all → pushed ++ filter_map f rest ≡ all
pushed_next f xs pushed p ahead rest all is first so_far =
    ap (λ ys. ys ++ filter_map f rest) is ∙ cons_pushed xs (f p) (filter_map f rest) ∙ ap (λ ps. xs ++ filter_map f ps) (sym first) ∙ so_far

or_assoc : (a b c : Bool) → ((a || b) || c) ≡ (a || (b || c))
or_assoc true b c = refl
or_assoc false b c = refl

-- the test of the first pair is known; that of the others is still ahead
pub tested_next : {P : Type 0} (f : P → Bool) (so_far now : Bool) (p : P) (ahead rest : List P) (all : Bool) → now ≡ (so_far || f p) →
    ahead ≡ p ∷ rest → (so_far || list_any f ahead) ≡ all → (now || list_any f rest) ≡ all
tested_next f so_far now p ahead rest all is first before =
    ap (λ b. b || list_any f rest) is ∙ or_assoc so_far (f p) (list_any f rest) ∙ ap (λ ps. so_far || list_any f ps) (sym first) ∙ before

-- a call of a merge that hands out something hands out one item or two
one_or_two : {L R : Type 0} (p : Merged L R) → 1 ≤ length (left_of (Some p)) + length (right_of (Some p))
one_or_two p = grind arith

at_most_one : {X : Type 0} (made : Option X) → length (option_to_list made) ≤ 1
at_most_one None = omega arith
at_most_one (Some x) = omega arith

-- so no more items are pushed than both sides have handed out
pub pushed_few : {X L R : Type 0} (made : Option X) (xs pushed : List X) (p : Merged L R) (lefts left : List L) (rights right : List R) (both : ℕ) →
    pushed ≡ xs ++ option_to_list made → lefts ≡ left_of (Some p) ++ left → rights ≡ right_of (Some p) ++ right →
    length xs + (length lefts + length rights) ≤ both → length pushed + (length left + length right) ≤ both
pushed_few made xs pushed p lefts left rights right both is on_left on_right few =
    omega (
      arith,
      one_or_two p,
      at_most_one made,
      ap length is ∙ length-append xs (option_to_list made),
      ap length on_left ∙
          length-append (left_of (Some p)) left,
      ap length on_right ∙ length-append (right_of (Some p)) right,
    )
