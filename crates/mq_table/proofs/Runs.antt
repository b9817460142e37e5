-- A merge handed out run by run: the sources up to each that is named, and it.
use Rattle.mq_table.proofs.Common.{◌≡◌, ℕ, Bool, true, false, ◌||◌, zero, suc, ◌+◌, ◌<◌, ◌≤◌, List, [], ◌∷◌, ◌++◌, length, get_or, map, take, drop, Option}
use Rattle.mq_table.proofs.Common.{None, Some, refl, subst, sym, ap, ◌∙◌, arith, append_assoc, ⊎_elim, All, AllWithin, filter_map, list_any, option_to_list}
use Rattle.mq_table.proofs.Common.{cases_lt, All-head, All-tail, filter_map-append, at_read, IsAscending, merged_lists, IsAscending-tail, drop_more}
use Rattle.mq_table.proofs.Common.{take-append-drop, get_or-drop, length-take, length-drop, append-nil, length-append}
use Rattle.std.proofs.lemmas.List.{get_or-take}
use Rattle.mq_sets.{specs.Search.IsPlaceFor, proofs.Merges.merged-left_first, proofs.Merges.merged-right_first, proofs.Merges.merged-both_first}
use Rattle.mq_table.proofs.Pushed.{pushed_next, tested_next}

-- the rest of an ascending list is ascending
pub IsAscending-drop : {X : Type 0} (number : X → ℕ) (n : ℕ) (xs : List X) → IsAscending number xs → IsAscending number (drop n xs)
IsAscending-drop number zero xs up = up
IsAscending-drop number (suc n) [] up = up
IsAscending-drop number (suc n) (x ∷ xs) up = IsAscending-drop number n xs (IsAscending-tail number x xs up)

-- one item alone ascends
pub one-IsAscending : {X : Type 0} (number : X → ℕ) (x : X) → IsAscending number (x ∷ [])
one-IsAscending number x i j d before within = absurd (omega (arith, before, within))

-- the items from a place on are above a number, if the item there is
pub above_place : {X : Type 0} (number : X → ℕ) (xs : List X) (n place : ℕ) (x : X) → IsAscending number xs → place < length xs →
    x ≡ get_or xs place x → n < number x → AllWithin (λ y. n < number y) xs place (length xs)
above_place number xs n place x up within here above k d from upto =
    let at : n < number (get_or xs place d) = at_read xs (λ y. n < number y) place x within here above d in
    ⊎_elim
    (λ behind. let step = up place k d behind upto in omega (arith, step, at))
    (λ past. let same : place ≡ k = omega arith in subst (λ j. n < number (get_or xs j d)) same at)
    (cases_lt place k)

module _ {L R : Type 0} (left_number : L → ℕ) (right_number : R → ℕ) where
  -- the pairs of left items alone
  abbrev pub alone : List L → List (Option L × Option R)
  alone xs = map (λ x. (Some x, None)) xs

  -- without a right item all are alone
  pub merged-alone : (left : List L) → merged_lists left_number right_number left [] ≡ alone left
  merged-alone [] = refl
  merged-alone (x ∷ left) = ap (λ ps. (Some x, None) ∷ ps) (merged-alone left)

  -- those below the first right item are alone
  merged-run : (run rest : List L) (y : R) (right : List R) → IsAscending right_number (y ∷ right) → All (λ x. left_number x < right_number y) run →
      merged_lists left_number right_number (run ++ rest) (y ∷ right) ≡ alone run ++ merged_lists left_number right_number rest (y ∷ right)
  merged-run [] rest y right up below = refl
  merged-run (x ∷ run) rest y right up below =
      let P : L → Type 0 = λ x. left_number x < right_number y in
      merged-left_first left_number right_number x (run ++ rest) y right up (All-head P x run below)
      ∙ ap (λ ps. (Some x, None) ∷ ps) (merged-run run rest y right up (All-tail P x run below))

  merged-at : (left : List L) (place : ℕ) (y : R) (right : List R) → IsAscending right_number (y ∷ right) → All (λ x. left_number x < right_number y)
      (take place left) → merged_lists left_number right_number left (y ∷ right) ≡ alone (take place left) ++
      merged_lists left_number right_number (drop place left) (y ∷ right)
  merged-at left place y right up below =
      ap (λ xs. merged_lists left_number right_number xs (y ∷ right)) (sym (take-append-drop place left))
      ∙ merged-run (take place left) (drop place left) y right up below

  -- where the place has the number, its item and the right one are a pair
  pub merged-found : (left : List L) (place : ℕ) (x : L) (y : R) (right rights : List R) → rights ≡ y ∷ right → IsAscending left_number left →
      IsAscending right_number rights → place < length left → x ≡ get_or left place x → left_number x ≡ right_number y
      → merged_lists left_number right_number left rights ≡ alone (take place left) ++
      (Some x, Some y) ∷ merged_lists left_number right_number (drop (place + 1) left) right
  merged-found left place x y right rights is up_l up_r within here same =
      let up = rw is at up_r in
      let front : drop place left ≡ x ∷ drop (place + 1) left = drop_more left place x within ∙ ap (λ z. z ∷ drop (place + 1) left) (sym here) in
      let below : All (λ z. left_number z < right_number y) (take place left) = λ k d in_list. before k d in_list in
      rw is (merged-at left place y right up below
      ∙ ap (λ ps. alone (take place left) ++ ps)
      (ap (λ xs. merged_lists left_number right_number xs (y ∷ right)) front ∙
      merged-both_first left_number right_number x (drop (place + 1) left) y right up same))
    where
      before : (k : ℕ) (d : L) → k < length (take place left) → left_number (get_or (take place left) k d) < right_number y
      before k d in_list =
          let small : k < place = omega (arith, in_list, length-take place left) in
          let at : left_number (get_or left place d) ≡ right_number y = at_read left (λ z. left_number z ≡ right_number y) place x within here same d in
          let step = up_l k place d small within in
          rw (get_or-take place left k d small) (omega (arith, step, at))

  -- else the right one is alone
  pub merged-absent : (left : List L) (place : ℕ) (y : R) (right rights : List R) → rights ≡ y ∷ right → IsAscending right_number rights →
      IsPlaceFor left_number left (right_number y) place
      → merged_lists left_number right_number left rights ≡ alone (take place left) ++
      (None, Some y) ∷ merged_lists left_number right_number (drop place left) right
  merged-absent left place y right rights is up_r at_place =
      let up = rw is at up_r in
      rw is (merged-at left place y right up below ∙ ap (λ ps. alone (take place left) ++ ps) (first (drop place left) above))
    where
      below : All (λ z. left_number z < right_number y) (take place left)
      below k d in_list =
          let small : k < place = omega (arith, in_list, length-take place left) in
          rw (get_or-take place left k d small) (at_place.below k d (omega arith) small)

      above : All (λ z. right_number y < left_number z) (drop place left)
      above k d in_list =
          let behind : place + k < length left = omega (arith, in_list, length-drop place left, at_place.within) in
          rw (get_or-drop place left k d) (at_place.above (place + k) d (omega arith) behind)

      first : (rest : List L) → All (λ z. right_number y < left_number z) rest → merged_lists left_number right_number rest (y ∷ right)
          ≡ (None, Some y) ∷ merged_lists left_number right_number rest right
      first [] above = refl
      first (x ∷ rest) above = merged-right_first left_number right_number x rest y right (All-head (λ z. right_number y < left_number z) x rest above)

-- the results of a rule that keeps items alone
kept_alone : {L R : Type 0} (f : Option L × Option R → Option L) (run : List L) → All (λ x. f (Some x, None) ≡ Some x) run →
    filter_map f (map (λ x. (Some x, None)) run) ≡ run
kept_alone f [] all = refl
kept_alone f (x ∷ run) all =
    let P : _ → Type 0 = λ x. f (Some x, None) ≡ Some x in
    rw (All-head P x run all) (ap (λ ys. x ∷ ys) (kept_alone f run (All-tail P x run all)))

none_alone : {L R Y : Type 0} (f : Option L × Option R → Option Y) (run : List L) → All (λ x. f (Some x, None) ≡ None) run →
    filter_map f (map (λ x. (Some x, None)) run) ≡ []
none_alone f [] all = refl
none_alone f (x ∷ run) all =
    let P : _ → Type 0 = λ x. f (Some x, None) ≡ None in
    rw (All-head P x run all) (none_alone f run (All-tail P x run all))

-- a kept run, and the result for the pair after the run, are pushed; the other results are still ahead
pub run_pushed : {L R : Type 0} (f : Option L × Option R → Option L) (xs with_run pushed run : List L) (p : Option L × Option R)
    (ahead rest : List (Option L × Option R)) (all : List L) → All (λ x. f (Some x, None) ≡ Some x) run
    → with_run ≡ xs ++ run → pushed ≡ with_run ++ option_to_list (f p) → ahead ≡ map (λ x. (Some x, None)) run ++ p ∷ rest → xs ++
    filter_map f ahead ≡ all → pushed ++ filter_map f rest ≡ all
run_pushed f xs with_run pushed run p ahead rest all kept is_run is_pushed is_ahead so_far =
    grind (arith, pushed_next, append_assoc, kept_alone, filter_map-append)

pub run_passed : {L R Y : Type 0} (f : Option L × Option R → Option Y) (xs pushed : List Y) (run : List L) (p : Option L × Option R)
    (ahead rest : List (Option L × Option R)) (all : List Y) → All (λ x. f (Some x, None) ≡ None) run
    → pushed ≡ xs ++ option_to_list (f p) → ahead ≡ map (λ x. (Some x, None)) run ++ p ∷ rest → xs ++ filter_map f ahead ≡ all → pushed ++
    filter_map f rest ≡ all
run_passed f xs pushed run p ahead rest all none is_pushed is_ahead so_far =
    pushed_next f xs pushed p (p ∷ rest) rest all is_pushed refl
    (ap (λ ys. xs ++ (ys ++ filter_map f (p ∷ rest))) (sym (none_alone f run none))
    ∙ ap (λ ys. xs ++ ys) (sym (filter_map-append f (map (λ x. (Some x, None)) run) (p ∷ rest)))
    ∙ ap (λ ps. xs ++ filter_map f ps) (sym is_ahead)
    ∙ so_far)

-- a run without a pair that passes a test is passed, and the test of the next pair is known
none_passes_alone : {L R : Type 0} (f : Option L × Option R → Bool) (run : List L) (rest : List (Option L × Option R)) →
    All (λ x. f (Some x, None) ≡ false) run → list_any f (map (λ x. (Some x, None)) run ++ rest) ≡ list_any f rest
none_passes_alone f [] rest all = refl
none_passes_alone f (x ∷ run) rest all =
    let P : _ → Type 0 = λ x. f (Some x, None) ≡ false in
    rw (All-head P x run all) (none_passes_alone f run rest (All-tail P x run all))

pub run_tested : {L R : Type 0} (f : Option L × Option R → Bool) (so_far now : Bool) (run : List L) (p : Option L × Option R)
    (ahead rest : List (Option L × Option R)) (all : Bool) → All (λ x. f (Some x, None) ≡ false) run
    → now ≡ (so_far || f p) → ahead ≡ map (λ x. (Some x, None)) run ++ p ∷ rest → (so_far || list_any f ahead) ≡ all → (now || list_any f rest) ≡ all
run_tested f so_far now run p ahead rest all none is is_ahead before =
    tested_next f so_far now p (p ∷ rest) rest all is refl
    (ap (λ b. so_far || b) (sym (none_passes_alone f run (p ∷ rest) none) ∙ ap (list_any f) (sym is_ahead)) ∙ before)

pub last_run_tested : {L R : Type 0} (f : Option L × Option R → Bool) (so_far : Bool) (run : List L) (ahead : List (Option L × Option R)) (all : Bool)
    → All (λ x. f (Some x, None) ≡ false) run
    → ahead ≡ map (λ x. (Some x, None)) run → (so_far || list_any f ahead) ≡ all → so_far ≡ all
last_run_tested f so_far run ahead all none is_ahead before =
    sym (with_nothing so_far) ∙
    ap (λ b. so_far || b) (sym (none_passes_alone f run [] none) ∙ ap (list_any f) (append-nil (map (λ x. (Some x, None)) run) ∙ sym is_ahead)) ∙ before
  where
    with_nothing : (b : Bool) → (b || false) ≡ b
    with_nothing true = refl
    with_nothing false = refl

-- the last run
pub last_run_pushed : {L R : Type 0} (f : Option L × Option R → Option L) (xs pushed run : List L) (ahead : List (Option L × Option R)) (all : List L)
    → All (λ x. f (Some x, None) ≡ Some x) run
    → pushed ≡ xs ++ run → ahead ≡ map (λ x. (Some x, None)) run → xs ++ filter_map f ahead ≡ all → pushed ≡ all
last_run_pushed f xs pushed run ahead all kept is_pushed is_ahead so_far =
    is_pushed ∙ ap (λ ys. xs ++ ys) (sym (kept_alone f run kept)) ∙ ap (λ ps. xs ++ filter_map f ps) (sym is_ahead) ∙ so_far

pub last_run_passed : {L R Y : Type 0} (f : Option L × Option R → Option Y) (xs : List Y) (run : List L) (ahead : List (Option L × Option R))
    (all : List Y) → All (λ x. f (Some x, None) ≡ None) run
    → ahead ≡ map (λ x. (Some x, None)) run → xs ++ filter_map f ahead ≡ all → xs ≡ all
last_run_passed f xs run ahead all none is_ahead so_far =
    sym (append-nil xs) ∙ ap (λ ys. xs ++ ys) (sym (none_alone f run none)) ∙ ap (λ ps. xs ++ filter_map f ps) (sym is_ahead) ∙ so_far

-- a pair has at most one result
at_most_one : {X : Type 0} (made : Option X) → length (option_to_list made) ≤ 1
at_most_one None = omega arith
at_most_one (Some x) = omega arith

-- so at most as many are pushed as pairs were taken
pub few_pushed : {X L : Type 0} (made : Option X) (xs with_run pushed run : List X) (left rest : List L) (all i : ℕ) → with_run ≡ xs ++ run →
    pushed ≡ with_run ++ option_to_list made → length run + length rest ≤ length left → length xs + length left ≤ all + i →
    length pushed + length rest ≤ all + (i + 1)
few_pushed made xs with_run pushed run left rest all i is_run is_pushed parts few =
    omega (arith, at_most_one made, ap length is_run ∙ length-append xs run, ap length is_pushed ∙ length-append with_run (option_to_list made), parts, few)

pub few_more : {X : Type 0} (made : Option X) (xs pushed : List X) (i : ℕ) → pushed ≡ xs ++ option_to_list made → length xs ≤ i → length pushed ≤ i + 1
few_more made xs pushed i is few = omega (arith, at_most_one made, ap length is ∙ length-append xs (option_to_list made), few)
