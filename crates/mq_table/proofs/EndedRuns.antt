-- Runs of sources whose timers run on, in a pass over a list that leaves what the end of timers leaves.
use Rattle.mq_table.proofs.Common.{◌≡◌, ℕ, zero, suc, ◌+◌, ◌<◌, ◌≤◌, Bool, true, false, ◌||◌, refl, List, [], ◌∷◌, ◌++◌, length, length-append, get_or, take}
use Rattle.mq_table.proofs.Common.{drop, Option, None, Some, sym, ap, subst, ◌∙◌, arith, AllWithin, filter_map, list_any, true≢false, filter_map-append}
use Rattle.mq_table.proofs.Common.{list_any-append, list_any_more, drop-drop, get_or-drop, compared, lies_ahead, moments_by, moments-more, Source, FilterMode}
use Rattle.mq_table.proofs.Common.{SourceTimer, Stopped, Running, deadline_of, at_zero, source_with, running_among, runs_out, source_left, option_to_list}
use Rattle.mq_table.proofs.Common.{is_some}
use Rattle.std.proofs.lemmas.List.Concat.{flat_map-append}

take_none : {X : Type 0} (n : ℕ) → take {A = X} n [] ≡ []
take_none zero = refl
take_none (suc n) = refl

-- the first of a list, in two parts
take_both : {X : Type 0} (m n both : ℕ) (xs : List X) → both ≡ m + n → take both xs ≡ take m xs ++ take n (drop m xs)
take_both zero n both xs is = ap (λ k. take k xs) (omega (arith, is))
take_both (suc m) n zero xs is = absurd (omega (arith, is))
take_both (suc m) n (suc both) [] is = sym (take_none n)
take_both (suc m) n (suc both) (x ∷ xs) is = ap (λ ys. x ∷ ys) (take_both m n both xs (omega (arith, is)))

pub take_parts : {X : Type 0} (m n : ℕ) (xs : List X) → take (m + n) xs ≡ take m xs ++ take n (drop m xs)
take_parts m n xs = take_both m n (m + n) xs refl

-- items that a rule leaves as they are
pub all_stay : {X : Type 0} (rule : X → Option X) (n : ℕ) (xs : List X) → n ≤ length xs → AllWithin (λ x. rule x ≡ Some x) xs 0 n →
    filter_map rule (take n xs) ≡ take n xs
all_stay rule zero xs within stay = refl
all_stay rule (suc n) [] within stay = refl
all_stay rule (suc n) (x ∷ xs) within stay =
    rw (stay 0 x (omega arith) (omega arith))
    (ap (λ ys. x ∷ ys) (all_stay rule n xs (omega (arith, within)) (λ k d low high. stay (suc k) d (omega arith) (omega (arith, high)))))

-- a source whose timer runs on stays
runs_stay : {K : Type 0} (mode : FilterMode) (now : ℕ) (x : Source K) → lies_ahead now (deadline_of (Some x.timer)) ≡ true → source_left mode now x ≡ Some x
runs_stay mode now x is = grind (arith, true≢false)

-- so do those of a run that lies ahead
pub run_stays : {K : Type 0} (mode : FilterMode) (now : ℕ) (row rest : List (Source K)) (run : ℕ) → row ≡ rest →
    AllWithin (λ x. lies_ahead now (deadline_of (Some x.timer)) ≡ true) row 0 run → AllWithin (λ x. source_left mode now x ≡ Some x) rest 0 run
run_stays mode now row rest run same ahead k d low high =
    runs_stay mode now (get_or rest k d) (subst (λ xs. lies_ahead now (deadline_of (Some (get_or xs k d).timer)) ≡ true) same (ahead k d low high))

-- A run of items that stay has been moved behind what is left of those before.
module _ {X : Type 0} (rule : X → Option X) (initial xs moved : List X) (left place run : ℕ)
    (made : take left xs ≡ filter_map rule (take place initial)) (rest : drop place xs ≡ drop place initial) (within : run ≤ length (drop place xs))
    (stay : AllWithin (λ x. rule x ≡ Some x) (drop place xs) 0 run) (is_moved : take (left + run) moved ≡ take left xs ++ take run (drop place xs))
    (as_before : drop (place + run) moved ≡ drop (place + run) xs) where
  pub run_made : take (left + run) moved ≡ filter_map rule (take (place + run) initial)
  run_made = grind (arith, all_stay, take_parts, filter_map-append)

  pub run_rest : drop (place + run) moved ≡ drop (place + run) initial
  run_rest = as_before ∙ sym (drop-drop run place xs) ∙ ap (drop run) rest ∙ drop-drop run place initial

-- the item behind such a run
pub behind_run : {X : Type 0} (xs moved : List X) (place run : ℕ) (d : X) → drop (place + run) moved ≡ drop (place + run) xs →
    get_or moved (place + run) d ≡ get_or (drop place xs) run d
behind_run xs moved place run d as_before =
    let here : place + run + 0 ≡ place + run = omega arith in
    sym (get_or-drop (place + run) moved 0 d ∙ ap (λ n. get_or moved n d) here)
    ∙ ap (λ ys. get_or ys 0 d) as_before
    ∙ get_or-drop (place + run) xs 0 d ∙ ap (λ n. get_or xs n d) here
    ∙ sym (get_or-drop place xs run d)

-- a source whose timer ends changes as its mode says
pub ended_leaves : {K : Type 0} (mode : FilterMode) (now : ℕ) (x : Source K) → lies_ahead now (deadline_of (Some x.timer)) ≡ false →
    source_left mode now x ≡ source_with x.address (at_zero mode)
ended_leaves mode now x is = grind arith

one_or_none : (o : Option ℕ) → length (option_to_list o) ≡ compared o
one_or_none None = refl
one_or_none (Some moment) = refl

-- the number of running sources, with one more counted
pub running_among-more : {K : Type 0} (sources : List (Source K)) (place : ℕ) (x : Source K) → place < length sources → x ≡ get_or sources place x →
    running_among (take (place + 1) sources) ≡ running_among (take place sources) + compared (deadline_of (Some x.timer))
running_among-more sources place x within here =
    ap length (moments-more (λ x. deadline_of (Some x.timer)) sources place x within here)
    ∙ length-append (moments_by (λ x. deadline_of (Some x.timer)) (take place sources)) (option_to_list (deadline_of (Some x.timer)))
    ∙ ap (λ n. running_among (take place sources) + n) (one_or_none (deadline_of (Some x.timer)))

-- and where a list is counted in two parts
running_among-append : {K : Type 0} (front back : List (Source K)) → running_among (front ++ back) ≡ running_among front + running_among back
running_among-append front back = grind (arith, flat_map-append, length-append)

-- each of a run that lies ahead runs
all_run : {K : Type 0} (now run : ℕ) (row : List (Source K)) → run ≤ length row →
    AllWithin (λ x. lies_ahead now (deadline_of (Some x.timer)) ≡ true) row 0 run → running_among (take run row) ≡ run
all_run now zero row within ahead = refl
all_run now (suc run) [] within ahead = absurd (omega (arith, within))
all_run now (suc run) (x ∷ row) within ahead =
    let both = running_among-append (x ∷ []) (take run row) in
    let first = one x.timer (ahead 0 x (omega arith) (omega arith)) in
    let others = all_run now run row (omega (arith, within)) (λ k d low high. ahead (suc k) d (omega arith) (omega (arith, high))) in
    omega (arith, both, first, others)
  where
    one : (timer : SourceTimer) → lies_ahead now (deadline_of (Some timer)) ≡ true → length (option_to_list (deadline_of (Some timer)) ++ []) ≡ 1
    one Stopped is = absurd (true≢false (sym is))
    one (Running d n) is = refl

-- the number of running sources among the passed ones and the run after them
pub running_among-run : {K : Type 0} (now place run : ℕ) (xs row : List (Source K)) → row ≡ drop place xs → run ≤ length row →
    AllWithin (λ x. lies_ahead now (deadline_of (Some x.timer)) ≡ true) row 0 run → running_among (take (place + run) xs) ≡ running_among (take place xs) + run
running_among-run now place run xs row is within ahead =
    ap running_among (take_parts place run xs)
    ∙ running_among-append (take place xs) (take run (drop place xs))
    ∙ ap (λ n. running_among (take place xs) + n) (ap (λ ys. running_among (take run ys)) (sym is) ∙ all_run now run row within ahead)

-- a timer that runs on doesn't run out, and another runs out where it runs
stays_ahead : {K : Type 0} (now : ℕ) (x : Source K) → lies_ahead now (deadline_of (Some x.timer)) ≡ true → runs_out now x ≡ false
stays_ahead now x is = grind arith

runs_out_here : {K : Type 0} (now : ℕ) (x : Source K) → lies_ahead now (deadline_of (Some x.timer)) ≡ false →
    runs_out now x ≡ is_some (deadline_of (Some x.timer))
runs_out_here now x is = grind arith

-- no source of a run that lies ahead runs out
none_out : {K : Type 0} (now run : ℕ) (row : List (Source K)) → run ≤ length row →
    AllWithin (λ x. lies_ahead now (deadline_of (Some x.timer)) ≡ true) row 0 run → list_any (runs_out now) (take run row) ≡ false
none_out now zero row within ahead = refl
none_out now (suc run) [] within ahead = absurd (omega (arith, within))
none_out now (suc run) (x ∷ row) within ahead =
    rw (stays_ahead now x (ahead 0 x (omega arith) (omega arith)))
    (none_out now run row (omega (arith, within)) (λ k d low high. ahead (suc k) d (omega arith) (omega (arith, high))))

nothing_more : (b : Bool) → (b || false) ≡ b
nothing_more true = refl
nothing_more false = refl

-- the test for a source that ran out, over the passed ones and the run after them
pub any_out-run : {K : Type 0} (now place run : ℕ) (xs row : List (Source K)) → row ≡ drop place xs → run ≤ length row →
    AllWithin (λ x. lies_ahead now (deadline_of (Some x.timer)) ≡ true) row 0 run → list_any (runs_out now) (take (place + run) xs)
    ≡ list_any (runs_out now) (take place xs)
any_out-run now place run xs row is within ahead = grind (arith, take_parts, list_any-append, none_out, nothing_more)

-- and with one more, whose timer doesn't run on
pub any_out-more : {K : Type 0} (now place : ℕ) (sources : List (Source K)) (x : Source K) → place < length sources → x ≡ get_or sources place x →
    lies_ahead now (deadline_of (Some x.timer)) ≡ false → list_any (runs_out now) (take (place + 1) sources)
    ≡ (list_any (runs_out now) (take place sources) || is_some (deadline_of (Some x.timer)))
any_out-more now place sources x within here past =
    list_any_more (runs_out now) sources place x within
    ∙ ap (λ b. list_any (runs_out now) (take place sources) || b) (ap (runs_out now) (sym here) ∙ runs_out_here now x past)
