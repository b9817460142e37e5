-- Lists of sources that are made of other lists, source by source.
use Rattle.mq_table.proofs.Common.{◌≡◌, ℕ, zero, suc, ◌+◌, ◌≤◌, ◌<◌, ◌==◌, false, cond, List, [], ◌∷◌, ◌++◌, length, set, get_or, take, drop, Option, None}
use Rattle.mq_table.proofs.Common.{Some, refl, sym, ap, ◌∙◌, arith, ⊎_elim, list_map, All, filter_map, cons_option, append-nil, take_all, take_more}
use Rattle.mq_table.proofs.Common.{take_more_set, drop_more, drop-set-lt, eq-eqb, eqb_tells, none-some, All-head, All-tail, filter_map-append, IsAscending}
use Rattle.mq_table.proofs.Common.{item_with, KeepsNumbers, IsAscending-tail, below-eqb, above-eqb, found_has_number, item_with-filter_map, Source, Timing}
use Rattle.mq_table.proofs.Common.{GroupState, FilterMode, SourceTimer, timer_at, kept, number_in, timers_in, lowered_to, source_lowered, sources_lowered}
use Rattle.mq_table.proofs.Common.{source_lowered_at, option_map, option_and_then, option_to_list, IfSome}
use Rattle.mq_table.proofs.{Maps.get-kept, Groups.same_sources, SourceLists.get-timers_in}

-- The timers of a list that a rule makes of another are those that the rule's part for timers makes.
module _ {K : Type 0} (number : K → ℕ) (rule : Source K → Option (Source K)) (timer_rule : ℕ → SourceTimer → Option SourceTimer)
    (keeps : KeepsNumbers (number_in number) (number_in number) rule)
    (alike : (x : Source K) → option_map (λ (y : Source K). y.timer) (rule x) ≡ timer_rule (number_in number x) x.timer) where
  made_of_found : (s : ℕ) (found : Option (Source K)) → IfSome found (λ x. number_in number x ≡ s) →
      option_map (λ (y : Source K). y.timer) (option_and_then rule found) ≡ option_and_then (timer_rule s) (option_map (λ (y : Source K). y.timer) found)
  made_of_found s None is = refl
  made_of_found s (Some x) is = alike x ∙ ap (λ n. timer_rule n x.timer) is

  pub timers_in-filter_map : (xs : List (Source K)) → IsAscending (number_in number) xs → timers_in number (filter_map rule xs)
      ≡ kept timer_rule (timers_in number xs)
  timers_in-filter_map xs up = same_sources (timers_in number (filter_map rule xs)) (kept timer_rule (timers_in number xs)) (λ s.
      get-timers_in number (filter_map rule xs) s
      ∙ ap (option_map (λ (y : Source K). y.timer)) (item_with-filter_map (number_in number) (number_in number) rule keeps xs s up)
      ∙ made_of_found s (item_with (number_in number) xs s) (found_has_number (number_in number) xs s)
      ∙ ap (option_and_then (timer_rule s)) (sym (get-timers_in number xs s))
      ∙ sym (get-kept timer_rule (timers_in number xs) s))

-- Lowering the one source of a number is lowering by a rule for all.
module _ {K : Type 0} (number : K → ℕ) (limit n : ℕ) where
  stay : (xs : List (Source K)) → All (λ x. (number_in number x == n) ≡ false) xs → filter_map (source_lowered_at number limit n) xs ≡ xs
  stay [] others = refl
  stay (x ∷ xs) others =
      let P : Source K → Type 0 = λ x. (number_in number x == n) ≡ false in
      rw (All-head P x xs others) (ap (λ ys. x ∷ ys) (stay xs (All-tail P x xs others)))

  pub lowered_in_place : (xs : List (Source K)) (i : ℕ) (d : Source K) → IsAscending (number_in number) xs → i < length xs →
      number_in number (get_or xs i d) ≡ n →
      (let x = get_or xs i d in set xs i (record { address = x.address; timer = source_lowered limit x.timer }))
      ≡ filter_map (source_lowered_at number limit n) xs
  lowered_in_place [] i d up within is = absurd (omega arith)
  lowered_in_place (x ∷ xs) zero d up within is =
      rw (eq-eqb (number_in number x) n is)
      (ap (λ ys. record { address = x.address; timer = source_lowered limit x.timer } ∷ ys)
      (sym (stay xs (λ k e in_list. above-eqb _ n (omega (arith, up 0 (suc k) e (omega arith) (omega arith), is))))))
  lowered_in_place (x ∷ xs) (suc i) d up within is =
      let above : number_in number x < number_in number (get_or xs i d) = up 0 (suc i) d (omega arith) within in
      rw (below-eqb (number_in number x) n (omega (arith, above, is)))
      (ap (λ ys. x ∷ ys) (lowered_in_place xs i d (IsAscending-tail (number_in number) x xs up) (omega arith) is))

-- A group in which the source of a number was lowered.
module _ {K : Type 0} (number : K → ℕ) (timing : Timing) (now : ℕ) (mode : FilterMode) (v1 v2 : Option ℕ) (xs : List (Source K))
    (up : IsAscending (number_in number) xs) (n : ℕ) where
  lowered_keeps : (limit : ℕ) → KeepsNumbers (number_in number) (number_in number) (source_lowered_at number limit n)
  lowered_keeps limit = grind arith

  pub lowered_state : (g : GroupState) → record { mode = mode; sources = timers_in number xs; v1 = v1; v2 = v2 } ≡ g →
      (limit : ℕ) (ys : List (Source K)) → limit ≡ lowered_to timing now → ys ≡ filter_map (source_lowered_at number limit n) xs →
      record { mode = mode; sources = timers_in number ys; v1 = v1; v2 = v2 } ≡ sources_lowered timing now (λ s. s == n) g
  lowered_state g is_before limit ys is_limit is = grind (arith, timers_in-filter_map, lowered_keeps)

-- a group without the source stays
pub unlowered : (timing : Timing) (now n : ℕ) (g : GroupState) → timer_at g n ≡ None → g ≡ sources_lowered timing now (λ s. s == n) g
unlowered timing now n g absent =
    let timers = same_sources g.sources (kept (λ s timer. Some (cond (s == n) (source_lowered (lowered_to timing now) timer) timer)) g.sources) (λ s.
    sym (get-kept (λ s timer. Some (cond (s == n) (source_lowered (lowered_to timing now) timer) timer)) g.sources s ∙
    stays s (timer_at g s) (λ e. ap (timer_at g) e ∙ absent))) in
    λ i. record { mode = g.mode; sources = timers i; v1 = g.v1; v2 = g.v2 }
  where
    stays : (s : ℕ) (timer : Option SourceTimer) → (s ≡ n → timer ≡ None) →
        option_and_then (λ timer. Some (cond (s == n) (source_lowered (lowered_to timing now) timer) timer)) timer ≡ timer
    stays s None absent = refl
    stays s (Some timer) absent =
        ⊎_elim
        (λ same. absurd (none-some timer (sym (absent same.1))))
        (λ other. rw other.0 refl)
        (eqb_tells s n)

-- A pass over a list that writes what a rule makes of each item back into the list, from its front on. `xs`
-- is the list when the items before `place` have been passed and `left` of them are left.
module _ {X : Type 0} (rule : X → Option X) (initial xs : List X) (left place : ℕ) (held : X) (behind : left ≤ place)
    (within : place < length initial) (long : length xs ≡ length initial) (made : take left xs ≡ filter_map rule (take place initial))
    (rest : drop place xs ≡ drop place initial) (is_held : held ≡ get_or xs place held) where
  -- the item at the place and the later ones are unchanged
  pub as_they_were : (get_or xs place held ≡ get_or initial place held) × (drop (place + 1) xs ≡ drop (place + 1) initial)
  as_they_were =
      let here : get_or xs place held ∷ drop (place + 1) xs ≡ get_or initial place held ∷ drop (place + 1) initial =
      sym (drop_more xs place held (omega arith)) ∙ rest ∙ drop_more initial place held within in
      (cc, cc)

  more_made : filter_map rule (take (place + 1) initial) ≡ filter_map rule (take place initial) ++ option_to_list (rule held)
  more_made =
      ap (filter_map rule) (take_more initial place held within ∙ ap (λ x. take place initial ++ x ∷ []) (sym (is_held ∙ as_they_were.0)))
      ∙ filter_map-append rule (take place initial) (held ∷ [])
      ∙ ap (λ ys. filter_map rule (take place initial) ++ ys) (one_made (rule held))
    where
      one_made : (y : Option X) → cons_option y [] ≡ option_to_list y
      one_made None = refl
      one_made (Some y) = refl

  pub passed_some : (y : X) → rule held ≡ Some y → take (left + 1) (set xs left y) ≡ filter_map rule (take (place + 1) initial)
  passed_some y is = take_more_set xs left y (omega arith) ∙ ap (λ ys. ys ++ y ∷ []) made ∙
      sym (more_made ∙ ap (λ o. filter_map rule (take place initial) ++ option_to_list o) is)

  pub passed_none : rule held ≡ None → take left xs ≡ filter_map rule (take (place + 1) initial)
  passed_none is = made ∙ sym (append-nil (filter_map rule (take place initial))) ∙
      sym (more_made ∙ ap (λ o. filter_map rule (take place initial) ++ option_to_list o) is)

  pub rest_after_some : (y : X) → drop (place + 1) (set xs left y) ≡ drop (place + 1) initial
  rest_after_some y = drop-set-lt (place + 1) xs left y (omega arith) ∙ as_they_were.1

  pub rest_after_none : drop (place + 1) xs ≡ drop (place + 1) initial
  rest_after_none = as_they_were.1

-- a rule that makes something of each item is a function
pub made_of_all : {X : Type 0} (f : X → X) (xs : List X) → filter_map (λ x. Some (f x)) xs ≡ list_map f xs
made_of_all f [] = refl
made_of_all f (x ∷ xs) = ap (λ ys. f x ∷ ys) (made_of_all f xs)

-- a pass to the end has made what a function makes of each item
pub all_made : {X : Type 0} (f : X → X) (initial xs : List X) (place : ℕ) → length initial ≤ place → length xs ≡ length initial →
    take place xs ≡ filter_map (λ x. Some (f x)) (take place initial) → xs ≡ list_map f initial
all_made f initial xs place to_end long made =
    sym (take_all place xs (omega arith)) ∙ made ∙ ap (filter_map (λ x. Some (f x))) (take_all place initial to_end) ∙ made_of_all f initial
