-- One step of asking for the sources of a list.
use Rattle.mq_table.proofs.Common.{◌≡◌, ℕ, ◌+◌, ◌<◌, Bool, true, false, cond, ◌||◌, ◌&&◌, List, [], ◌∷◌, ◌++◌, length, map, set, get_or, take, drop, Option}
use Rattle.mq_table.proofs.Common.{Some, refl, sym, ap, ◌∙◌, arith, filter_map, list_any, or-false, drop_more, drop-drop, set-get_or, map-append}
use Rattle.mq_table.proofs.Common.{take-append-drop, list_any_more, list_any-append, set_of, Source, SourceTimer, Stopped, Running, is_ahead, deadline_of}
use Rattle.mq_table.proofs.Common.{is_first, source_if_asked, is_asked_above}
use Rattle.mq_table.{specs.Retransmissions.source_asked, proofs.InOrder.found_in_order, proofs.InOrder.are_asked, proofs.InOrder.one_on}
use Rattle.mq_table.proofs.MadeLists.{as_they_were, passed_some, rest_after_some, made_of_all}

-- a timer that is asked for
pub above_is_lowered : (limit count : ℕ) (t : SourceTimer) → source_asked limit count t ≡ cond (is_ahead limit (deadline_of (Some t))) (Running limit count) t
above_is_lowered limit count Stopped = refl
above_is_lowered limit count (Running d n) = refl

-- the new source, asked for or not, above the limit or not
abbrev pub made_at : {K : Type 0} → (limit count : ℕ) → (asks is_above : Bool) → Source K → Source K
made_at limit count asks is_above x = record { address = x.address; timer = cond (asks && is_above) (Running limit count) x.timer }

module _ {K : Type 0} (number : K → ℕ) (limit count : ℕ) (asked : List K) (initial xs : List (Source K)) (next place : ℕ) (held : Source K) where
  abbrev rule : Source K → Option (Source K)
  rule x = Some (source_if_asked number limit count (set_of number asked) x)

  abbrev test : Source K → Bool
  test = is_asked_above number limit (set_of number asked)

  -- the list, the answer and what is ahead, one source on
  pub record Step (asks is_above : Bool) : Type 0 where
    pub ahead : found_in_order number (cond asks (drop (next + 1) asked) (drop next asked)) (drop (place + 1) initial)
        ≡ are_asked number asked (drop (place + 1) initial)
    pub made : take (place + 1) (set xs place (made_at limit count asks is_above held)) ≡ filter_map rule (take (place + 1) initial)
    pub rest : drop (place + 1) (set xs place (made_at limit count asks is_above held)) ≡ drop (place + 1) initial
    pub some : list_any test (take (place + 1) initial) ≡ (list_any test (take place initial) || (asks && is_above))

  pub step : place < length initial → length xs ≡ length initial → take place xs ≡ filter_map rule (take place initial) → drop place xs ≡ drop place initial
      → found_in_order number (drop next asked) (drop place initial) ≡ are_asked number asked (drop place initial) → held ≡ get_or xs place held
      → (asks is_above : Bool) → is_first number (drop next asked) (number held.address) ≡ asks →
      (asks ≡ true → is_ahead limit (deadline_of (Some held.timer)) ≡ is_above) → Step asks is_above
  step within long made rest ahead is_held asks is_above first above = record {
    ahead = passed asks known.1;
    made = passed_some rule initial xs place place held (omega arith) within long made rest is_held (made_at limit count asks is_above held) is_made;
    rest = rest_after_some rule initial xs place place held (omega arith) within long made rest is_held (made_at limit count asks is_above held);
    some = list_any_more test initial place held within ∙ ap (λ x. list_any test (take place initial) || test x) (sym here) ∙
        ap (λ b. list_any test (take place initial) || b) is_tested;
  }
    where
      here : held ≡ get_or initial place held
      here = is_held ∙ (as_they_were rule initial xs place place held (omega arith) within long made rest is_held).0

      front : drop place initial ≡ held ∷ drop (place + 1) initial
      front = drop_more initial place held within ∙ ap (λ x. x ∷ drop (place + 1) initial) (sym here)

      known : (set_of number asked (number held.address) ≡ asks) ×
          (found_in_order number (cond asks (drop 1 (drop next asked)) (drop next asked)) (drop (place + 1) initial)
          ≡ are_asked number asked (drop (place + 1) initial))
      known = one_on number asked (drop next asked) held (drop (place + 1) initial) (drop place initial) asks front first ahead

      passed : (b : Bool) → found_in_order number (cond b (drop 1 (drop next asked)) (drop next asked)) (drop (place + 1) initial)
          ≡ are_asked number asked (drop (place + 1) initial) → found_in_order number (cond b (drop (next + 1) asked) (drop next asked))
          (drop (place + 1) initial) ≡ are_asked number asked (drop (place + 1) initial)
      passed true is = ap (λ qs. found_in_order number qs (drop (place + 1) initial)) (sym (drop-drop 1 next asked)) ∙ is
      passed false is = is

      timer_made : (b : Bool) → (b ≡ true → is_ahead limit (deadline_of (Some held.timer)) ≡ is_above) →
          cond b (source_asked limit count held.timer) held.timer ≡ cond (b && is_above) (Running limit count) held.timer
      timer_made true above = above_is_lowered limit count held.timer ∙ ap (λ b. cond b (Running limit count) held.timer) (above refl)
      timer_made false above = refl

      is_made : rule held ≡ Some (made_at limit count asks is_above held)
      is_made = ap (λ t. let x : Source K = record { address = held.address; timer = t } in Some x)
          (ap (λ b. cond b (source_asked limit count held.timer) held.timer) known.0 ∙ timer_made asks above)

      both : (b : Bool) → (b ≡ true → is_ahead limit (deadline_of (Some held.timer)) ≡ is_above) →
          (b && is_ahead limit (deadline_of (Some held.timer))) ≡ (b && is_above)
      both true above = above refl
      both false above = refl

      is_tested : test held ≡ (asks && is_above)
      is_tested = ap (λ b. b && is_ahead limit (deadline_of (Some held.timer))) known.0 ∙ both asks above

-- a source that is not lowered stays
pub stays : {K : Type 0} (limit count : ℕ) (asks is_above : Bool) (xs : List (Source K)) (place : ℕ) (held : Source K) → held ≡ get_or xs place held →
    (asks && is_above) ≡ false → set xs place (made_at limit count asks is_above held) ≡ xs
stays limit count asks is_above xs place held is_held not_lowered =
    ap (λ b. let x : Source _ = record { address = held.address; timer = cond b (Running limit count) held.timer } in set xs place x) not_lowered
    ∙ ap (set xs place) is_held ∙ set-get_or xs place held

-- no source after the last one asked for changes
pub none_ahead : {K : Type 0} (number : K → ℕ) (limit count : ℕ) (asked : List K) (rest : List (Source K)) →
    found_in_order number [] rest ≡ are_asked number asked rest → (map (source_if_asked number limit count (set_of number asked)) rest ≡ rest) ×
    (list_any (is_asked_above number limit (set_of number asked)) rest ≡ false)
none_ahead number limit count asked [] is = (refl, refl)
none_ahead number limit count asked (x ∷ rest) is =
    let first : set_of number asked (number x.address) ≡ false = cc in
    let later : found_in_order number [] rest ≡ are_asked number asked rest = cc in
    let known = none_ahead number limit count asked rest later in
    (rw first (ap (λ ys. x ∷ ys) known.0), rw first known.1)

-- so a pass as far as that has made what all of it makes
pub all_asked : {X : Type 0} (f : X → X) (initial xs : List X) (place : ℕ) → take place xs ≡ filter_map (λ x. Some (f x)) (take place initial) →
    drop place xs ≡ drop place initial → map f (drop place initial) ≡ drop place initial → xs ≡ map f initial
all_asked f initial xs place made rest same =
    sym (take-append-drop place xs)
    ∙ ap (λ ys. ys ++ drop place xs) (made ∙ made_of_all f (take place initial))
    ∙ ap (λ ys. map f (take place initial) ++ ys) (rest ∙ sym same)
    ∙ sym (map-append f (take place initial) (drop place initial))
    ∙ ap (map f) (take-append-drop place initial)

pub some_asked : {X : Type 0} (p : X → Bool) (initial : List X) (place : ℕ) → list_any p (drop place initial) ≡ false →
    list_any p (take place initial) ≡ list_any p initial
some_asked p initial place none =
    sym (or-false (list_any p (take place initial)))
    ∙ ap (λ b. list_any p (take place initial) || b) (sym none)
    ∙ sym (list_any-append p (take place initial) (drop place initial))
    ∙ ap (list_any p) (take-append-drop place initial)
