-- A row whose timers of several sources are set, one after another.
use Rattle.mq_held.proofs.Common.{◌≡◌, ℕ, ◌+◌, ◌-◌, ◌<◌, ◌≤◌, ◌==◌, min, Bool, true, false, if◌then◌else◌, ltb, ◌&&◌, ◌||◌, refl, List, [], ◌∷◌, ◌++◌, length}
use Rattle.mq_held.proofs.Common.{get_or, set, take, drop, Option, None, Some, IfSome, sym, ap, ◌∙◌, subst, arith, ⊎_elim, list_map, list_all, list_any}
use Rattle.mq_held.proofs.Common.{or-false, and_parts, cases_lt, eqb-true, lt-ltb, true≢false, drop-drop, drop-set-lt, get_or-drop, get_or_read, length-map}
use Rattle.mq_held.proofs.Common.{length-set, map-append, take_more, Any-from_list_any, list_all-map, list_any-append, AllPass-from_list_all, IsAscending}
use Rattle.mq_held.proofs.Common.{set_of, Source, IsWellFormed, deadline_of, is_stopped, number_in, timers_in, get-found, ScheduledGroup, Inside, ScheduledHead}
use Rattle.mq_held.proofs.Common.{HeldState, moments_of, StandsFrom, has_each, restarted, restarted_each, earliest_of, group_of, no_head}
use Rattle.std.specs.FinMap as map
use Rattle.mq_held.proofs.Located.{Located, group_in, row_of}
use Rattle.mq_held.proofs.RestartedEach.{IsWellFormed-restarted_each, has_each-row, restarted_each-more}
use Rattle.mq_held.proofs.RestartedTimers.{SourceRestarted, earliest-restarted, group-restarted, up-restarted}

-- the earliest moment, once so many timers that were later run until a deadline
abbrev pub earliest_after : (earliest deadline count : ℕ) → ℕ
earliest_after earliest deadline count = if ltb 0 count then min earliest deadline else earliest

-- a place that a name has, from which a walk can start
module _ {X : Type 0} (number : X → ℕ) where
  stands : (xs : List X) (n : ℕ) → set_of number xs n ≡ true → StandsFrom number xs n 0
  stands xs n is =
      let found = Any-from_list_any (λ x. number x == n) xs is in
      record {
        place = found.0;
        behind = omega arith;
        within = found.2;
        is = λ d. sym (ap number (get_or_read xs found.0 found.1 found.2 (sym found.3) d)) ∙ eqb-true (number found.1) n found.4;
      }

  pub each-stands : {K : Type 0} (key : K → ℕ) (xs : List X) (named : List K) → list_all (set_of number xs) (list_map key named) ≡ true → (k : ℕ) (d : K)
      → k < length named → StandsFrom number xs (key (get_or named k d)) 0
  each-stands key xs named all k d inside =
      let each = sym (list_all-map (set_of number xs) key named) ∙ all in
      stands xs (key (get_or named k d)) (AllPass-from_list_all (λ y. set_of number xs (key y)) named each k d inside)

-- a row that has some names has sources
pub some_row : {X : Type 0} (number : X → ℕ) (row : List X) (names : List ℕ) → list_all (set_of number row) names ≡ true → 0 < length names → 0 < length row
some_row number [] [] all some = absurd (omega (arith, some))
some_row number [] (s ∷ names) all some = absurd (true≢false (sym all))
some_row number (x ∷ row) names all some = omega arith

module _ {K : Type 0} (number : K → ℕ) (deadline earliest : ℕ) (before : List (Source K)) (named : List K) where
  -- the row once the timers of the first `count` names are set, up to a place
  pub record IsRestarted (row : List (Source K)) (from count : ℕ) (were_stopped were_later : Bool) : Type 0 where
    pub ascending : IsAscending (number_in number) row
    pub size : length row ≡ length before
    pub within : from ≤ length before
    pub behind : drop from row ≡ drop from before
    pub group : (h : ScheduledHead) → group_of number h row ≡ restarted_each deadline (list_map number (take count named)) (group_of number h before)
    pub stopped : were_stopped ≡ list_any (λ s. is_stopped (map.get (timers_in number before) s)) (list_map number (take count named))
    pub later : were_later ≡ true → (h : ScheduledHead) → earliest_of (moments_of (group_of number h before)) ≡ Some earliest
        → earliest_of (moments_of (group_of number h row)) ≡ Some (earliest_after earliest deadline count)
    pub there : (k : ℕ) (d : K) → count ≤ k → k < length named → StandsFrom (number_in number) before (number (get_or named k d)) from

  pub IsRestarted-none : IsAscending (number_in number) before → list_all (set_of (number_in number) before) (list_map number named) ≡ true
      → IsRestarted before 0 0 false true
  IsRestarted-none up all = record {
    ascending = up;
    size = refl;
    within = omega arith;
    behind = refl;
    group = λ h. refl;
    stopped = refl;
    later = λ later h is. is;
    there = λ k d past inside. each-stands (number_in number) number before named all k d inside;
  }

  -- the row after so many names, and the next name
  pub record IsNext (row : List (Source K)) (from count : ℕ) (were_stopped were_later : Bool) (name : K) : Type 0 where
    pub up : IsAscending (number_in number) before
    pub named_up : IsAscending number named
    pub so_far : IsRestarted row from count were_stopped were_later
    pub here : name ≡ get_or named count name
    pub more : count < length named

module _ {K : Type 0} {number : K → ℕ} {deadline earliest : ℕ} {before : List (Source K)} {named : List K} {row : List (Source K)} {from count : ℕ}
    {were_stopped were_later : Bool} {name : K} (next : IsNext number deadline earliest before named row from count were_stopped were_later name) where
  -- where the next name stands
  pub next-stands : StandsFrom (number_in number) row (number name) from
  next-stands =
      let found = next.so_far.there count name (omega arith) next.more in
      record {
        place = found.place;
        behind = found.behind;
        within = omega (arith, found.within, next.so_far.size);
        is = λ d. ap (number_in number) (alike found.place d found.behind) ∙ found.is d ∙ ap number (sym next.here);
      }
    where
      alike : (place : ℕ) (d : Source K) → from ≤ place → get_or row place d ≡ get_or before place d
      alike place d behind =
          let at : from + (place - from) ≡ place = omega (arith, behind) in
          ap (λ k. get_or row k d) (sym at)
          ∙ sym (get_or-drop from row (place - from) d)
          ∙ ap (λ xs. get_or xs (place - from) d) next.so_far.behind
          ∙ get_or-drop from before (place - from) d
          ∙ ap (λ k. get_or before k d) at

  module _ {place : ℕ} {x y : Source K} (r : SourceRestarted number row place (number name) deadline x y) {later : Bool} (start : from ≤ place)
      (later_is : later ≡ true → IfSome (deadline_of (Some x.timer)) (λ d. earliest < d)) where
    inside : place < length before
    inside = omega (arith, r.stands.within, next.so_far.size)

    at_before : x ≡ get_or before place x
    at_before =
        let at : from + (place - from) ≡ place = omega (arith, start) in
        r.stands.here
        ∙ ap (λ k. get_or row k x) (sym at)
        ∙ sym (get_or-drop from row (place - from) x)
        ∙ ap (λ xs. get_or xs (place - from) x) next.so_far.behind
        ∙ get_or-drop from before (place - from) x
        ∙ ap (λ k. get_or before k x) at

    names_more : list_map number (take (count + 1) named) ≡ list_map number (take count named) ++ number name ∷ []
    names_more =
        ap (list_map number) (take_more named count name next.more)
        ∙ map-append number (take count named) (get_or named count name ∷ [])
        ∙ ap (λ z. list_map number (take count named) ++ number z ∷ []) (sym next.here)

    behind_then : drop (place + 1) (set row place y) ≡ drop (place + 1) before
    behind_then =
        let at : from + (place + 1 - from) ≡ place + 1 = omega (arith, start) in
        drop-set-lt (place + 1) row place y (omega arith)
        ∙ ap (λ k. drop k row) (sym at)
        ∙ sym (drop-drop (place + 1 - from) from row)
        ∙ ap (drop (place + 1 - from)) next.so_far.behind
        ∙ drop-drop (place + 1 - from) from before
        ∙ ap (λ k. drop k before) at

    group_then : (h : ScheduledHead)
        → group_of number h (set row place y) ≡ restarted_each deadline (list_map number (take (count + 1) named)) (group_of number h before)
    group_then h =
        group-restarted r next.so_far.ascending h
        ∙ ap (restarted deadline (number name)) (next.so_far.group h)
        ∙ sym (restarted_each-more deadline (list_map number (take count named)) (number name) (group_of number h before))
        ∙ ap (λ xs. restarted_each deadline xs (group_of number h before)) (sym names_more)

    stopped_then : (were_stopped || is_stopped (Some x.timer))
        ≡ list_any (λ s. is_stopped (map.get (timers_in number before) s)) (list_map number (take (count + 1) named))
    stopped_then =
        let p : ℕ → Bool = λ s. is_stopped (map.get (timers_in number before) s) in
        let found = get-found number before place x (number name) next.up inside (ap (number_in number) (sym at_before) ∙ r.stands.is)
        ∙ ap (λ (s : Source K). Some s.timer) (sym at_before) in
        (λ i. next.so_far.stopped i || is_stopped (sym found i))
        ∙ ap (λ b. list_any p (list_map number (take count named)) || b) (sym (or-false (p (number name))))
        ∙ sym (list_any-append p (list_map number (take count named)) (number name ∷ []))
        ∙ ap (list_any p) (sym names_more)

    weaker : (o : Option ℕ) (least : ℕ) → least ≤ earliest → IfSome o (λ d. earliest < d) → IfSome o (λ d. least < d)
    weaker None least below after = after
    weaker (Some d) least below after = omega (arith, below, after)

    later_then : (were_later && later) ≡ true → (h : ScheduledHead) → earliest_of (moments_of (group_of number h before)) ≡ Some earliest
        → earliest_of (moments_of (group_of number h (set row place y))) ≡ Some (earliest_after earliest deadline (count + 1))
    later_then both h first =
        let parts = and_parts were_later later both in
        earliest-restarted r next.so_far.ascending h (earliest_after earliest deadline count) (next.so_far.later parts.0 h first)
        (weaker (deadline_of (Some x.timer)) (earliest_after earliest deadline count) (no_later (ltb 0 count)) (later_is parts.1))
        ∙ ap Some (at_least (ltb 0 count) ∙ ap (λ b. if b then min earliest deadline else earliest) (sym (lt-ltb 0 (count + 1) (omega arith))))
      where
        no_later : (b : Bool) → (if b then min earliest deadline else earliest) ≤ earliest
        no_later true = omega arith
        no_later false = omega arith

        at_least : (b : Bool) → min (if b then min earliest deadline else earliest) deadline ≡ min earliest deadline
        at_least true = omega arith
        at_least false = refl

    there_then : (k : ℕ) (d : K) → count + 1 ≤ k → k < length named → StandsFrom (number_in number) before (number (get_or named k d)) (place + 1)
    there_then k d past inside_named =
        let found = next.so_far.there k d (omega (arith, past)) inside_named in
        let above : number (get_or named count d) < number (get_or named k d) = next.named_up count k d (omega (arith, past)) inside_named in
        let at : number (get_or named count d) ≡ number name = ap number (sym (get_or_read named count name next.more next.here d)) in
        let mine : number_in number (get_or before place x) ≡ number name = ap (number_in number) (sym at_before) ∙ r.stands.is in
        let its = found.is x in
        record {
          place = found.place;
          behind = behind_place found.place (λ low. not_before found.place low (omega (arith, its, mine, at, above)));
          within = found.within;
          is = found.is;
        }
      where
        -- a source above the one at the place stands after it
        not_before : (p : ℕ) → p ≤ place → number_in number (get_or before place x) < number_in number (get_or before p x) → ⊥
        not_before p low above =
            ⊎_elim
            (λ (front : p < place). let step = next.up p place x front inside in omega (arith, step, above))
            (λ (back : place ≤ p). let same : p ≡ place = omega (arith, low, back) in omega (arith, above, ap (λ k. number_in number (get_or before k x)) same))
            (cases_lt p place)

        behind_place : (p : ℕ) → (p ≤ place → ⊥) → place + 1 ≤ p
        behind_place p none = ⊎_elim (λ (after : place < p). omega (arith, after)) (λ (low : p ≤ place). absurd (none low)) (cases_lt place p)

    pub IsRestarted-more :
        IsRestarted number deadline earliest before named (set row place y) (place + 1) (count + 1)
        (were_stopped || is_stopped (Some x.timer)) (were_later && later)
    IsRestarted-more = record {
      ascending = up-restarted r next.so_far.ascending;
      size = length-set row place y ∙ next.so_far.size;
      within = omega (arith, inside);
      behind = behind_then;
      group = group_then;
      stopped = stopped_then;
      later = later_then;
      there = there_then;
    }

-- The group of a number has each named source, and there is one. `h` is its head.
pub record HasNamed {K A : Type 0} (number : K → ℕ) (s : Inside K A) (state : HeldState) (n : ℕ) (named : List K) (h : ScheduledHead) : Type 0 where
  pub at : Located number s state n
  pub head : h ≡ get_or s.heads.items n h
  pub all : has_each (list_map number named) (group_in number s n) ≡ true
  pub some : 0 < length (row_of s n)

pub has_named : {K A : Type 0} {number : K → ℕ} {s : Inside K A} {state : HeldState} {n : ℕ} {h : ScheduledHead} {named : List K}
    {cells : List (Source K)} {told : Bool} → Located number s state n → h ≡ get_or s.heads.items n h
    → 0 < length named → cells ≡ row_of s n → told ≡ list_all (set_of (number_in number) cells) (list_map number named) → told ≡ true
    → HasNamed number s state n named h
has_named {number = number} {s = s} {n = n} {named = named} l here some cells told is =
    let names = list_map number named in
    let all : list_all (set_of (number_in number) (row_of s n)) names ≡ true =
    ap (λ xs. list_all (set_of (number_in number) xs) names) (sym cells) ∙ sym told ∙ is in
    record {
      at = l;
      head = here;
      all = has_each-row number (get_or s.heads.items n no_head) (row_of s n) names ∙ all;
      some = some_row (number_in number) (row_of s n) names all (omega (arith, some, length-map named number));
    }

-- its group, once they are heard of again
module _ {K A : Type 0} {number : K → ℕ} {s : Inside K A} {state : HeldState} {n : ℕ} {named : List K} {h : ScheduledHead}
    (f : HasNamed number s state n named h) (row : List (Source K)) (deadline : ℕ)
    (is : group_of number h row ≡ restarted_each deadline (list_map number named) (group_of number h (row_of s n))) where
  pub group-each : group_of number h row ≡ restarted_each deadline (list_map number named) (group_in number s n)
  group-each = is ∙ ap (λ g. restarted_each deadline (list_map number named) (group_of number g (row_of s n))) (sym (f.at.head h f.head))

  pub formed-each : IsWellFormed (group_of number h row).group
  formed-each =
      subst (λ (e : ScheduledGroup). IsWellFormed e.group) (sym group-each)
      (IsWellFormed-restarted_each deadline (list_map number named) (group_in number s n) (f.at.inside.0.others_are_held n f.at.held (f.at.other f.some)))
