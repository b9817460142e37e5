-- The moments of a group, by the row of its sources.
use Rattle.mq_held.proofs.Common.{◌≡◌, ℕ, Bool, true, false, cond, refl, List, [], ◌∷◌, ◌++◌, Option, Some, is_some, sym, ap, ◌∙◌, append_assoc, append-nil}
use Rattle.mq_held.proofs.Common.{list_map, T, option_to_list, flat_map, nat_cmp, eq_by_cmp, nat_cmp_total, true≢false, FinMap, find, is_sorted, IsAscending}
use Rattle.mq_held.proofs.Common.{IsAscending-map, Source, FilterMode, Include, Exclude, SourceTimer, Stopped, Running, GroupState, is_running, deadline_of}
use Rattle.mq_held.proofs.Common.{group_deadline, IsWellFormed, number_in, timers_in, ScheduleState, group_due, those_of, moments_of, earliest_of}
use Rattle.mq_held.proofs.Common.{timer_moments}
use Rattle.std.specs.FinMap as map
use Rattle.mq_held.proofs.{Sorted.key_of, Sorted.sorted-ascending, LeastMoments.earliest-join, LeastMoments.earliest-join_right}

-- the entries of the map of a list whose keys rise are the list
pub entries-from_entries : {X : Type 0} (es : List (ℕ × X)) → T (is_sorted nat_cmp es) → map.entries (map.from_entries {R = nat_cmp} es) ≡ es
entries-from_entries es sorted =
    ap map.entries (map.same_map nat_cmp_total map.nat_cmp-IsAntisymmetric (map.from_entries es) (map.from_sorted es)
    (λ q. map.get-from_entries nat_cmp_total es q ∙ sym (map.get-from_sorted nat_cmp es q sorted)))
    ∙ map.entries-from_sorted nat_cmp es sorted

-- the deadlines of the timers in an ascending row
module _ {K : Type 0} (number : K → ℕ) where
  pub deadlines-row : (row : List (Source K)) → IsAscending (number_in number) row → flat_map (λ timer. option_to_list (deadline_of (Some timer)))
      (map.values (timers_in number row)) ≡ flat_map timer_moments row
  deadlines-row row up =
      let pair : Source K → ℕ × SourceTimer = λ x. (number x.address, x.timer) in
      let sorted = sorted-ascending (list_map pair row) (IsAscending-map key_of pair row up) in
      ap (λ (es : List (ℕ × SourceTimer)). flat_map (λ timer. option_to_list (deadline_of (Some timer))) (list_map (λ (e : ℕ × SourceTimer). e.1) es))
      (entries-from_entries (list_map pair row) sorted) ∙ each row
    where
      each : (row : List (Source K)) → flat_map (λ timer. option_to_list (deadline_of (Some timer)))
          (list_map (λ (e : ℕ × SourceTimer). e.1) (list_map (λ (x : Source K). let e : ℕ × SourceTimer = (number x.address, x.timer) in e) row))
          ≡ flat_map timer_moments row
      each [] = refl
      each (x ∷ row) = ap (λ ms. timer_moments x ++ ms) (each row)

-- lists of one earliest are alike
earliest-alike : (xs ys zs : List ℕ) → earliest_of xs ≡ earliest_of ys → earliest_of (xs ++ zs) ≡ earliest_of (ys ++ zs)
earliest-alike xs ys zs same =
    sym (earliest-join xs zs) ∙ ap (λ o. earliest_of (option_to_list o ++ zs)) same ∙ earliest-join ys zs

pub earliest-five : (a b c d e : Option ℕ)
    → earliest_of (option_to_list (earliest_of (option_to_list a ++ option_to_list (earliest_of (option_to_list b ++ option_to_list c)))) ++
    option_to_list (earliest_of (option_to_list d ++ option_to_list e)))
    ≡ earliest_of (those_of (a ∷ b ∷ c ∷ d ∷ e ∷ []))
earliest-five a b c d e =
    let l : Option ℕ → List ℕ = option_to_list in
    let hosts = earliest_of (l b ++ l c) in
    let queries = l d ++ l e in
    earliest-join (l a ++ l hosts) (l (earliest_of queries))
    ∙ earliest-join_right (l a ++ l hosts) queries
    ∙ earliest-alike (l a ++ l hosts) (l a ++ (l b ++ l c)) queries (earliest-join_right (l a) (l b ++ l c))
    ∙ ap earliest_of (simp (append_assoc, append-nil))

-- a held group has at least one moment
some_right : (xs ys : List ℕ) → is_some (earliest_of ys) ≡ true → is_some (earliest_of (xs ++ ys)) ≡ true
some_right [] ys is = is
some_right (x ∷ xs) ys is = refl

some_deadline : (es : List (ℕ × SourceTimer)) (s : ℕ) → is_running (find nat_cmp s es) ≡ true →
    is_some (earliest_of (flat_map (λ timer. option_to_list (deadline_of (Some timer))) (list_map (λ (e : ℕ × SourceTimer). e.1) es))) ≡ true
some_deadline [] s is = is
some_deadline (e ∷ es) s is =
    by_test (eq_by_cmp nat_cmp s e.0) e.1 is (some_deadline es s)
  where
    rest : List ℕ
    rest = flat_map (λ timer. option_to_list (deadline_of (Some timer))) (list_map (λ (e : ℕ × SourceTimer). e.1) es)

    by_test : (b : Bool) (timer : SourceTimer) → is_running (cond b (Some timer) (find nat_cmp s es)) ≡ true →
        (is_running (find nat_cmp s es) ≡ true → is_some (earliest_of rest) ≡ true) →
        is_some (earliest_of (option_to_list (deadline_of (Some timer)) ++ rest)) ≡ true
    by_test true (Running d n) is behind = refl
    by_test true Stopped is behind = absurd (true≢false (sym is))
    by_test false timer is behind = some_right (option_to_list (deadline_of (Some timer))) rest (behind is)

pub held-moment : (g : GroupState) (schedule : ScheduleState) → IsWellFormed g →
    is_some (earliest_of (moments_of (record { group = g; schedule = schedule }))) ≡ true
held-moment g schedule held = by_mode g.mode refl
  where
    deadlines : List ℕ
    deadlines = flat_map (λ timer. option_to_list (deadline_of (Some timer))) (map.values g.sources)

    by_mode : (mode : FilterMode) → g.mode ≡ mode →
        is_some (earliest_of (those_of (group_deadline g.mode ∷ g.v1 ∷ g.v2 ∷ group_due schedule.group_query ∷ schedule.sources_due ∷ []) ++ deadlines)) ≡ true
    by_mode (Exclude d) is = rw is refl
    by_mode Include is =
        let found = held.has_source is in
        let runs = sym (ap is_running (map.get-entries g.sources found.0)) in
        some_right (those_of (group_deadline g.mode ∷ g.v1 ∷ g.v2 ∷ group_due schedule.group_query ∷ schedule.sources_due ∷ [])) deadlines
        (some_deadline (map.entries g.sources) found.0 (runs ∙ found.1))

-- the earliest of all moments of a group, by its row
pub earliest-group : {K : Type 0} (number : K → ℕ) (g : GroupState) (schedule : ScheduleState) (row : List (Source K)) (first : Option ℕ) →
    IsAscending (number_in number) row → timers_in number row ≡ g.sources
    → first ≡ earliest_of (those_of (group_deadline g.mode ∷ g.v1 ∷ g.v2 ∷ group_due schedule.group_query ∷ schedule.sources_due ∷ []))
    → earliest_of (option_to_list first ++ flat_map timer_moments row) ≡ earliest_of (moments_of (record { group = g; schedule = schedule }))
earliest-group number g schedule row first up timers is =
    let head = those_of (group_deadline g.mode ∷ g.v1 ∷ g.v2 ∷ group_due schedule.group_query ∷ schedule.sources_due ∷ []) in
    ap (λ o. earliest_of (option_to_list o ++ flat_map timer_moments row)) is
    ∙ earliest-join head (flat_map timer_moments row)
    ∙ ap (λ ms. earliest_of (head ++ ms))
    (sym (deadlines-row number row up) ∙
    ap (λ (m : FinMap nat_cmp SourceTimer). flat_map (λ timer. option_to_list (deadline_of (Some timer))) (map.values m)) timers)
