-- The end of timers changes a filter where a timer of a source runs out, or that of the group.
use Rattle.mq_table.proofs.Common.{◌≡◌, ℕ, ◌==◌, Bool, true, false, not, cond, ◌||◌, List, [], ◌∷◌, Option, None, Some, is_some, refl, sym, ap, ◌∙◌, arith, beq}
use Rattle.mq_table.proofs.Common.{filter_map, cons_option, list_any, option_map, option_and_then, nat_cmp, true≢false, and_parts, or_parts, nat_tests}
use Rattle.mq_table.proofs.Common.{IsAscending, item_with, KeepsNumbers, item_with-filter_map, Source, GroupState, FilterMode, Include, Exclude, SourceTimer}
use Rattle.mq_table.proofs.Common.{is_include, timer_at, vacant, is_vacant, filter_of, names, changes_filter, mode_expired, source_expired, held_or_vacant}
use Rattle.mq_table.proofs.Common.{expired, runs_out, timer_runs_out, number_in, timers_in}
use Rattle.mq_table.proofs.{Changed.address-if, Changed.some-if, Filters.changes-by, Filters.not_unlike, Filters.same_filter, SourceLists.get-timers_in}
use Rattle.mq_table.proofs.{Composed.ended_at, Held.get_of_empty, Maps.get-kept}
use Rattle.std.specs.FinMap as map

-- INCLUDE({}) has the filter of a group that isn't held
none_named : (mode : FilterMode) → names mode None ≡ false
none_named Include = refl
none_named (Exclude d) = refl

filter_of_vacant : (g : GroupState) → is_vacant g ≡ true → filter_of vacant ≡ filter_of g
filter_of_vacant g e =
    let parts = and_parts (is_include g.mode) _ e in
    same_filter vacant g (sym parts.0) (λ s.
    ap (names Include) (map.get-empty nat_cmp s)
    ∙ sym (ap (names g.mode) (get_of_empty g.sources parts.1 s) ∙ none_named g.mode))

filter_of_held : (g : GroupState) → filter_of (held_or_vacant g) ≡ filter_of g
filter_of_held g = grind (arith, filter_of_vacant)

-- the facts of each source, if the mode stays alike
at_one_source : (mode after : FilterMode) (now : ℕ) → is_include mode ≡ is_include after → (timer : SourceTimer) →
    not (beq (names mode (Some timer)) (names after (source_expired after now timer))) ≡ timer_runs_out now timer
at_one_source mode after now e timer = grind (arith, true≢false)

module _ {K : Type 0} (number : K → ℕ) (now : ℕ) where
  -- a source whose timer runs out
  abbrev out : Source K → Option (Source K)
  out x = cond (runs_out now x) (Some x) None

  out_keeps : KeepsNumbers (number_in number) (number_in number) out
  out_keeps x y is = ap (number_in number) (address-if x (runs_out now x) y is)

  abbrev runs_out_at : Option SourceTimer → Bool
  runs_out_at None = false
  runs_out_at (Some timer) = timer_runs_out now timer

  found_out : (xs : List (Source K)) → IsAscending (number_in number) xs → (s : ℕ) → is_some (item_with (number_in number) (filter_map out xs) s)
      ≡ runs_out_at (map.get (timers_in number xs) s)
  found_out xs up s =
      ap is_some (item_with-filter_map (number_in number) (number_in number) out out_keeps xs s up)
      ∙ at_found (item_with (number_in number) xs s)
      ∙ ap runs_out_at (sym (get-timers_in number xs s))
    where
      at_found : (found : Option (Source K)) → is_some (option_and_then out found) ≡ runs_out_at (option_map (λ (x : Source K). x.timer) found)
      at_found None = refl
      at_found (Some x) = some-if x (runs_out now x)

  none_out : (xs : List (Source K)) → list_any (runs_out now) xs ≡ false → filter_map out xs ≡ []
  none_out [] e = refl
  none_out (x ∷ xs) e =
      let parts = or_parts _ _ e in
      ap (λ b. cons_option (cond b (Some x) None) (filter_map out xs)) parts.0 ∙ none_out xs parts.1

  same_number : (n : ℕ) → (n == n) ≡ true
  same_number n = grind (arith, nat_tests)

  one_out : (xs : List (Source K)) → list_any (runs_out now) xs ≡ true → (s : ℕ) × (is_some (item_with (number_in number) (filter_map out xs) s) ≡ true)
  one_out [] e = absurd (true≢false (sym e))
  one_out (x ∷ xs) e = by_first (runs_out now x) refl (one_out xs) e
    where
      by_first : (b : Bool) → runs_out now x ≡ b →
          (list_any (runs_out now) xs ≡ true → (s : ℕ) × (is_some (item_with (number_in number) (filter_map out xs) s) ≡ true)) →
          (b || list_any (runs_out now) xs) ≡ true → (s : ℕ) × (is_some (item_with (number_in number) (filter_map out (x ∷ xs)) s) ≡ true)
      by_first true is one e = (number_in number x, rw (is, same_number (number_in number x)) refl)
      by_first false is one e = let behind = one e in (behind.0, rw is behind.1)

  module _ (mode : FilterMode) (v1 v2 : Option ℕ) (xs : List (Source K)) (up : IsAscending (number_in number) xs) where
    abbrev before : GroupState
    before = record { mode = mode; sources = timers_in number xs; v1 = v1; v2 = v2 }

    abbrev after : GroupState
    after = ended_at now before

    turned_where_out : is_include mode ≡ is_include after.mode → (s : ℕ) →
        not (beq (names mode (timer_at before s)) (names after.mode (timer_at after s))) ≡ runs_out_at (timer_at before s)
    turned_where_out e s = grind (arith, get-kept, none_named, at_one_source)

    ended_changes : changes_filter before after ≡ (list_any (runs_out now) xs || not (beq (is_include mode) (is_include after.mode)))
    ended_changes =
        changes-by before after (list_any (runs_out now) xs)
        (λ alike none s. not_unlike _ _ (turned_where_out (not_unlike _ _ alike) s ∙ sym (found_out xs up s) ∙
        ap (λ ys. is_some (item_with (number_in number) ys s)) (none_out xs none)))
        (λ alike some. let one = one_out xs some in (one.0, turned_where_out (not_unlike _ _ alike) one.0 ∙ sym (found_out xs up one.0) ∙ one.1))

    -- These facts if the group may end, about values that are known by equations.
    pub expired_changes : (g : GroupState) → before ≡ g → (ran_out unlike : Bool) (left : GroupState) → left ≡ expired now g →
        ran_out ≡ list_any (runs_out now) xs → unlike ≡ not (beq (is_include mode) (is_include (mode_expired now mode))) →
        changes_filter g left ≡ (ran_out || unlike)
    unfolding changes_filter
    expired_changes g is_before ran_out unlike left is_left is_out is_unlike = grind (arith, filter_of_held, ended_changes)
