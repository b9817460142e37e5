-- A record that is merged with its group changes it as the tables say.
use Rattle.mq_table.proofs.Common.{◌≡◌, ℕ, ◌+◌, ◌==◌, Bool, true, false, cond, List, [], ◌∷◌, Option, None, Some, is_some, refl, sym, ap, ◌∙◌, ◌||◌, arith, beq}
use Rattle.mq_table.proofs.Common.{filter_map, cons_option, list_any, true≢false, or_parts, nat_tests, option_map, option_and_then, IsAscending, set_of}
use Rattle.mq_table.proofs.Common.{item_with, merged_lists, number_of, paired, KeepsNumbers, found_where_member, rules_keep_order, rules_act_at_each_number}
use Rattle.mq_table.proofs.Common.{Kind, Rule, Source, Timing, Set, GroupState, FilterMode, Include, Exclude, SourceTimer, running, stopped, timer_at}
use Rattle.mq_table.proofs.Common.{is_include, membership_interval, table_row, timer_by, change_of, timer_after, is_asked_after, mode_after, changes_mode}
use Rattle.mq_table.proofs.Common.{asks_group_after, timers_in, named_in, number_in, names, changes_filter, source_with, source_made, source_asked, turns}
use Rattle.mq_table.proofs.Common.{source_turned, not, list_map}
use Rattle.mq_table.proofs.{Filters.changes-by, Filters.named_alike, Filters.not_unlike, TableRows.timer_by-nothing, TableRows.timer_at-change_of}
use Rattle.mq_table.proofs.{Groups.same_sources, SourceLists.get-timers_in}
use Rattle.std.specs.FinMap as map
use Rattle.std.specs.FinSet as set

-- A row of the tables depends, for each source, on its timer before and on whether it is named.
row-timer : (gmi : ℕ) (mode : FilterMode) (kind : Kind) (g : GroupState) (A : Set) (s : ℕ) →
    timer_by (table_row gmi mode kind (running g) (stopped g) A) gmi mode s (timer_at g s) ≡ timer_after gmi mode kind (timer_at g s) (A s)
row-timer gmi mode kind g A s = grind arith

row-query : (gmi : ℕ) (mode : FilterMode) (kind : Kind) (g : GroupState) (A : Set) (s : ℕ) →
    (let l = table_row gmi mode kind (running g) (stopped g) A in l.query s) ≡ is_asked_after gmi mode kind (timer_at g s) (A s)
row-query gmi mode kind g A s = grind arith

-- its mode and its query to the group are the same for all sets
row-mode : (gmi : ℕ) (mode : FilterMode) (kind : Kind) (X Y A : Set) → (let l = table_row gmi mode kind X Y A in l.mode) ≡ mode_after gmi mode kind
row-mode gmi mode kind X Y A = grind arith

row-query_group : (gmi : ℕ) (mode : FilterMode) (kind : Kind) (X Y A : Set) → (let l = table_row gmi mode kind X Y A in l.query_group)
    ≡ asks_group_after gmi mode kind
row-query_group gmi mode kind X Y A = grind arith

-- a source that is neither held nor named isn't asked for
asked-nothing : (gmi : ℕ) (mode : FilterMode) (kind : Kind) → is_asked_after gmi mode kind None false ≡ false
asked-nothing gmi mode kind = grind arith

-- a source with a timer has that timer and the source's address
pub timer-source_with : {K : Type 0} (address : K) (timer : Option SourceTimer) → option_map (λ (x : Source K). x.timer) (source_with address timer) ≡ timer
timer-source_with address None = refl
timer-source_with address (Some timer) = refl

pub address-source_with : {K : Type 0} (address : K) (timer : Option SourceTimer) (x : Source K) → source_with address timer ≡ Some x → x.address ≡ address
address-source_with address None x is = cc
address-source_with address (Some timer) x is = cc

pub address-if : {K : Type 0} (address : K) (b : Bool) (x : K) → cond b (Some address) None ≡ Some x → x ≡ address
address-if address true x is = cc
address-if address false x is = cc

pub some-if : {K : Type 0} (address : K) (b : Bool) → is_some (cond b (Some address) None) ≡ b
some-if address true = refl
some-if address false = refl

module _ {K : Type 0} (number : K → ℕ) (rule : Rule) where
  made_keeps : KeepsNumbers (number_of (number_in number) number) (number_in number) (source_made rule)
  made_keeps = grind (arith, address-source_with)

  asked_keeps : KeepsNumbers (number_of (number_in number) number) number (source_asked rule)
  asked_keeps = grind (arith, address-if)

  -- the result of the rules for the items of both sides at one number
  made_at : (held : Option (Source K)) (named : Option K) →
      option_map (λ (x : Source K). x.timer) (option_and_then (source_made rule) (paired held named))
      ≡ timer_after rule.interval_end rule.mode rule.kind (option_map (λ (x : Source K). x.timer) held) (is_some named)
  made_at held named = grind (arith, timer_by-nothing, timer-source_with)

  asked_at : (held : Option (Source K)) (named : Option K) → is_some (option_and_then (source_asked rule) (paired held named))
      ≡ is_asked_after rule.interval_end rule.mode rule.kind (option_map (λ (x : Source K). x.timer) held) (is_some named)
  asked_at held named = grind (arith, asked-nothing, some-if)

  -- the address of a source that is turned
  abbrev turned_source : Option (Source K) × Option K → Option K
  turned_source (Some x, named) = cond (source_turned rule (Some x, named)) (Some x.address) None
  turned_source (None, Some a) = cond (source_turned rule (None, Some a)) (Some a) None
  turned_source (None, None) = None

  turned_keeps : KeepsNumbers (number_of (number_in number) number) number turned_source
  turned_keeps = grind (arith, address-if)

  turned_nothing : (mode : FilterMode) (after : Option SourceTimer) → after ≡ None → turns mode None after ≡ false
  turned_nothing Include after is = rw is refl
  turned_nothing (Exclude d) after is = rw is refl

  turned_at : (held : Option (Source K)) (named : Option K) → is_some (option_and_then turned_source (paired held named))
      ≡ turns rule.mode (option_map (λ (x : Source K). x.timer) held)
      (timer_after rule.interval_end rule.mode rule.kind (option_map (λ (x : Source K). x.timer) held) (is_some named))
  turned_at held named = grind (arith, turned_nothing, timer_by-nothing, some-if)

  turned_none : (p : Option (Source K) × Option K) → source_turned rule p ≡ false → turned_source p ≡ None
  turned_none p e = grind arith

  turned_some : (p : Option (Source K) × Option K) → source_turned rule p ≡ true → (a : K) × (turned_source p ≡ Some a)
  turned_some (Some x, named) e = (x.address, ap (λ b. cond b (Some x.address) None) e)
  turned_some (None, Some a) e = (a, ap (λ b. cond b (Some a) None) e)
  turned_some (None, None) e = absurd (true≢false (sym e))

  none_turned : (ps : List (Option (Source K) × Option K)) → list_any (source_turned rule) ps ≡ false → filter_map turned_source ps ≡ []
  none_turned [] e = refl
  none_turned (p ∷ ps) e =
      let parts = or_parts _ _ e in
      ap (λ o. cons_option o (filter_map turned_source ps)) (turned_none p parts.0) ∙ none_turned ps parts.1

  same_number : (n : ℕ) → (n == n) ≡ true
  same_number n = grind (arith, nat_tests)

  one_turned : (ps : List (Option (Source K) × Option K)) → list_any (source_turned rule) ps ≡ true → (s : ℕ) ×
      (set_of number (filter_map turned_source ps) s ≡ true)
  one_turned [] e = absurd (true≢false (sym e))
  one_turned (p ∷ ps) e = by_first (source_turned rule p) refl (one_turned ps) e
    where
      by_first : (b : Bool) → source_turned rule p ≡ b →
          (list_any (source_turned rule) ps ≡ true → (s : ℕ) × (set_of number (filter_map turned_source ps) s ≡ true)) →
          (b || list_any (source_turned rule) ps) ≡ true → (s : ℕ) × (set_of number (filter_map turned_source (p ∷ ps)) s ≡ true)
      by_first true is one e =
          let some = turned_some p is in
          (number some.0, rw some.1 (ap (λ b. b || set_of number (filter_map turned_source ps) (number some.0)) (same_number (number some.0))))
      by_first false is one e =
          let behind = one e in
          (behind.0, rw (turned_none p is) behind.1)

  module _ (held : List (Source K)) (named : List K) (up_held : IsAscending (number_in number) held) (up_named : IsAscending number named) where
    abbrev pub pairs : List (Option (Source K) × Option K)
    pairs = merged_lists (number_in number) number held named

    pub made_ascends : IsAscending (number_in number) (filter_map (source_made rule) pairs)
    made_ascends = rules_keep_order (number_in number) number (number_in number) (source_made rule) held named made_keeps up_held up_named

    pub asked_ascends : IsAscending number (filter_map (source_asked rule) pairs)
    asked_ascends = rules_keep_order (number_in number) number number (source_asked rule) held named asked_keeps up_held up_named

    get-made : (s : ℕ) → map.get (timers_in number (filter_map (source_made rule) pairs)) s ≡ timer_after rule.interval_end rule.mode rule.kind
        (map.get (timers_in number held) s) (set_of number named s)
    get-made s =
        get-timers_in number _ s
        ∙ ap (option_map (λ (x : Source K). x.timer))
        (rules_act_at_each_number (number_in number) number (number_in number) (source_made rule) held named s made_keeps up_held up_named)
        ∙ made_at (item_with (number_in number) held s) (item_with number named s)
        ∙ (λ i. timer_after rule.interval_end rule.mode rule.kind (sym (get-timers_in number held s) i) (found_where_member number named s i))

    set_of-asked : (s : ℕ) → set_of number (filter_map (source_asked rule) pairs) s ≡ is_asked_after rule.interval_end rule.mode rule.kind
        (map.get (timers_in number held) s) (set_of number named s)
    set_of-asked s =
        sym (found_where_member number (filter_map (source_asked rule) pairs) s)
        ∙ ap is_some (rules_act_at_each_number (number_in number) number number (source_asked rule) held named s asked_keeps up_held up_named)
        ∙ asked_at (item_with (number_in number) held s) (item_with number named s)
        ∙ (λ i. is_asked_after rule.interval_end rule.mode rule.kind (sym (get-timers_in number held s) i) (found_where_member number named s i))

    set_of-turned : (s : ℕ) → set_of number (filter_map turned_source pairs) s ≡ turns rule.mode (map.get (timers_in number held) s)
        (timer_after rule.interval_end rule.mode rule.kind (map.get (timers_in number held) s) (set_of number named s))
    set_of-turned s =
        sym (found_where_member number (filter_map turned_source pairs) s)
        ∙ ap is_some (rules_act_at_each_number (number_in number) number number turned_source held named s turned_keeps up_held up_named)
        ∙ turned_at (item_with (number_in number) held s) (item_with number named s)
        ∙ (λ i. turns rule.mode (sym (get-timers_in number held s) i)
        (timer_after rule.interval_end rule.mode rule.kind (sym (get-timers_in number held s) i) (found_where_member number named s i)))

    -- the source at a number is turned exactly where the timers that the rules make say so
    turned-made : (s : ℕ) → set_of number (filter_map turned_source pairs) s ≡ turns rule.mode (map.get (timers_in number held) s)
        (map.get (timers_in number (filter_map (source_made rule) pairs)) s)
    turned-made s = set_of-turned s ∙ ap (turns rule.mode (map.get (timers_in number held) s)) (sym (get-made s))

-- the addresses that a record names, as a set
any-map : {K : Type 0} (number : K → ℕ) (xs : List K) (s : ℕ) → list_any (λ y. y == s) (list_map number xs) ≡ set_of number xs s
any-map number [] s = refl
any-map number (x ∷ xs) s = ap (λ b. (number x == s) || b) (any-map number xs s)

contains-named_in : {K : Type 0} (number : K → ℕ) (xs : List K) (s : ℕ) → set.contains (named_in number xs) s ≡ set_of number xs s
contains-named_in number xs s = set.contains-from_list_nat (list_map number xs) s ∙ any-map number xs s

-- The group that the pushed sources make, and the sources that are asked for, are those of the tables.
module _ {K : Type 0} (number : K → ℕ) (timing : Timing) (now : ℕ) (mode : FilterMode) (kind : Kind) (v1 v2 : Option ℕ) (held : List (Source K))
    (named : List K) (up_held : IsAscending (number_in number) held) (up_named : IsAscending number named) where
  abbrev pub state_before : GroupState
  state_before = record { mode = mode; sources = timers_in number held; v1 = v1; v2 = v2 }

  abbrev pub rule_of_record : Rule
  rule_of_record = record { kind = kind; mode = mode; interval_end = now + membership_interval timing }

  pub state_after : record {
    mode = mode_after (now + membership_interval timing) mode kind;
    sources =
        timers_in number (filter_map (source_made rule_of_record) (merged_lists (number_in number) number held named));
    v1 = v1;
    v2 = v2;
  } ≡ (change_of timing now state_before kind (named_in number named)).group
  state_after =
      let gmi = now + membership_interval timing in
      let timers = same_sources (timers_in number (filter_map (source_made rule_of_record) (merged_lists (number_in number) number held named))) _ (λ s.
      get-made number rule_of_record held named up_held up_named s
      ∙ ap (timer_after gmi mode kind (timer_at state_before s)) (sym (contains-named_in number named s))
      ∙ sym (row-timer gmi mode kind state_before (set.contains (named_in number named)) s)
      ∙ sym (timer_at-change_of timing now state_before kind (named_in number named) s)) in
      λ i. record {
        mode = sym (row-mode gmi mode kind (running state_before) (stopped state_before) (set.contains (named_in number named))) i;
        sources = timers i;
        v1 = v1;
        v2 = v2;
      }

  pub asked_of : (s : ℕ) → set_of number (filter_map (source_asked rule_of_record) (merged_lists (number_in number) number held named)) s
      ≡ (change_of timing now state_before kind (named_in number named)).query s
  asked_of s =
      let gmi = now + membership_interval timing in
      set_of-asked number rule_of_record held named up_held up_named s
      ∙ ap (is_asked_after gmi mode kind (timer_at state_before s)) (sym (contains-named_in number named s))
      ∙ sym (row-query gmi mode kind state_before (set.contains (named_in number named)) s)

  pub filter_of_after : (after : GroupState) →
      record {
        mode = mode_after (now + membership_interval timing) mode kind;
        sources =
            timers_in number (filter_map (source_made rule_of_record) (merged_lists (number_in number) number held named));
        v1 = v1;
        v2 = v2;
      } ≡ after
      → changes_filter state_before after
      ≡ (list_any (source_turned rule_of_record) (merged_lists (number_in number) number held named) || changes_mode
      (now + membership_interval timing) mode kind)
  filter_of_after after is_after = rw (← is_after) (changes-by state_before made turned (λ e none s. alike e s none) (λ e one. turned_there e one))
    where
      pairs_of : List (Option (Source K) × Option K)
      pairs_of = merged_lists (number_in number) number held named

      made : GroupState
      made = record {
        mode = mode_after (now + membership_interval timing) mode kind;
        sources =
            timers_in number (filter_map (source_made rule_of_record) pairs_of);
        v1 = v1;
        v2 = v2;
      }

      turned : Bool
      turned = list_any (source_turned rule_of_record) pairs_of

      alike : not (beq (is_include mode) (is_include made.mode)) ≡ false → (s : ℕ) → turned ≡ false → names mode (timer_at state_before s)
          ≡ names made.mode (timer_at made s)
      alike e s none =
          let here = sym (turned-made number rule_of_record held named up_held up_named s) ∙
          ap (λ ys. set_of number ys s) (none_turned number rule_of_record pairs_of none) in
          not_unlike (names mode (timer_at state_before s)) (names mode (timer_at made s)) here
          ∙ named_alike mode made.mode (not_unlike (is_include mode) (is_include made.mode) e) (timer_at made s)

      turned_there : not (beq (is_include mode) (is_include made.mode)) ≡ false → turned ≡ true → (s : ℕ) ×
          (not (beq (names mode (timer_at state_before s)) (names made.mode (timer_at made s))) ≡ true)
      turned_there e one =
          let some = one_turned number rule_of_record pairs_of one in (
            some.0,
            ap (λ b. not (beq (names mode (timer_at state_before some.0)) b))
                (sym (named_alike mode made.mode (not_unlike (is_include mode) (is_include made.mode) e) (timer_at made some.0)))
                ∙ sym (turned-made number rule_of_record held named up_held up_named some.0)
                ∙ some.1,
          )

  pub group_asked_of : asks_group_after (now + membership_interval timing) mode kind
      ≡ (change_of timing now state_before kind (named_in number named)).query_group
  group_asked_of = sym (row-query_group (now + membership_interval timing) mode kind (running state_before) (stopped state_before)
      (set.contains (named_in number named)))

  -- The same, of values that are known by equations.
  module _ (g : GroupState) (end : ℕ) (is_end : end ≡ now + membership_interval timing) (is_before : state_before ≡ g) where
    pub recorded_group : (new_mode : FilterMode) (sources : List (Source K)) → new_mode ≡ mode_after end mode kind →
        sources ≡ filter_map (source_made (record { kind = kind; mode = mode; interval_end = end }))
        (merged_lists (number_in number) number held named) → record { mode = new_mode; sources = timers_in number sources; v1 = v1; v2 = v2 }
        ≡ (change_of timing now g kind (named_in number named)).group
    recorded_group new_mode sources is_mode are_sources = rw (is_mode, are_sources, is_end, ← is_before) state_after

    pub recorded_query : (asked : List K) → asked ≡ filter_map (source_asked (record { kind = kind; mode = mode; interval_end = end }))
        (merged_lists (number_in number) number held named) → (s : ℕ) → set_of number asked s ≡ (change_of timing now g kind (named_in number named)).query s
    recorded_query asked are_asked s = rw (are_asked, is_end, ← is_before) (asked_of s)

    pub recorded_query_group : (b : Bool) → b ≡ asks_group_after end mode kind → b ≡ (change_of timing now g kind (named_in number named)).query_group
    recorded_query_group b is = rw (is, is_end, ← is_before) group_asked_of

    pub recorded_filter : (new_mode : FilterMode) (sources : List (Source K)) (turned other : Bool) → new_mode ≡ mode_after end mode kind →
        sources ≡ filter_map (source_made (record { kind = kind; mode = mode; interval_end = end })) (merged_lists (number_in number) number held named)
        → turned ≡ list_any (source_turned (record { kind = kind; mode = mode; interval_end = end }))
        (merged_lists (number_in number) number held named) → other ≡ changes_mode end mode kind
        → changes_filter g (record { mode = new_mode; sources = timers_in number sources; v1 = v1; v2 = v2 }) ≡ (turned || other)
    recorded_filter new_mode sources turned other is_mode are_sources is_turned is_other =
        rw (is_mode, are_sources, is_turned, is_other, is_end, ← is_before) (filter_of_after _ refl)
