-- Work on a group that keeps its filter: its queries are counted down, running sources are asked for, and it is put back.
use Rattle.mq_link.proofs.Common.{◌≡◌, ℕ, Bool, true, false, not, cond, ltb, Option, None, Some, refl, sym, ap, ◌∙◌, option_map, nat_cmp, nat_cmp_total}
use Rattle.mq_link.proofs.Common.{and_parts, Timing, Set, FilterMode, Include, Exclude, SourceTimer, Stopped, Running, GroupState, is_include, timer_at, vacant}
use Rattle.mq_link.proofs.Common.{is_vacant, Filter, names, filter_of, nothing, are_same, changes_filter, source_asked, source_counted, retransmissions_counted}
use Rattle.mq_link.proofs.Common.{GroupChange, last_member_count, changes-same, contains-filter_of, same_filter, get_of_empty, ScheduleState, ScheduledGroup}
use Rattle.mq_link.proofs.Common.{settled, group_asked, sources_asked, acted, after_change, after_round, is_due, timer_at-sources_asked, timer_at-after_round}
use Rattle.mq_link.proofs.Common.{unheld, kept_as}
use Rattle.std.specs.FinMap as map
use Rattle.std.specs.FinSet as set
use Rattle.mq_table.specs.Lowering.{lowered_to, mode_lowered, group_lowered}

-- a state has its own filter
pub unchanged : (g : GroupState) → changes_filter g g ≡ false
unchanged g = changes-same g g refl (λ s. refl)

-- states with one filter are alike to any other, before and after it
pub alike_after : (before a b : GroupState) → filter_of a ≡ filter_of b → changes_filter before a ≡ changes_filter before b
unfolding changes_filter
alike_after before a b same = ap (λ (f : Filter). not (are_same (filter_of before) f)) same

-- a source runs or is stopped as before where its queries are counted down, and where it is asked for
counted_named : (mode : FilterMode) (timer : Option SourceTimer) → names mode (option_map source_counted timer) ≡ names mode timer
counted_named Include None = refl
counted_named Include (Some Stopped) = refl
counted_named (Exclude e) None = refl
counted_named (Exclude e) (Some Stopped) = refl
counted_named _ _ = refl

asked_named : (limit count : ℕ) (mode : FilterMode) (timer : Option SourceTimer) → names mode (option_map (source_asked limit count) timer) ≡ names mode timer
asked_named limit count Include None = refl
asked_named limit count (Exclude e) None = refl
asked_named limit count Include (Some Stopped) = refl
asked_named limit count (Exclude e) (Some Stopped) = refl
asked_named limit count Include (Some (Running d n)) = by_test (ltb limit d)
  where
    by_test : (b : Bool) → names Include (Some (cond b (Running limit count) (Running d n))) ≡ true
    by_test true = refl
    by_test false = refl
asked_named limit count (Exclude e) (Some (Running d n)) = by_test (ltb limit d)
  where
    by_test : (b : Bool) → names (Exclude e) (Some (cond b (Running limit count) (Running d n))) ≡ false
    by_test true = refl
    by_test false = refl

either_named : (mode : FilterMode) (b : Bool) (t u : Option SourceTimer) → names mode t ≡ names mode u → names mode (cond b t u) ≡ names mode u
either_named mode true t u same = same
either_named mode false t u same = refl

-- a round keeps the filter
pub round_keeps_filter : (timing : Timing) (now : ℕ) (e : ScheduledGroup) → filter_of (after_round timing now e).group ≡ filter_of e.group
round_keeps_filter timing now e =
    same_filter (after_round timing now e).group e.group (ap is_include (same_mode (is_due now e.schedule.sources_due))) (λ s.
    ap (names (after_round timing now e).group.mode) (timer_at-after_round timing now e s)
    ∙ ap (λ m. names m (cond (is_due now e.schedule.sources_due) (option_map source_counted (timer_at e.group s)) (timer_at e.group s)))
    (same_mode (is_due now e.schedule.sources_due))
    ∙ either_named e.group.mode (is_due now e.schedule.sources_due) _ (timer_at e.group s) (counted_named e.group.mode (timer_at e.group s)))
  where
    same_mode : (b : Bool) → ◌≡◌ {A = FilterMode} (cond b (retransmissions_counted e.group) e.group).mode e.group.mode
    same_mode true = refl
    same_mode false = refl

-- so does what is asked after a record
group_asked_keeps : (timing : Timing) (now : ℕ) (e : ScheduledGroup) → filter_of (group_asked timing now e).group ≡ filter_of e.group
group_asked_keeps timing now e =
    same_filter (group_lowered timing now e.group) e.group (alike e.group.mode) (λ s. named e.group.mode (timer_at e.group s))
  where
    alike : (mode : FilterMode) → is_include (mode_lowered (lowered_to timing now) mode) ≡ is_include mode
    alike Include = refl
    alike (Exclude d) = refl

    named : (mode : FilterMode) (timer : Option SourceTimer) → names (mode_lowered (lowered_to timing now) mode) timer ≡ names mode timer
    named Include timer = refl
    named (Exclude d) timer = refl

sources_asked_keeps : (timing : Timing) (now : ℕ) (asked : Set) (e : ScheduledGroup) → filter_of (sources_asked timing now asked e).group ≡ filter_of e.group
sources_asked_keeps timing now asked e =
    same_filter (sources_asked timing now asked e).group e.group refl (λ s.
    ap (names e.group.mode) (timer_at-sources_asked timing now asked e s)
    ∙ either_named e.group.mode (asked s) _ (timer_at e.group s)
    (asked_named (lowered_to timing now) (last_member_count timing) e.group.mode (timer_at e.group s)))

pub acted_keeps_filter : (is_querier : Bool) (timing : Timing) (now : ℕ) (query_group : Bool) (query : Set) (e : ScheduledGroup) →
    filter_of (acted is_querier timing now query_group query e).group ≡ filter_of e.group
acted_keeps_filter false timing now query_group query e = refl
acted_keeps_filter true timing now false query e = sources_asked_keeps timing now query e
acted_keeps_filter true timing now true query e = sources_asked_keeps timing now query (group_asked timing now e) ∙ group_asked_keeps timing now e

pub change_keeps_filter : (is_querier : Bool) (timing : Timing) (now : ℕ) (change : GroupChange) (schedule : ScheduleState) →
    filter_of (after_change is_querier timing now change schedule).group ≡ filter_of change.group
change_keeps_filter is_querier timing now change schedule =
    acted_keeps_filter is_querier timing now change.query_group change.query (record { group = change.group; schedule = settled change.group schedule })

-- a group that isn't held forwards nothing
pub filter_of_unheld : filter_of unheld.group ≡ nothing
filter_of_unheld =
    let none = set.same_set nat_cmp_total map.nat_cmp-IsAntisymmetric (filter_of unheld.group).sources set.empty (λ s.
    contains-filter_of vacant s
    ∙ ap (names Include) (map.get-empty nat_cmp s)
    ∙ sym (set.contains-empty nat_cmp s)) in
    λ i. record { is_include = true; sources = none i }

none_named : (mode : FilterMode) → names mode None ≡ false
none_named Include = refl
none_named (Exclude d) = refl

-- a group in INCLUDE mode without sources forwards nothing
pub vacant_filter : (g : GroupState) → is_vacant g ≡ true → filter_of g ≡ nothing
vacant_filter g is =
    let parts = and_parts (is_include g.mode) _ is in
    same_filter g vacant parts.0 (λ s.
    ap (names g.mode) (get_of_empty g.sources parts.1 s)
    ∙ none_named g.mode
    ∙ sym (ap (names Include) (map.get-empty nat_cmp s)))
    ∙ filter_of_unheld

-- so a group that is put back keeps its filter
pub kept_filter : (e : ScheduledGroup) → filter_of (kept_as e).group ≡ filter_of e.group
kept_filter e = by_vacant (is_vacant e.group) refl
  where
    by_vacant : (b : Bool) → is_vacant e.group ≡ b → filter_of (cond b unheld e).group ≡ filter_of e.group
    by_vacant true is = filter_of_unheld ∙ sym (vacant_filter e.group is)
    by_vacant false is = refl
