-- Groups whose sources are known one by one, for the worked examples.
use Rattle.mq_examples.proofs.Common.{◌≡◌, ℕ, ◌+◌, Bool, true, false, cond, ◌&&◌, not, refl, List, [], ◌∷◌, ◌++◌, Option, None, Some, sym, subst, ap, ◌∙◌}
use Rattle.mq_examples.proofs.Common.{arith, list_map, filter, nat_lt, nat_eq, T, list_any, nat_cmp, nat_cmp_total, find, is_sorted, Timing, FilterMode}
use Rattle.mq_examples.proofs.Common.{SourceTimer, Set, GroupChange, lowered_to, mode_lowered, last_member_count, default_timing, GroupState, is_include}
use Rattle.mq_examples.proofs.Common.{is_ahead, group_deadline, deadline_of, retransmissions_of, naming, Sends, keys-from_entries, kept-from_entries}
use Rattle.mq_examples.proofs.Common.{source_asked}
use Rattle.mq_examples.proofs.Common.{source_counted, retransmissions_counted, the_group, ScheduleState, ScheduledGroup, SentQuery, GroupQuery, sources_asked}
use Rattle.mq_examples.proofs.Common.{group_asked, after_change, is_due, group_due, sources_queries, messages_due, group_counted, sources_due_next, after_round}
use Rattle.mq_examples.proofs.Common.{QuerySchedule}
use Rattle.mq_sched.specs.Schedule.{settled}
use Rattle.mq_examples.specs.Schedules.{per_query}
use Rattle.std.specs.FinMap as map
use Rattle.std.specs.FinSet as set

-- the sources of a group, each once and ascending, with their timers
abbrev pub Sources : Type 0
Sources = List (ℕ × SourceTimer)

abbrev pub known : FilterMode → Sources → Option ℕ → Option ℕ → GroupState
known mode es v1 v2 = record { mode = mode; sources = map.from_entries es; v1 = v1; v2 = v2 }

abbrev pub keys_of : Sources → List ℕ
keys_of es = list_map (λ (e : ℕ × SourceTimer). e.0) es

abbrev pub any_retransmission : List ℕ → (ℕ → Option SourceTimer) → Bool
any_retransmission keys timer = list_any (λ s. nat_lt 0 (retransmissions_of (timer s))) keys

-- the settled schedule of a changed group
abbrev pub settled_by : FilterMode → ScheduleState → List ℕ → (ℕ → Option SourceTimer) → ScheduleState
settled_by mode schedule keys timer = record {
  group_query = cond (is_include mode) None schedule.group_query;
  sources_due = cond (any_retransmission keys timer) schedule.sources_due None;
}

pub settled-known : (mode : FilterMode) (es : Sources) (v1 v2 : Option ℕ) (schedule : ScheduleState) → T (is_sorted nat_cmp es) →
    settled (known mode es v1 v2) schedule ≡ settled_by mode schedule (keys_of es) (λ s. find nat_cmp s es)
settled-known mode es v1 v2 schedule sorted = λ i. settled_by mode schedule (keys-from_entries es sorted i) (λ s. map.get-from_entries nat_cmp_total es s i)

-- the sources of a group, once some are asked for
abbrev pub asked_sources : Timing → ℕ → Set → Sources → Sources
asked_sources timing now asked es =
    list_map (λ (e : ℕ × SourceTimer). (e.0, cond (asked e.0) (source_asked (lowered_to timing now) (last_member_count timing) e.1) e.1)) es

abbrev pub asked_by : Timing → ℕ → Set → ScheduleState → List ℕ → (ℕ → Option SourceTimer) → ScheduleState
asked_by timing now asked schedule keys timer = record {
  group_query = schedule.group_query;
  sources_due = cond (list_any (λ s. asked s && is_ahead (lowered_to timing now) (deadline_of (timer s))) keys) (Some now) schedule.sources_due;
}

pub sources_asked-known : (timing : Timing) (now : ℕ) (asked : Set) (mode : FilterMode) (es : Sources) (v1 v2 : Option ℕ) (schedule : ScheduleState) →
    T (is_sorted nat_cmp es) → sources_asked timing now asked (record { group = known mode es v1 v2; schedule = schedule }) ≡ record {
      group = known mode (asked_sources timing now asked es) v1 v2;
      schedule = asked_by timing now asked schedule (keys_of es) (λ s. find nat_cmp s es);
    }
sources_asked-known timing now asked mode es v1 v2 schedule sorted = λ i. record {
  group = record {
    mode = mode;
    sources = kept-from_entries (λ s timer. cond (asked s) (source_asked (lowered_to timing now) (last_member_count timing) timer) timer) es i;
    v1 = v1;
    v2 = v2;
  };
  schedule = asked_by timing now asked schedule (keys-from_entries es sorted i) (λ s. map.get-from_entries nat_cmp_total es s i);
}

-- the mode of a group that is asked for
abbrev pub mode_asked : Timing → ℕ → Bool → FilterMode → FilterMode
mode_asked timing now asks mode = cond asks (mode_lowered (lowered_to timing now) mode) mode

abbrev pub group_asked_by : Timing → ℕ → Bool → FilterMode → ScheduleState → ScheduleState
group_asked_by timing now asks mode schedule = record {
  group_query = cond asks (cond (is_include mode) schedule.group_query (Some (record { sendings = last_member_count timing; due = now }))) schedule.group_query;
  sources_due = schedule.sources_due;
}

group_asked-known : (timing : Timing) (now : ℕ) (asks : Bool) (mode : FilterMode) (es : Sources) (v1 v2 : Option ℕ) (schedule : ScheduleState) →
    cond asks (group_asked timing now (record { group = known mode es v1 v2; schedule = schedule }))
    (record { group = known mode es v1 v2; schedule = schedule })
    ≡ record { group = known (mode_asked timing now asks mode) es v1 v2; schedule = group_asked_by timing now asks mode schedule }
group_asked-known timing now asks mode es v1 v2 schedule = grind arith

-- the queries of a round
abbrev pub sent_by : ℕ → Timing → ℕ → FilterMode → ScheduleState → List ℕ → (ℕ → Option SourceTimer) → List SentQuery
sent_by n timing now mode schedule keys timer =
    cond (is_due now (group_due schedule.group_query)) (GroupQuery the_group (is_ahead (lowered_to timing now) (group_deadline mode)) ∷ []) []
    ++ cond (is_due now schedule.sources_due)
    (sources_queries n the_group true (filter (λ s. nat_lt 0 (retransmissions_of (timer s)) && is_ahead (lowered_to timing now) (deadline_of (timer s))) keys)
    ++ sources_queries n the_group false
    (filter (λ s. nat_lt 0 (retransmissions_of (timer s)) && not (is_ahead (lowered_to timing now) (deadline_of (timer s)))) keys)) []

pub sent-known : (n : ℕ) (timing : Timing) (now : ℕ) (mode : FilterMode) (es : Sources) (v1 v2 : Option ℕ) (schedule : ScheduleState) →
    T (is_sorted nat_cmp es) → messages_due n timing now the_group (record { group = known mode es v1 v2; schedule = schedule })
    ≡ sent_by n timing now mode schedule (keys_of es) (λ s. find nat_cmp s es)
sent-known n timing now mode es v1 v2 schedule sorted = λ i. sent_by n timing now mode schedule (keys-from_entries es sorted i)
    (λ s. map.get-from_entries nat_cmp_total es s i)

-- and what it leaves
abbrev pub counted : Sources → Sources
counted es = list_map (λ (e : ℕ × SourceTimer). (e.0, source_counted e.1)) es

abbrev pub left_with : FilterMode → Sources → Option ℕ → Option ℕ → Option QuerySchedule → Option ℕ → ScheduledGroup
left_with mode es v1 v2 group_query sources_due =
    record { group = known mode es v1 v2; schedule = record { group_query = group_query; sources_due = sources_due } }

abbrev pub next_by : Timing → ℕ → List ℕ → (ℕ → Option SourceTimer) → Option ℕ
next_by timing now keys timer = cond (any_retransmission keys timer) (Some (now + timing.last_member_interval)) None

abbrev pub left_by : Timing → ℕ → FilterMode → Sources → Option ℕ → Option ℕ → ScheduleState → ScheduledGroup
left_by timing now mode es v1 v2 schedule =
    cond (is_due now schedule.sources_due) (left_with mode (counted es) v1 v2 (group_counted timing now schedule.group_query)
    (next_by timing now (keys_of (counted es)) (λ s. find nat_cmp s (counted es))))
    (left_with mode es v1 v2 (group_counted timing now schedule.group_query) schedule.sources_due)

left-cases : (timing : Timing) (now : ℕ) (mode : FilterMode) (es : Sources) (v1 v2 : Option ℕ) (q : Option QuerySchedule) (d : Option ℕ) →
    T (is_sorted nat_cmp (counted es)) → (due : Bool) →
    ◌≡◌ {A = ScheduledGroup} (record {
      group = cond due (retransmissions_counted (known mode es v1 v2)) (known mode es v1 v2);
      schedule =
          record {
            group_query = q;
            sources_due = cond due (sources_due_next timing now (cond due (retransmissions_counted (known mode es v1 v2)) (known mode es v1 v2))) d;
          };
    }) (cond due (left_with mode (counted es) v1 v2 q (next_by timing now (keys_of (counted es)) (λ s. find nat_cmp s (counted es))))
    (left_with mode es v1 v2 q d))
left-cases timing now mode es v1 v2 q d sorted true =
    ap (λ m. state m) (kept-from_entries (λ _. source_counted) es) ∙ (λ i. left_with mode (counted es) v1 v2 q
    (next_by timing now (keys-from_entries (counted es) sorted i) (λ s. map.get-from_entries nat_cmp_total (counted es) s i)))
  where
    state : map.FinMap nat_cmp SourceTimer → ScheduledGroup
    state m = record {
      group = record { mode = mode; sources = m; v1 = v1; v2 = v2 };
      schedule =
          record { group_query = q; sources_due = next_by timing now (map.keys m) (map.get m) };
    }
left-cases timing now mode es v1 v2 q d sorted false = refl

pub left-known : (timing : Timing) (now : ℕ) (mode : FilterMode) (es : Sources) (v1 v2 : Option ℕ) (schedule : ScheduleState) →
    T (is_sorted nat_cmp (counted es)) → after_round timing now (record { group = known mode es v1 v2; schedule = schedule })
    ≡ left_by timing now mode es v1 v2 schedule
left-known timing now mode es v1 v2 schedule sorted =
    left-cases timing now mode es v1 v2 (group_counted timing now schedule.group_query) schedule.sources_due sorted (is_due now schedule.sources_due)

-- the test for one of these numbers
abbrev pub those : List ℕ → Set
those numbers s = list_any (λ y. nat_eq y s) numbers

pub change_is : (change : GroupChange) (g : GroupState) (query_group : Bool) (query : List ℕ) → change.group ≡ g →
    ((s : ℕ) → change.query s ≡ set.contains (naming query) s) → change.query_group ≡ query_group →
    change ≡ record { group = g; query = those query; query_group = query_group }
change_is change g query_group query group_is query_is asks =
    λ i. record { group = group_is i; query = λ s. (query_is s ∙ set.contains-from_list_nat query s) i; query_group = asks i }

-- a fact about a state holds for an equal state
pub sends_as : {now : ℕ} {e known : ScheduledGroup} {queries : List SentQuery} {after : ScheduledGroup} → e ≡ known → Sends now known queries after →
    Sends now e queries after
sends_as {now = now} {queries = queries} {after = after} is sends = subst (λ e. Sends now e queries after) (sym is) sends

-- the schedule after a change, which asks for these
abbrev pub schedule_after : Timing → ℕ → FilterMode → Sources → Bool → Set → ScheduleState → ScheduleState
schedule_after timing now mode es asks asked schedule =
    asked_by timing now asked (group_asked_by timing now asks mode (settled_by mode schedule (keys_of es) (λ s. find nat_cmp s es))) (keys_of es)
    (λ s. find nat_cmp s es)

pub change-known : (timing : Timing) (now : ℕ) (mode : FilterMode) (es : Sources) (v1 v2 : Option ℕ) (asks : Bool) (asked : Set)
    (schedule : ScheduleState) → T (is_sorted nat_cmp es) →
    after_change true timing now (record { group = known mode es v1 v2; query = asked; query_group = asks }) schedule ≡ record {
      group = known (mode_asked timing now asks mode) (asked_sources timing now asked es) v1 v2;
      schedule = schedule_after timing now mode es asks asked schedule;
    }
change-known timing now mode es v1 v2 asks asked schedule sorted =
    ap (λ x. sources_asked timing now asked (cond asks (group_asked timing now (record { group = known mode es v1 v2; schedule = x }))
    (record { group = known mode es v1 v2; schedule = x }))) (settled-known mode es v1 v2 schedule sorted)
    ∙ ap (sources_asked timing now asked) (group_asked-known timing now asks mode es v1 v2 (settled_by mode schedule (keys_of es) (λ s. find nat_cmp s es)))
    ∙ sources_asked-known timing now asked (mode_asked timing now asks mode) es v1 v2
    (group_asked_by timing now asks mode (settled_by mode schedule (keys_of es) (λ s. find nat_cmp s es))) sorted

-- The group and its schedule after a change. The change is known source by source; the rest is
-- computed of the list of sources.
pub change_leaves : (now : ℕ) (change : GroupChange) (schedule : ScheduleState) (mode : FilterMode) (es : Sources) (asks : Bool)
    (query : List ℕ) {v1 v2 : Option ℕ} → change.group ≡ known mode es v1 v2 → ((s : ℕ) → change.query s ≡ set.contains (naming query) s)
    → change.query_group ≡ asks → T (is_sorted nat_cmp es) → after_change true default_timing now change schedule ≡ record {
      group = known (mode_asked default_timing now asks mode) (asked_sources default_timing now (those query) es) v1 v2;
      schedule = schedule_after default_timing now mode es asks (those query) schedule;
    }
change_leaves now change schedule mode es asks query {v1 = v1} {v2 = v2} group_is query_is asks_is sorted =
    ap (λ x. after_change true default_timing now x schedule) (change_is change (known mode es v1 v2) asks query group_is query_is asks_is)
    ∙ change-known default_timing now mode es v1 v2 asks (those query) schedule sorted

-- The queries of a round of a known group, and the group after.
pub known_sends : (now : ℕ) (mode : FilterMode) (es : Sources) (v1 v2 : Option ℕ) (schedule : ScheduleState) {queries : List SentQuery} {after : ScheduledGroup}
    → T (is_sorted nat_cmp es) → T (is_sorted nat_cmp (counted es))
    → sent_by per_query default_timing now mode schedule (keys_of es) (λ s. find nat_cmp s es) ≡ queries
    → left_by default_timing now mode es v1 v2 schedule ≡ after
    → Sends now (record { group = known mode es v1 v2; schedule = schedule }) queries after
known_sends now mode es v1 v2 schedule sorted counted_sorted sent left = record {
  queries_sent = sent-known per_query default_timing now mode es v1 v2 schedule sorted ∙ sent;
  leaves = left-known default_timing now mode es v1 v2 schedule counted_sorted ∙ left;
}

-- The queries at once after a change, and the group after.
pub change_sends : (now : ℕ) (change : GroupChange) (schedule : ScheduleState) (mode : FilterMode) (es : Sources) (asks : Bool)
    (query : List ℕ) {v1 v2 : Option ℕ} {queries : List SentQuery} {after : ScheduledGroup} → change.group ≡ known mode es v1 v2
    → ((s : ℕ) → change.query s ≡ set.contains (naming query) s) → change.query_group ≡ asks → T (is_sorted nat_cmp es)
    → T (is_sorted nat_cmp (asked_sources default_timing now (those query) es))
    → T (is_sorted nat_cmp (counted (asked_sources default_timing now (those query) es)))
    → sent_by per_query default_timing now (mode_asked default_timing now asks mode)
    (schedule_after default_timing now mode es asks (those query) schedule) (keys_of (asked_sources default_timing now (those query) es))
    (λ s. find nat_cmp s (asked_sources default_timing now (those query) es)) ≡ queries
    → left_by default_timing now (mode_asked default_timing now asks mode) (asked_sources default_timing now (those query) es) v1 v2
    (schedule_after default_timing now mode es asks (those query) schedule) ≡ after
    → Sends now (after_change true default_timing now change schedule) queries after
change_sends now change schedule mode es asks query {v1 = v1} {v2 = v2} group_is query_is asks_is sorted asked_sorted counted_sorted sent left =
    sends_as (change_leaves now change schedule mode es asks query group_is query_is asks_is sorted)
    (known_sends now (mode_asked default_timing now asks mode) (asked_sources default_timing now (those query) es) v1 v2
    (schedule_after default_timing now mode es asks (those query) schedule) asked_sorted counted_sorted sent left)
