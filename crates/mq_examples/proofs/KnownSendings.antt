-- The schedules and queries of known groups, for the worked examples.
use Rattle.mq_examples.proofs.Common.{◌≡◌, ℕ, ◌+◌, Bool, true, false, cond, not, ◌&&◌, refl, List, [], ◌∷◌, ◌++◌, Option, None, Some, ap, ◌∙◌, ltb, filter}
use Rattle.mq_examples.proofs.Common.{nat_cmp, list_any, FinMap, nat_cmp_total, Timing, FilterMode, SourceTimer, Set, last_member_count, is_include, is_ahead}
use Rattle.mq_examples.proofs.Common.{deadline_of, retransmissions_of, group_deadline, lowered_to, mode_lowered, source_lowered, lowered_by_query}
use Rattle.mq_examples.proofs.Common.{source_cleared}
use Rattle.mq_examples.proofs.Common.{source_asked, source_counted, retransmissions_counted, ScheduleState, ScheduledGroup, no_schedule, cleared, SentQuery}
use Rattle.mq_examples.proofs.Common.{GroupQuery, sources_asked, acted, after_change, is_due, group_due, sources_queries, messages_due, group_counted}
use Rattle.mq_examples.proofs.Common.{sources_due_next, after_round, Entries, keys-known, kept_in, kept-known, QuerySchedule}
use Rattle.mq_examples.proofs.KnownGroups.{Known, KnownChange, as_held, as_change, group_of, timer_in, ascending, any_retransmission, settled_in, settled-known}
use Rattle.std.specs.FinMap as map

-- asking for sources
abbrev pub asked_by : Timing → ℕ → Set → ScheduleState → List ℕ → (ℕ → Option SourceTimer) → ScheduleState
asked_by timing now asked schedule keys timer = record {
  group_query = schedule.group_query;
  sources_due = cond (list_any (λ s. asked s && is_ahead (lowered_to timing now) (deadline_of (timer s))) keys) (Some now) schedule.sources_due;
}

abbrev pub asked_in : Timing → ℕ → Set → Known → Known
asked_in timing now asked k = record {
  mode = k.mode;
  sources = kept_in (λ s timer. Some (cond (asked s) (source_asked (lowered_to timing now) (last_member_count timing) timer) timer)) k.sources;
  v1 = k.v1;
  v2 = k.v2;
  schedule = asked_by timing now asked k.schedule (ascending k.sources) (timer_in k.sources);
}

asked-known : (timing : Timing) (now : ℕ) (asked : Set) (k : Known) → sources_asked timing now asked (as_held k) ≡ as_held (asked_in timing now asked k)
asked-known timing now asked k = λ i. record {
  group = record {
    mode = k.mode;
    sources = kept-known (λ s timer. Some (cond (asked s) (source_asked (lowered_to timing now) (last_member_count timing) timer) timer)) k.sources i;
    v1 = k.v1;
    v2 = k.v2;
  };
  schedule = asked_by timing now asked k.schedule (keys-known k.sources i) (λ s. map.get-from_entries nat_cmp_total k.sources s i);
}

-- asking for the group
abbrev pub group_asked_in : Timing → ℕ → Known → Known
group_asked_in timing now k = record {
  mode = mode_lowered (lowered_to timing now) k.mode;
  sources = k.sources;
  v1 = k.v1;
  v2 = k.v2;
  schedule = record {
    group_query = cond (is_include k.mode) k.schedule.group_query (Some (record { sendings = last_member_count timing; due = now }));
    sources_due = k.schedule.sources_due;
  };
}

abbrev pub acted_in : (is_querier : Bool) → Timing → ℕ → (query_group : Bool) → Set → Known → Known
acted_in false timing now query_group query k = k
acted_in true timing now query_group query k = asked_in timing now query (cond query_group (group_asked_in timing now k) k)

acted-known : (is_querier : Bool) (timing : Timing) (now : ℕ) (query_group : Bool) (query : Set) (k : Known) →
    acted is_querier timing now query_group query (as_held k) ≡ as_held (acted_in is_querier timing now query_group query k)
acted-known false timing now query_group query k = refl
acted-known true timing now true query k = asked-known timing now query (group_asked_in timing now k)
acted-known true timing now false query k = asked-known timing now query k

-- the group after a change, before its queries
abbrev pub settled_change : KnownChange → ScheduleState → Known
settled_change c schedule =
    let k = c.after in
    record { mode = k.mode; sources = k.sources; v1 = k.v1; v2 = k.v2; schedule = settled_in k.mode k.sources schedule }

abbrev pub changed_in : (is_querier : Bool) → Timing → ℕ → KnownChange → ScheduleState → Known
changed_in is_querier timing now c schedule = acted_in is_querier timing now c.query_group c.query (settled_change c schedule)

pub changed-known : (is_querier : Bool) (timing : Timing) (now : ℕ) (c : KnownChange) (schedule : ScheduleState) →
    after_change is_querier timing now (as_change c) schedule ≡ as_held (changed_in is_querier timing now c schedule)
changed-known is_querier timing now c schedule =
    (λ i. acted is_querier timing now c.query_group c.query
    (record { group = group_of c.after; schedule = settled-known c.after.mode c.after.sources c.after.v1 c.after.v2 schedule i }))
    ∙ acted-known is_querier timing now c.query_group c.query (settled_change c schedule)

-- the queries of a round
abbrev pub sent_by : ℕ → Timing → ℕ → ℕ → FilterMode → ScheduleState → List ℕ → (ℕ → Option SourceTimer) → List SentQuery
sent_by n timing now group mode schedule keys timer =
    cond (is_due now (group_due schedule.group_query)) (GroupQuery group (is_ahead (lowered_to timing now) (group_deadline mode)) ∷ []) []
    ++ cond (is_due now schedule.sources_due)
    (sources_queries n group true (filter (λ s. ltb 0 (retransmissions_of (timer s)) && is_ahead (lowered_to timing now) (deadline_of (timer s))) keys)
    ++ sources_queries n group false (filter
    (λ s. ltb 0 (retransmissions_of (timer s)) && not (is_ahead (lowered_to timing now) (deadline_of (timer s)))) keys))
    []

abbrev pub sent_in : ℕ → Timing → ℕ → ℕ → Known → List SentQuery
sent_in n timing now group k = sent_by n timing now group k.mode k.schedule (ascending k.sources) (timer_in k.sources)

pub sent-known : (n : ℕ) (timing : Timing) (now group : ℕ) (k : Known) → messages_due n timing now group (as_held k) ≡ sent_in n timing now group k
sent-known n timing now group k = λ i. sent_by n timing now group k.mode k.schedule (keys-known k.sources i)
    (λ s. map.get-from_entries nat_cmp_total k.sources s i)

-- and what it leaves
abbrev pub counted_in : Known → Entries SourceTimer
counted_in k = kept_in (λ s timer. Some (source_counted timer)) k.sources

abbrev pub next_by : Timing → ℕ → List ℕ → (ℕ → Option SourceTimer) → Option ℕ
next_by timing now keys timer = cond (any_retransmission keys timer) (Some (now + timing.last_member_interval)) None

abbrev pub round_in : Timing → ℕ → Known → Known
round_in timing now k =
    cond (is_due now k.schedule.sources_due) (record {
      mode = k.mode;
      sources = counted_in k;
      v1 = k.v1;
      v2 = k.v2;
      schedule = record {
        group_query = group_counted timing now k.schedule.group_query;
        sources_due = next_by timing now (ascending (counted_in k)) (timer_in (counted_in k));
      };
    }) (record {
      mode = k.mode;
      sources = k.sources;
      v1 = k.v1;
      v2 = k.v2;
      schedule = record { group_query = group_counted timing now k.schedule.group_query; sources_due = k.schedule.sources_due };
    })

pub round-known : (timing : Timing) (now : ℕ) (k : Known) → after_round timing now (as_held k) ≡ as_held (round_in timing now k)
round-known timing now k = by_due (is_due now k.schedule.sources_due)
  where
    q : Option QuerySchedule
    q = group_counted timing now k.schedule.group_query

    counted : FinMap nat_cmp SourceTimer → Option ℕ → ScheduledGroup
    counted sources due =
        record { group = record { mode = k.mode; sources = sources; v1 = k.v1; v2 = k.v2 }; schedule = record { group_query = q; sources_due = due } }

    by_due : (due : Bool) →
        ◌≡◌ {A = ScheduledGroup} (let g = cond due (retransmissions_counted (group_of k)) (group_of k) in
        record { group = g; schedule = record { group_query = q; sources_due = cond due (sources_due_next timing now g) k.schedule.sources_due } })
        (as_held (cond due (record {
          mode = k.mode;
          sources = counted_in k;
          v1 = k.v1;
          v2 = k.v2;
          schedule =
              record { group_query = q; sources_due = next_by timing now (ascending (counted_in k)) (timer_in (counted_in k)) };
        }) (record { mode = k.mode; sources = k.sources; v1 = k.v1; v2 = k.v2; schedule = record { group_query = q; sources_due = k.schedule.sources_due } })))
    by_due true =
        ap (λ m. counted m (next_by timing now (map.keys m) (map.get m))) (kept-known (λ s timer. Some (source_counted timer)) k.sources)
        ∙ (λ i. counted (map.from_entries (counted_in k))
        (next_by timing now (keys-known (counted_in k) i) (λ s. map.get-from_entries nat_cmp_total (counted_in k) s i)))
    by_due false = refl

-- dropping all
abbrev pub cleared_in : Known → Known
cleared_in k = record { mode = k.mode; sources = kept_in (λ s timer. Some (source_cleared timer)) k.sources; v1 = k.v1; v2 = k.v2; schedule = no_schedule }

pub cleared-known : (k : Known) → cleared (as_held k) ≡ as_held (cleared_in k)
cleared-known k = ap (λ m. record { group = record { mode = k.mode; sources = m; v1 = k.v1; v2 = k.v2 }; schedule = no_schedule })
    (kept-known (λ s timer. Some (source_cleared timer)) k.sources)

-- lowering by a query that is heard
abbrev pub lowered_in : Timing → ℕ → (s : Bool) → Option Set → Known → Known
lowered_in timing now true asked k = k
lowered_in timing now false None k =
    record { mode = mode_lowered (lowered_to timing now) k.mode; sources = k.sources; v1 = k.v1; v2 = k.v2; schedule = k.schedule }
lowered_in timing now false (Some asked) k = record {
  mode = k.mode;
  sources = kept_in (λ s timer. Some (cond (asked s) (source_lowered (lowered_to timing now) timer) timer)) k.sources;
  v1 = k.v1;
  v2 = k.v2;
  schedule = k.schedule;
}

pub lowered-known : (timing : Timing) (now : ℕ) (s : Bool) (asked : Option Set) (k : Known) →
    ◌≡◌ {A = ScheduledGroup} (record { group = lowered_by_query timing now s asked (group_of k); schedule = k.schedule })
    (as_held (lowered_in timing now s asked k))
lowered-known timing now false (Some asked) k =
    ap (λ m. record { group = record { mode = k.mode; sources = m; v1 = k.v1; v2 = k.v2 }; schedule = k.schedule })
    (kept-known (λ s timer. Some (cond (asked s) (source_lowered (lowered_to timing now) timer) timer)) k.sources)
lowered-known timing now _ _ k = refl
