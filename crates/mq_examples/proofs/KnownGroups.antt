-- Groups whose sources are known one by one, for the worked examples. The definitions are computed from
-- the list of their sources.
use Rattle.mq_examples.proofs.Common.{◌≡◌, ℕ, ◌+◌, Bool, true, false, cond, ◌&&◌, ◌||◌, refl, List, [], ◌++◌, length, Option, None, Some, ap, ◌∙◌, ltb, eqb}
use Rattle.mq_examples.proofs.Common.{arith, list_any, find, nat_cmp_total, option_map, option_and_then, nat_cmp, eq_by_cmp, Timing, IsIn, IsEx, ToIn, ToEx}
use Rattle.mq_examples.proofs.Common.{Allow, Block, Set, membership_interval, entries_by, by_rule, FilterMode, Include, SourceTimer, GroupState, is_include}
use Rattle.mq_examples.proofs.Common.{is_running, is_stopped, retransmissions_of, vacant, is_vacant, TableRow, table_row, timer_by, GroupChange, change_of}
use Rattle.mq_examples.proofs.Common.{ScheduleState, no_schedule, group_expired, if_held, Entries, ordered, keys_of, keys-known, len-known, kept_in, kept-known}
use Rattle.mq_examples.proofs.Common.{by_rule-known, Kind, source_expired}
use Rattle.mq_sched.specs.Schedule.{settled}
use Rattle.mq_table.specs.declared.older_hosts.Hosts.{Hosts}
use Rattle.mq_table.specs.{OlderHosts.hosts_of, OlderHosts.translated, OlderHosts.translated_change, Expiry.ahead, Expiry.mode_expired, Expiry.held_or_vacant}
use Rattle.std.specs.FinMap as map
use Rattle.std.specs.FinSet as set
pub use Rattle.mq_examples.specs.Links.{ListedGroup as Known, as_held, group_listed as group_of}

abbrev pub nothing_known : Known
nothing_known = record { mode = Include; sources = []; v1 = None; v2 = None; schedule = no_schedule }

-- the timer of a source, and the sources ascending
abbrev pub timer_in : Entries SourceTimer → ℕ → Option SourceTimer
timer_in es s = find nat_cmp s es

abbrev pub ascending : Entries SourceTimer → List ℕ
ascending es = keys_of (ordered es)

abbrev pub any_retransmission : List ℕ → (ℕ → Option SourceTimer) → Bool
any_retransmission keys timer = list_any (λ s. ltb 0 (retransmissions_of (timer s))) keys

-- the settled schedule of a changed group
abbrev pub settled_by : FilterMode → ScheduleState → List ℕ → (ℕ → Option SourceTimer) → ScheduleState
settled_by mode schedule keys timer = record {
  group_query = cond (is_include mode) None schedule.group_query;
  sources_due = cond (any_retransmission keys timer) schedule.sources_due None;
}

abbrev pub settled_in : FilterMode → Entries SourceTimer → ScheduleState → ScheduleState
settled_in mode es schedule = settled_by mode schedule (ascending es) (timer_in es)

pub settled-known : (mode : FilterMode) (es : Entries SourceTimer) (v1 v2 : Option ℕ) (schedule : ScheduleState) →
    settled (record { mode = mode; sources = map.from_entries es; v1 = v1; v2 = v2 }) schedule ≡ settled_in mode es schedule
settled-known mode es v1 v2 schedule = λ i. settled_by mode schedule (keys-known es i) (λ s. map.get-from_entries nat_cmp_total es s i)

-- the end of timers
abbrev pub sources_expired : ℕ → Known → Entries SourceTimer
sources_expired now k = kept_in (λ s. source_expired (mode_expired now k.mode) now) k.sources

abbrev pub left_of : ℕ → Known → Known
left_of now k = record {
  mode = mode_expired now k.mode;
  sources = sources_expired now k;
  v1 = option_and_then (ahead now) k.v1;
  v2 = option_and_then (ahead now) k.v2;
  schedule = settled_in (mode_expired now k.mode) (sources_expired now k) k.schedule;
}

abbrev pub is_empty : Known → Bool
is_empty k = is_include k.mode && eqb (length (ordered k.sources)) 0

abbrev pub expired_in : ℕ → Known → Option Known
expired_in now k = let left = left_of now k in cond (is_empty left) None (Some left)

pub is_empty-known : (k : Known) → is_vacant (group_of k) ≡ is_empty k
is_empty-known k = ap (λ n. is_include k.mode && eqb n 0) (len-known k.sources)

ended : (g : GroupState) (schedule : ScheduleState) → if_held (let h = held_or_vacant g in record { group = h; schedule = settled h schedule })
    ≡ cond (is_vacant g) None (Some (record { group = g; schedule = settled g schedule }))
ended g schedule = elim (is_vacant g) as
    (λ b. is_vacant g ≡ b → if_held (let h = cond b vacant g in record { group = h; schedule = settled h schedule })
    ≡ cond b None (Some (record { group = g; schedule = settled g schedule }))) [
      | true ↦ λ _. ap (λ n. cond (eqb n 0) None (Some (record { group = vacant; schedule = settled vacant schedule }))) (map.len-empty nat_cmp _)
      | false ↦ λ e. ap (λ b. cond b None (Some (record { group = g; schedule = settled g schedule }))) e
    ] refl

mapped : {X Y : Type 0} (f : X → Y) (b : Bool) (x : X) → cond b None (Some (f x)) ≡ option_map f (cond b None (Some x))
mapped f b x = grind arith

pub expired-known : (now : ℕ) (k : Known) → if_held (group_expired now (as_held k)) ≡ option_map as_held (expired_in now k)
expired-known now k =
    ap (λ sources. if_held
    (let h = held_or_vacant (record { mode = mode; sources = sources; v1 = option_and_then (ahead now) k.v1; v2 = option_and_then (ahead now) k.v2 })
    in record { group = h; schedule = settled h k.schedule })) (kept-known (λ s. source_expired mode now) k.sources) ∙ ended (group_of left) k.schedule
    ∙ (λ i. cond (is_empty-known left i) None
    (Some (record { group = group_of left; schedule = settled-known mode (sources_expired now k) left.v1 left.v2 k.schedule i })))
    ∙ mapped as_held (is_empty left) left
  where
    mode : FilterMode
    mode = mode_expired now k.mode

    left : Known
    left = left_of now k

-- the changes of a record
pub record KnownChange : Type 0 where
  pub after : Known
  pub query : Set
  pub query_group : Bool

abbrev pub as_change : KnownChange → GroupChange
as_change c = record { group = group_of c.after; query = c.query; query_group = c.query_group }

abbrev pub line_in : Timing → ℕ → FilterMode → Kind → (ℕ → Option SourceTimer) → Set → TableRow
line_in timing now mode kind timer named = table_row (now + membership_interval timing) mode kind (λ s. is_running (timer s)) (λ s. is_stopped (timer s)) named

abbrev pub rule_of : Timing → ℕ → FilterMode → Kind → (ℕ → Option SourceTimer) → Set → ℕ → Option SourceTimer
rule_of timing now mode kind timer named s = timer_by (line_in timing now mode kind timer named) (now + membership_interval timing) mode s (timer s)

abbrev pub named_in : List ℕ → Set
named_in named s = list_any (eq_by_cmp nat_cmp s) named

abbrev pub change_in : Timing → ℕ → Known → Kind → List ℕ → KnownChange
change_in timing now k kind named =
    let l = line_in timing now k.mode kind (timer_in k.sources) (named_in named) in
    record {
      after = record {
        mode = l.mode;
        sources = ordered (entries_by (rule_of timing now k.mode kind (timer_in k.sources) (named_in named)) (keys_of k.sources ++ named));
        v1 = k.v1;
        v2 = k.v2;
        schedule = k.schedule;
      };
      query = l.query;
      query_group = l.query_group;
    }

pub change-known : (timing : Timing) (now : ℕ) (k : Known) (kind : Kind) (named : List ℕ) →
    change_of timing now (group_of k) kind (set.from_list named) ≡ as_change (change_in timing now k kind named)
change-known timing now k kind named =
    (λ i. changed (λ s. map.get-from_entries nat_cmp_total k.sources s i) (λ s. set.contains-from_list nat_cmp_total named s i))
    ∙ ap (λ sources. record {
      group = record { mode = l.mode; sources = sources; v1 = k.v1; v2 = k.v2 };
      query = l.query;
      query_group = l.query_group;
    }) (by_rule-known k.sources named (rule_of timing now k.mode kind (timer_in k.sources) (named_in named)))
  where
    changed : (ℕ → Option SourceTimer) → Set → GroupChange
    changed timer names = record {
      group = record {
        mode = (line_in timing now k.mode kind timer names).mode;
        sources = by_rule (map.from_entries k.sources) (set.from_list named) (rule_of timing now k.mode kind timer names);
        v1 = k.v1;
        v2 = k.v2;
      };
      query = (line_in timing now k.mode kind timer names).query;
      query_group = (line_in timing now k.mode kind timer names).query_group;
    }

    l : TableRow
    l = line_in timing now k.mode kind (timer_in k.sources) (named_in named)

-- the record that older hosts and the source-specific range leave
abbrev pub translated_in : (v1_mutes_leave muted : Bool) → Hosts → Kind → List ℕ → Option (Kind × List ℕ)
translated_in mutes true hosts kind named = None
translated_in mutes false hosts Block named = cond (hosts.v1 || hosts.v2) None (Some (Block, named))
translated_in mutes false hosts ToEx named = cond (hosts.v1 || hosts.v2) (Some (ToEx, [])) (Some (ToEx, named))
translated_in mutes false hosts ToIn named = cond (mutes && hosts.v1) None (Some (ToIn, named))
translated_in mutes false hosts IsIn named = Some (IsIn, named)
translated_in mutes false hosts IsEx named = Some (IsEx, named)
translated_in mutes false hosts Allow named = Some (Allow, named)

abbrev pub translated_change_in : (v1_mutes_leave muted : Bool) → Timing → ℕ → Known → Kind → List ℕ → Option KnownChange
translated_change_in mutes muted timing now k kind named = option_map (λ (r : Kind × List ℕ). change_in timing now k r.0 r.1)
    (translated_in mutes muted (hosts_of (group_of k) now) kind named)

pub translated-known : (mutes muted : Bool) (timing : Timing) (now : ℕ) (k : Known) (kind : Kind) (named : List ℕ) →
    translated_change mutes muted timing now (group_of k) kind (set.from_list named)
    ≡ option_map as_change (translated_change_in mutes muted timing now k kind named)
translated-known mutes muted timing now k kind named = by_kind muted (hosts_of (group_of k) now) kind
  where
    change : Kind × set.FinSet nat_cmp → GroupChange
    change r = change_of timing now (group_of k) r.0 r.1

    known : Kind × List ℕ → KnownChange
    known r = change_in timing now k r.0 r.1

    by_test : (b : Bool) (kind : Kind) → option_map change (cond b None (Some (kind, set.from_list named)))
        ≡ option_map as_change (option_map known (cond b None (Some (kind, named))))
    by_test true kind = refl
    by_test false kind = ap Some (change-known timing now k kind named)

    emptied : (b : Bool) → option_map change (cond b (Some (ToEx, set.empty)) (Some (ToEx, set.from_list named)))
        ≡ option_map as_change (option_map known (cond b (Some (ToEx, [])) (Some (ToEx, named))))
    emptied true = ap Some (change-known timing now k ToEx [])
    emptied false = ap Some (change-known timing now k ToEx named)

    by_kind : (muted : Bool) (hosts : Hosts) (kind : Kind) → option_map change (translated mutes muted hosts kind (set.from_list named))
        ≡ option_map as_change (option_map known (translated_in mutes muted hosts kind named))
    by_kind true hosts kind = refl
    by_kind false hosts Block = by_test (hosts.v1 || hosts.v2) Block
    by_kind false hosts ToEx = emptied (hosts.v1 || hosts.v2)
    by_kind false hosts ToIn = by_test (mutes && hosts.v1) ToIn
    by_kind false hosts IsIn = ap Some (change-known timing now k IsIn named)
    by_kind false hosts IsEx = ap Some (change-known timing now k IsEx named)
    by_kind false hosts Allow = ap Some (change-known timing now k Allow named)
