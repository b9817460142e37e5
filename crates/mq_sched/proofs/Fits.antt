-- A schedule that still fits its group.
use Rattle.mq_sched.proofs.Common.{◌≡◌, ℕ, ◌+◌, ◌-◌, ◌<◌, Bool, true, false, cond, ◌&&◌, Option, None, Some, IsSome, IfSome, refl, sym, ap, ◌∙◌, arith, ltb}
use Rattle.mq_sched.proofs.Common.{eqb, eqb-false, leb, false≢true, true≢false, ltb-true, lt-ltb, false_from_ne_true, list_any, option_and_then, option_map}
use Rattle.mq_sched.proofs.Common.{is_some, nat_cmp, FinMap, Timing, Set, ◌∩◌, kept, SourceTimer, Stopped, Running, GroupState, is_include, is_vacant, vacant}
use Rattle.mq_sched.proofs.Common.{timer_at, deadline_of, retransmissions_of, is_ahead, last_member_count, lowered_to, mode_lowered, get-kept, some_source}
use Rattle.mq_sched.proofs.Common.{has_retransmissions, source_cleared, above, source_asked, retransmissions_counted, QuerySchedule, ScheduleState}
use Rattle.mq_sched.proofs.Common.{ScheduledGroup}
use Rattle.mq_sched.proofs.Common.{IsScheduleOf, settled, cleared, group_asked, sources_asked, acted, is_due, group_counted, sources_due_next, after_round}
use Rattle.mq_table.specs.declared.{kind.Kind.Kind, timers.FilterMode.FilterMode, timers.FilterMode.TheVariants.Include, timers.FilterMode.TheVariants.Exclude}
use Rattle.mq_table.{specs.Table.NamedSources, specs.Table.table_row_met, specs.Table.change_of, specs.Expiry.ahead, specs.Expiry.mode_expired}
use Rattle.mq_table.{specs.Expiry.at_zero, specs.Expiry.source_expired, specs.Expiry.expired, proofs.Groups.same_sources, proofs.TableRows.timer_at-change_of}
use Rattle.mq_sched.proofs.Asked.{some_source-from, some_source-gives, timer_at-sources_asked}
use Rattle.std.specs.FinMap as map

some_if : {X : Type 0} (b : Bool) (x : X) → is_some (cond b (Some x) None) ≡ b
some_if true x = refl
some_if false x = refl

-- a source with a retransmission to go is held
held_if_retransmissions : (t : Option SourceTimer) → ltb 0 (retransmissions_of t) ≡ true → IsSome t
held_if_retransmissions None e = absurd (false≢true e)
held_if_retransmissions (Some t) e = refl

-- where no source gains retransmissions, one has some only if one had before
pub retransmissions_before : (old new : GroupState) → ((s : ℕ) → has_retransmissions new s ≡ true → has_retransmissions old s ≡ true) →
    some_source (has_retransmissions new) new
    ≡ true → some_source (has_retransmissions old) old ≡ true
retransmissions_before old new no_gain some =
    let q = some_source-gives (has_retransmissions new) new some in
    let had = no_gain q.0 q.2 in
    some_source-from (has_retransmissions old) old q.0 (held_if_retransmissions (timer_at old q.0) had) had

pub fits_settled : (old new : GroupState) (schedule : ScheduleState) → IsScheduleOf old schedule →
    ((s : ℕ) → has_retransmissions new s ≡ true → has_retransmissions old s ≡ true) → IsScheduleOf new (settled new schedule)
fits_settled old new schedule fits no_gain = record {
  exclude_only = λ e. ap (λ m. cond (is_include m) None schedule.group_query) e;
  group_sendings = by_mode (is_include new.mode);
  sources_retransmissions = by_retransmissions (some_source (has_retransmissions new) new) refl;
}
  where
    by_mode : (b : Bool) → IfSome (cond b None schedule.group_query) (λ q. 0 < q.sendings)
    by_mode true = tt
    by_mode false = fits.group_sendings

    by_retransmissions : (b : Bool) → some_source (has_retransmissions new) new ≡ b → is_some (cond b schedule.sources_due None) ≡ b
    by_retransmissions true e = fits.sources_retransmissions ∙ retransmissions_before old new no_gain e
    by_retransmissions false e = refl

-- no row of the tables gives a source more retransmissions than it had
by_rule_no_gain : (x y : Bool) (d n : ℕ) → ltb 0 (retransmissions_of (cond x (Some (Running d n)) (cond y (Some Stopped) None))) ≡ true → ltb 0 n ≡ true
by_rule_no_gain true y d n e = e
by_rule_no_gain false true d n e = absurd (false≢true e)
by_rule_no_gain false false d n e = absurd (false≢true e)

record_no_gain : (timing : Timing) (now : ℕ) (g : GroupState) (kind : Kind) (named : NamedSources) (s : ℕ) →
    has_retransmissions (change_of timing now g kind named).group s ≡ true → has_retransmissions g s ≡ true
record_no_gain timing now g kind named s e =
    let l = table_row_met timing now g kind named in
    by_rule_no_gain (l.x s) (l.y s) _ (retransmissions_of (timer_at g s))
    (ap (λ t. ltb 0 (retransmissions_of t)) (sym (timer_at-change_of timing now g kind named s)) ∙ e)

pub fits_after_record : (timing : Timing) (now : ℕ) (g : GroupState) (schedule : ScheduleState) (kind : Kind) (named : NamedSources) →
    IsScheduleOf g schedule → (let new = (change_of timing now g kind named).group in IsScheduleOf new (settled new schedule))
fits_after_record timing now g schedule kind named fits = fits_settled g (change_of timing now g kind named).group schedule fits
    (record_no_gain timing now g kind named)

-- nor does the end of timers
zero_retransmissions : (mode : FilterMode) → retransmissions_of (at_zero mode) ≡ 0
zero_retransmissions Include = refl
zero_retransmissions (Exclude d) = refl

expired_no_gain : (mode : FilterMode) (now : ℕ) (t : Option SourceTimer) → ltb 0 (retransmissions_of (option_and_then (source_expired mode now) t)) ≡ true →
    ltb 0 (retransmissions_of t) ≡ true
expired_no_gain mode now None e = e
expired_no_gain mode now (Some Stopped) e = ap (ltb 0) (sym (zero_retransmissions mode)) ∙ e
expired_no_gain mode now (Some (Running d n)) e = by_test (ltb now d) e
  where
    by_test : (b : Bool) → ltb 0 (retransmissions_of (cond b (Some (Running d n)) (at_zero mode))) ≡ true → ltb 0 n ≡ true
    by_test true e = e
    by_test false e = absurd (false≢true (ap (ltb 0) (sym (zero_retransmissions mode)) ∙ e))

expiry_no_gain : (now : ℕ) (g : GroupState) (s : ℕ) → has_retransmissions (expired now g) s ≡ true → has_retransmissions g s ≡ true
expiry_no_gain now g s = by_held (is_vacant kept_on)
  where
    kept_on : GroupState
    kept_on = record {
      mode = mode_expired now g.mode;
      sources = kept (λ s. source_expired (mode_expired now g.mode) now) g.sources;
      v1 = option_and_then (ahead now) g.v1;
      v2 = option_and_then (ahead now) g.v2;
    }

    by_held : (b : Bool) → has_retransmissions (cond b vacant kept_on) s ≡ true → has_retransmissions g s ≡ true
    by_held true e = absurd (false≢true (ap (λ t. ltb 0 (retransmissions_of t)) (sym (map.get-empty nat_cmp s)) ∙ e))
    by_held false e = expired_no_gain (mode_expired now g.mode) now (timer_at g s)
        (ap (λ t. ltb 0 (retransmissions_of t)) (sym (get-kept (λ s. source_expired (mode_expired now g.mode) now) g.sources s)) ∙ e)

pub fits_after_expiry : (now : ℕ) (g : GroupState) (schedule : ScheduleState) → IsScheduleOf g schedule →
    IsScheduleOf (expired now g) (settled (expired now g) schedule)
fits_after_expiry now g schedule fits = fits_settled g (expired now g) schedule fits (expiry_no_gain now g)

-- a round
pub fits_after_round : (timing : Timing) (now : ℕ) (e : ScheduledGroup) → IsScheduleOf e.group e.schedule →
    IsScheduleOf (after_round timing now e).group (after_round timing now e).schedule
fits_after_round timing now e fits = record {
  exclude_only = λ m. ap (group_counted timing now) (fits.exclude_only (mode_stays (is_due now e.schedule.sources_due) m));
  group_sendings = still_some e.schedule.group_query fits.group_sendings;
  sources_retransmissions = by_due (is_due now e.schedule.sources_due);
}
  where
    mode_stays : (b : Bool) → (cond b (retransmissions_counted e.group) e.group).mode ≡ Include → e.group.mode ≡ Include
    mode_stays true m = m
    mode_stays false m = m

    still_some : (q : Option QuerySchedule) → IfSome q (λ q. 0 < q.sendings) → IfSome (group_counted timing now q) (λ q. 0 < q.sendings)
    still_some None some = tt
    still_some (Some q) some = by_tests (leb q.due now) (ltb 1 q.sendings) refl
      where
        by_tests : (due more : Bool) → ltb 1 q.sendings ≡ more →
            IfSome (cond due (cond more (Some (record { sendings = q.sendings - 1; due = now + timing.last_member_interval })) None) (Some q))
            (λ (q : QuerySchedule). 0 < q.sendings)
        by_tests true true e = omega (arith, ltb-true 1 q.sendings e)
        by_tests true false e = tt
        by_tests false more e = some

    by_due : (b : Bool) →
        (let g = cond b (retransmissions_counted e.group) e.group in is_some (cond b (sources_due_next timing now g) e.schedule.sources_due)
        ≡ some_source (has_retransmissions g) g)
    by_due true = some_if (some_source (has_retransmissions (retransmissions_counted e.group)) (retransmissions_counted e.group))
        (now + timing.last_member_interval)
    by_due false = fits.sources_retransmissions

-- at least one query is to go
pub some_count : (timing : Timing) → 0 < timing.robustness → 0 < last_member_count timing
some_count timing positive = by_test (eqb timing.last_member_query_count 0) refl
  where
    by_test : (b : Bool) → eqb timing.last_member_query_count 0 ≡ b → 0 < cond b timing.robustness timing.last_member_query_count
    by_test true is = positive
    by_test false is = omega (arith, eqb-false timing.last_member_query_count 0 is)

-- asking for the group
pub fits_group_asked : (timing : Timing) (now : ℕ) (e : ScheduledGroup) → 0 < timing.robustness → IsScheduleOf e.group e.schedule →
    IsScheduleOf (group_asked timing now e).group (group_asked timing now e).schedule
fits_group_asked timing now e positive fits = record {
  exclude_only = λ m. ap (λ b. cond b e.schedule.group_query (Some (record { sendings = last_member_count timing; due = now })))
      (included e.group.mode m) ∙ fits.exclude_only (is_included e.group.mode (included e.group.mode m));
  group_sendings = by_mode (is_include e.group.mode);
  sources_retransmissions = fits.sources_retransmissions;
}
  where
    included : (mode : FilterMode) → mode_lowered (lowered_to timing now) mode ≡ Include → is_include mode ≡ true
    included Include m = refl
    included (Exclude d) m = cc

    is_included : (mode : FilterMode) → is_include mode ≡ true → mode ≡ Include
    is_included Include m = refl
    is_included (Exclude d) m = absurd (false≢true m)

    by_mode : (b : Bool) → IfSome (cond b e.schedule.group_query (Some (record { sendings = last_member_count timing; due = now }))) (λ q. 0 < q.sendings)
    by_mode true = fits.group_sendings
    by_mode false = some_count timing positive

-- a source that is asked for and above the limit gets retransmissions
gets_retransmissions : (limit count : ℕ) (b : Bool) (t : Option SourceTimer) → 0 < count → (b && is_ahead limit (deadline_of t)) ≡ true →
    (ltb 0 (retransmissions_of (cond b (option_map (source_asked limit count) t) t)) ≡ true) × IsSome (cond b (option_map (source_asked limit count) t) t)
gets_retransmissions limit count true (Some (Running d n)) positive e =
    (ap (λ b. ltb 0 (retransmissions_of (Some (cond b (Running limit count) (Running d n))))) e ∙ lt-ltb 0 count positive, refl)
gets_retransmissions limit count _ _ positive e = absurd (false≢true e)

-- and any other stays as it is
not_asked : (limit count : ℕ) (b : Bool) (t : Option SourceTimer) → (b && is_ahead limit (deadline_of t)) ≡ false →
    cond b (option_map (source_asked limit count) t) t ≡ t
not_asked limit count true (Some (Running d n)) e = ap (λ b. Some (cond b (Running limit count) (Running d n))) e
not_asked limit count _ _ e = refl

held_if_above : (limit : ℕ) (b : Bool) (t : Option SourceTimer) → (b && is_ahead limit (deadline_of t)) ≡ true → IsSome t
held_if_above limit true None e = absurd (false≢true e)
held_if_above limit false None e = absurd (false≢true e)
held_if_above limit b (Some t) e = refl

pub fits_sources_asked : (timing : Timing) (now : ℕ) (asked : Set) (e : ScheduledGroup) → 0 < timing.robustness → IsScheduleOf e.group e.schedule →
    IsScheduleOf (sources_asked timing now asked e).group (sources_asked timing now asked e).schedule
fits_sources_asked timing now asked e positive fits = record {
  exclude_only = fits.exclude_only;
  group_sendings = fits.group_sendings;
  sources_retransmissions = by_some (some_source (asked ∩ above timing now e.group) e.group) refl;
}
  where
    after : GroupState
    after = (sources_asked timing now asked e).group

    limit : ℕ
    limit = lowered_to timing now

    gained : some_source (asked ∩ above timing now e.group) e.group ≡ true → some_source (has_retransmissions after) after ≡ true
    gained some =
        let q = some_source-gives (asked ∩ above timing now e.group) e.group some in
        let is = timer_at-sources_asked timing now asked e q.0 in
        let gets = gets_retransmissions limit (last_member_count timing) (asked q.0) (timer_at e.group q.0) (some_count timing positive) q.2 in
        some_source-from (has_retransmissions after) after q.0 (ap is_some is ∙ gets.1) (ap (λ t. ltb 0 (retransmissions_of t)) is ∙ gets.0)

    none_asked : some_source (asked ∩ above timing now e.group) e.group ≡ false → (s : ℕ) → (asked s && above timing now e.group s) ≡ false
    none_asked none s = false_from_ne_true _
        (λ h. true≢false (sym (some_source-from (asked ∩ above timing now e.group) e.group s (held_if_above limit (asked s) (timer_at e.group s) h) h) ∙ none))

    same : some_source (asked ∩ above timing now e.group) e.group ≡ false → after.sources ≡ e.group.sources
    same none = same_sources after.sources e.group.sources (λ s. timer_at-sources_asked timing now asked e s ∙
        not_asked limit (last_member_count timing) (asked s) (timer_at e.group s) (none_asked none s))

    by_some : (b : Bool) → some_source (asked ∩ above timing now e.group) e.group ≡ b → is_some (cond b (Some now) e.schedule.sources_due)
        ≡ some_source (has_retransmissions after) after
    by_some true some = sym (gained some)
    by_some false none = fits.sources_retransmissions ∙
        ap (λ (m : FinMap nat_cmp SourceTimer). list_any (λ s. ltb 0 (retransmissions_of (map.get m s))) (map.keys m)) (sym (same none))

pub fits_acted : (is_querier : Bool) (timing : Timing) (now : ℕ) (query_group : Bool) (query : Set) (e : ScheduledGroup) → 0 < timing.robustness →
    IsScheduleOf e.group e.schedule → (let after = acted is_querier timing now query_group query e in IsScheduleOf after.group after.schedule)
fits_acted false timing now query_group query e positive fits = fits
fits_acted true timing now false query e positive fits = fits_sources_asked timing now query e positive fits
fits_acted true timing now true query e positive fits = fits_sources_asked timing now query (group_asked timing now e) positive
    (fits_group_asked timing now e positive fits)

-- dropping all
cleared_retransmissions : (t : Option SourceTimer) → retransmissions_of (option_and_then (λ timer. Some (source_cleared timer)) t) ≡ 0
cleared_retransmissions None = refl
cleared_retransmissions (Some Stopped) = refl
cleared_retransmissions (Some (Running d n)) = refl

pub fits_cleared : (e : ScheduledGroup) → IsScheduleOf (cleared e).group (cleared e).schedule
fits_cleared e = record {
  exclude_only = λ m. refl;
  group_sendings = tt;
  sources_retransmissions = sym (false_from_ne_true _ (λ some.
      let q = some_source-gives (has_retransmissions (cleared e).group) (cleared e).group some in
      false≢true (sym (ap (ltb 0) (ap retransmissions_of (get-kept (λ s timer. Some (source_cleared timer)) e.group.sources q.0) ∙
      cleared_retransmissions (timer_at e.group q.0))) ∙ q.2)));
}
