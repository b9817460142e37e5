-- The outcome of a BLOCK in place.
use Rattle.mq_link.proofs.Common.{◌≡◌, ℕ, ◌+◌, ◌≤◌, ◌==◌, ◌⊎◌, inl, inr, Bool, true, false, cond, ◌&&◌, not, ◌||◌, List, [], ◌∷◌, Option, None, Some, is_some}
use Rattle.mq_link.proofs.Common.{refl, sym, ap, ◌∙◌, subst, arith, ltb, list_any, option_map, nat_cmp, eq_by_cmp, or-false, and-true, true≢false, cases_eq}
use Rattle.mq_link.proofs.Common.{eq-eqb, eqb-true, ltb-true, ne_eqb, and_right, set_of, Kind, Block, Timing, FilterMode, Include, Exclude, SourceTimer}
use Rattle.mq_link.proofs.Common.{Stopped, Running, changes_filter, is_include, is_running, is_stopped, running, stopped, timer_at, IsHeld, lowered_to}
use Rattle.mq_link.proofs.Common.{translated_change, above, source_asked, ∅, Set, named_in, size_of, GroupChange, NamedSources, change_of, table_row}
use Rattle.mq_link.proofs.Common.{last_member_count, membership_interval, same_sources, at_source_of, both, each_case, timer_then, is_querier, IsQuietAt}
use Rattle.mq_link.proofs.Common.{ScheduledGroup, settled, acted, after_change, after_round, group_counted, messages_due, sources_asked, SentQuery, Sends}
use Rattle.mq_link.proofs.Common.{timer_at-sources_asked, same_count, held_acted, held_after_round, ties, untied, StatementKind, has_older_hosts}
use Rattle.mq_link.proofs.Common.{has_schedule_left, is_block, Applied, per_query, v1_mutes_leave, changes, RecordOf, Setting, is_muted, stated, HasOutcome}
use Rattle.mq_link.proofs.Common.{AreSound}
use Rattle.mq_link.proofs.{GrownGroups.one_at_most, HeldAs.is_from, ChangedRecords.changed_then, KeptFilters.unchanged, KeptGroups.group_found}
use Rattle.mq_link.proofs.{MadeEntries.len-made, MadeEntries.round_keeps_size, Quiet.not_vacant, Quiet.same_settled, RefreshedGroups.after-nothing}
use Rattle.mq_link.proofs.{OneNamed.names-one, RefreshedStates.put_is, StatedSteps.IsChanged, StatedSteps.stated_judged, UnpassedLimits.passes_none_by}
use Rattle.std.specs.FinMap as map
use Rattle.std.specs.FinSet as set
use Rattle.mq_link.specs.declared.statement.StatementKind.TheVariants.{Record as SaidRecord}
use Rattle.mq_link.specs.State.{Groups, IsHeldAs, group_at, is_source_specific, one_if, schedules_in, schedules_of, sources_of, with_group}

-- a BLOCK leaves the timer of a source as it is that isn't named, or that the group has
abbrev TimerThen : ℕ → FilterMode → ℕ → Option SourceTimer → Bool → Type 0
TimerThen gmi mode s t a = (is_include mode ≡ true → is_stopped t ≡ false) → (a ≡ true → (is_include mode || is_some t) ≡ true) →
    timer_then gmi mode Block s t a ≡ t

timer_stays : (gmi : ℕ) (mode : FilterMode) (s : ℕ) (t : Option SourceTimer) (a : Bool) → TimerThen gmi mode s t a
timer_stays gmi Include s t a = each_case (TimerThen gmi Include s) (both _ (λ _ _. refl) (λ _ _. refl))
    (both _ (λ none _. absurd (true≢false (none refl))) (λ none _. absurd (true≢false (none refl)))) (λ d n. both _ (λ _ _. refl) (λ _ _. refl)) t a
timer_stays gmi (Exclude m) s t a = each_case (TimerThen gmi (Exclude m) s) (both _ (λ _ there. absurd (true≢false (sym (there refl)))) (λ _ _. refl))
    (both _ (λ _ _. refl) (λ _ _. refl)) (λ d n. both _ (λ _ _. refl) (λ _ _. refl)) t a

-- it asks for the running sources that it names
query_of_running : (gmi : ℕ) (mode : FilterMode) (X Y A : Set) (s : ℕ) → X s ≡ true → Y s ≡ false → (table_row gmi mode Block X Y A).query s ≡ A s
query_of_running gmi Include X Y A s runs none = ap (λ b. b && A s) runs
query_of_running gmi (Exclude d) X Y A s runs none = ap (λ b. A s && not b) none ∙ and-true (A s)

mode_stays : (gmi : ℕ) (mode : FilterMode) (X Y A : Set) → (table_row gmi mode Block X Y A).mode ≡ mode
mode_stays gmi Include X Y A = refl
mode_stays gmi (Exclude d) X Y A = refl

group_unasked : (gmi : ℕ) (mode : FilterMode) (X Y A : Set) → (table_row gmi mode Block X Y A).query_group ≡ false
group_unasked gmi Include X Y A = refl
group_unasked gmi (Exclude d) X Y A = refl

-- two sets that agree on the running sources of a group ask for the same
module _ (timing : Timing) (now : ℕ) (a b : Set) (e : ScheduledGroup) (agree : (s : ℕ) → is_running (timer_at e.group s) ≡ true → a s ≡ b s) where
  timers_agree : (s : ℕ) → timer_at (sources_asked timing now a e).group s ≡ timer_at (sources_asked timing now b e).group s
  timers_agree s = timer_at-sources_asked timing now a e s ∙ by_timer (timer_at e.group s) refl ∙ sym (timer_at-sources_asked timing now b e s)
    where
      stays : (c d : Bool) (t : Option SourceTimer) → option_map (source_asked (lowered_to timing now) (last_member_count timing)) t ≡ t →
          cond c (option_map (source_asked (lowered_to timing now) (last_member_count timing)) t) t
          ≡ cond d (option_map (source_asked (lowered_to timing now) (last_member_count timing)) t) t
      stays true true t is = refl
      stays false false t is = refl
      stays true false t is = is
      stays false true t is = sym is

      by_timer : (t : Option SourceTimer) → timer_at e.group s ≡ t →
          cond (a s) (option_map (source_asked (lowered_to timing now) (last_member_count timing)) t) t ≡ cond (b s)
          (option_map (source_asked (lowered_to timing now) (last_member_count timing)) t) t
      by_timer None is = stays (a s) (b s) None refl
      by_timer (Some Stopped) is = stays (a s) (b s) (Some Stopped) refl
      by_timer (Some (Running d n)) is =
          ap (λ c. cond c (option_map (source_asked (lowered_to timing now) (last_member_count timing)) (Some (Running d n))) (Some (Running d n)))
          (agree s (ap is_running is))

  above_agree : (s : ℕ) → (a s && above timing now e.group s) ≡ (b s && above timing now e.group s)
  above_agree s = by_timer (timer_at e.group s) refl
    where
      none : (c d : Bool) → (c && false) ≡ (d && false)
      none true true = refl
      none false true = refl
      none _ _ = refl

      by_timer : (t : Option SourceTimer) → timer_at e.group s ≡ t → (a s && above timing now e.group s) ≡ (b s && above timing now e.group s)
      by_timer None is = rw is (none (a s) (b s))
      by_timer (Some Stopped) is = rw is (none (a s) (b s))
      by_timer (Some (Running d n)) is = ap (λ c. c && above timing now e.group s) (agree s (ap is_running is))

  asked_alike : sources_asked timing now a e ≡ sources_asked timing now b e
  asked_alike = λ i. record {
    group = record {
      mode = e.group.mode;
      sources =
          same_sources (sources_asked timing now a e).group.sources (sources_asked timing now b e).group.sources timers_agree i;
      v1 = e.group.v1;
      v2 = e.group.v2;
    };
    schedule = record {
      group_query = e.schedule.group_query;
      sources_due = cond (list_any (λ s. above_agree s i) (map.keys e.group.sources))
          (Some now) e.schedule.sources_due;
    };
  }

  pub acted_alike : (q : Bool) → acted q timing now false a e ≡ acted q timing now false b e
  acted_alike false = refl
  acted_alike true = asked_alike

-- asking keeps the size of a group
acted_keeps_size : (q : Bool) (timing : Timing) (now : ℕ) (query : Set) (e : ScheduledGroup) → size_of (acted q timing now false query e).group
    ≡ size_of e.group
acted_keeps_size false timing now query e = refl
acted_keeps_size true timing now query e =
    len-made (λ s timer. cond (query s) (source_asked (lowered_to timing now) (last_member_count timing) timer) timer) e.group.sources

acted_keeps_query : (q : Bool) (timing : Timing) (now : ℕ) (query : Set) (e : ScheduledGroup) →
    (acted q timing now false query e).schedule.group_query ≡ e.schedule.group_query
acted_keeps_query false timing now query e = refl
acted_keeps_query true timing now query e = refl

-- A BLOCK of a held group for which nothing is due and no older host mutes it. The group has each source that the
-- BLOCK names, or is in INCLUDE mode. `asked` has the named sources.
module _ (at : Setting) (a : ℕ) (named : NamedSources) (groups : Groups) (sound : AreSound at groups) (held : map.contains_key groups a ≡ true)
    (quiet : IsQuietAt at.now (group_at groups a).schedule) (unmuted : has_older_hosts (group_at groups a) at.now ≡ false)
    (left : has_schedule_left at.config.limits groups (group_at groups a) ≡ true) (asked : Set) (is : (s : ℕ) → set.contains named s ≡ asked s)
    (there : (s : ℕ) → asked s ≡ true → (is_include (group_at groups a).group.mode || is_some (timer_at (group_at groups a).group s)) ≡ true) where
  abbrev pub before : ScheduledGroup
  before = group_at groups a

  pub held_as : IsHeldAs at.config a before
  held_as = sound.all a before (group_found groups a held)

  abbrev gmi : ℕ
  gmi = at.now + membership_interval at.election.timing

  abbrev change : GroupChange
  change = change_of at.election.timing at.now before.group Block named

  -- the group as it is asked for, and once what is due is sent
  abbrev pub asked_for : ScheduledGroup
  asked_for = acted (is_querier at.election.role) at.election.timing at.now false asked before

  abbrev pub after : ScheduledGroup
  after = after_round at.election.timing at.now asked_for

  timer_kept : (s : ℕ) → timer_at change.group s ≡ timer_at before.group s
  timer_kept s =
      at_source_of (λ _ _ _ _ t. t ≡ timer_at before.group s) at.election.timing at.now before.group Block named s
      (timer_stays gmi before.group.mode s (timer_at before.group s) (set.contains named s)
      (λ include. let formed = held_as.held in formed.none_stopped (is_from before.group.mode include) s) (λ names. there s (sym (is s) ∙ names)))

  group_kept : change.group ≡ before.group
  group_kept = λ i. record {
    mode = mode_stays gmi before.group.mode (running before.group) (stopped before.group) (set.contains named) i;
    sources =
        same_sources change.group.sources before.group.sources timer_kept i;
    v1 = before.group.v1;
    v2 = before.group.v2;
  }

  settled_kept : settled change.group before.schedule ≡ before.schedule
  settled_kept = ap (λ g. settled g before.schedule) group_kept ∙ same_settled before.group before.schedule held_as.fits

  asked_is : asked_for ≡ after_change (is_querier at.election.role) at.election.timing at.now change before.schedule
  asked_is =
      sym (
      (λ i. acted (is_querier at.election.role) at.election.timing at.now
      (group_unasked gmi before.group.mode (running before.group) (stopped before.group) (set.contains named) i) change.query
      (record { group = group_kept i; schedule = settled_kept i }))
      ∙ acted_alike at.election.timing at.now change.query asked before agree (is_querier at.election.role))
    where
      agree : (s : ℕ) → is_running (timer_at before.group s) ≡ true → change.query s ≡ asked s
      agree s runs = query_of_running gmi before.group.mode (running before.group) (stopped before.group)
          (set.contains named) s runs (unstopped (timer_at before.group s) runs) ∙ is s
        where
          unstopped : (t : Option SourceTimer) → is_running t ≡ true → is_stopped t ≡ false
          unstopped None runs = refl
          unstopped (Some Stopped) runs = absurd (true≢false (sym runs))
          unstopped (Some (Running d n)) runs = refl

  abbrev change_said : Bool → Option GroupChange
  change_said muted = translated_change (v1_mutes_leave at.config.family) muted at.election.timing at.now before.group Block named

  change_is : change_said (is_muted at.config a (RecordOf Block named)) ≡ Some change
  change_is =
      ap change_said (and_right (is_source_specific at.config a) false refl)
      ∙ ap (λ b. option_map (λ (r : Kind × NamedSources). change_of at.election.timing at.now before.group r.0 r.1) (cond b None (Some (Block, named)))) unmuted

  pub formed : IsHeld after.group
  formed = held_after_round at.election.timing at.now asked_for
      (held_acted (is_querier at.election.role) at.election.timing at.now false asked before held_as.held)

  pub size_kept : sources_of after ≡ sources_of before
  size_kept = round_keeps_size at.election.timing at.now asked_for ∙ acted_keeps_size (is_querier at.election.role) at.election.timing at.now asked before

  schedules_few : schedules_in groups + schedules_of after ≤ at.config.limits.scheduled + schedules_of before
  schedules_few =
      let query : after.schedule.group_query ≡ before.schedule.group_query =
      ap (group_counted at.election.timing at.now) (acted_keeps_query (is_querier at.election.role) at.election.timing at.now asked before)
      ∙ same_count at.election.timing at.now before.schedule.group_query quiet.group in
      let same = ap (λ q. one_if (is_some q)) query in
      let most = one_at_most (is_some after.schedule.sources_due) in
      let all = sound.within.scheduled in
      by_due (is_some before.schedule.sources_due) refl same most all
    where
      by_due : (b : Bool) → is_some before.schedule.sources_due ≡ b → one_if (is_some after.schedule.group_query)
          ≡ one_if (is_some before.schedule.group_query) → one_if (is_some after.schedule.sources_due) ≤ 1 →
          schedules_in groups ≤ at.config.limits.scheduled → schedules_in groups + schedules_of after ≤ at.config.limits.scheduled + schedules_of before
      by_due true due same most all = let has = ap one_if due in omega (arith, has, same, most, all)
      by_due false due same most all = let few =
          ltb-true (schedules_in groups) at.config.limits.scheduled
          (ap (λ b. b || ltb (schedules_in groups) at.config.limits.scheduled) (sym due) ∙ left) in let none = ap one_if due in
          omega (arith, none, same, most, few)

  -- it is applied, and sends what is due then
  pub stated-block : stated at a (RecordOf Block named) groups
      ≡ record {
        verdict = Applied;
        groups = with_group groups a after;
        queries =
            messages_due (per_query at.config.family) at.election.timing at.now a asked_for;
      }
  stated-block = stated_judged at a (RecordOf Block named) groups before change asked_for None did
    where
      did : IsChanged at a (RecordOf Block named) groups before change asked_for None
      did = record {
        before_is = refl;
        change_is = change_is;
        asked_is = asked_is;
        passed_is = sym (passes_none_by at.config.limits groups a after sound.within held (not_vacant after.group formed) size_kept schedules_few);
      }

  pub outcome-block : {S : Type 0} (takes : S → SentQuery → S → Type 0) (next : Groups) (old new : S) → next ≡ map.insert groups a after →
      Sends takes old (messages_due (per_query at.config.family) at.election.timing at.now a asked_for) new →
      HasOutcome takes (stated at a (RecordOf Block named) groups) Applied next old new
  outcome-block takes next old new is sent =
      subst (λ o. HasOutcome takes o Applied next old new) (sym stated-block)
      (record { verdict_is = refl; groups_are = is ∙ sym (put_is groups a after formed); sent = sent })

  -- and the filter stays
  pub filter-block : (next : Groups) → next ≡ with_group groups a after → changes groups next a ≡ false
  filter-block next is =
      sym (changed_then groups next a before asked_for after change (is_querier at.election.role) at.election.timing at.now false refl
      (sym (ap (changes_filter before.group) group_kept ∙ unchanged before.group)) asked_is refl is)

-- Where it names no source, nothing is asked for.
pub unasked : (at : Setting) (a : ℕ) (groups : Groups) → AreSound at groups → map.contains_key groups a ≡ true →
    acted (is_querier at.election.role) at.election.timing at.now false ∅ (group_at groups a) ≡ group_at groups a
unasked at a groups sound held =
    let e = group_at groups a in
    let own = sound.all a e (group_found groups a held) in
    (λ i. acted (is_querier at.election.role) at.election.timing at.now false ∅
    (record { group = e.group; schedule = sym (same_settled e.group e.schedule own.fits) i }))
    ∙ after-nothing at.election.timing at.now e.group e.group e.schedule own.fits refl (λ s. refl) (is_querier at.election.role)

-- the statement that such a record is
pub said_is : (said : StatementKind) → is_block said ≡ true → said ≡ SaidRecord Block
said_is (SaidRecord Block) is = refl
said_is _ is = absurd (true≢false (sym is))

-- the source that a list of one names
pub one_named : {K : Type 0} (number : K → ℕ) (xs : List K) (x : K) → xs ≡ x ∷ [] → (s : ℕ) → set.contains (named_in number xs) s ≡ set_of (λ n. n)
    (number x ∷ []) s
one_named number xs x is s = names-one number xs x is s ∙ by_number (cases_eq s (number x))
  where
    by_number : (s ≡ number x) ⊎ (s ≡ number x → ⊥) → eq_by_cmp nat_cmp s (number x) ≡ set_of (λ n. n) (number x ∷ []) s
    by_number (inl same) = ties s (number x) same ∙ sym (ap (λ b. b || false) (eq-eqb (number x) s (sym same)))
    by_number (inr differs) = untied s (number x) differs ∙ sym (ap (λ b. b || false) (ne_eqb (number x) s (λ same. differs (sym same))))

pub one_there : (e : ScheduledGroup) (n : ℕ) → (is_include e.group.mode || is_some (timer_at e.group n)) ≡ true → (s : ℕ) →
    set_of (λ n. n) (n ∷ []) s ≡ true → (is_include e.group.mode || is_some (timer_at e.group s)) ≡ true
one_there e n there s names = ap (λ k. is_include e.group.mode || is_some (timer_at e.group k)) (sym (eqb-true n s (sym (or-false (n == s)) ∙ names))) ∙ there
