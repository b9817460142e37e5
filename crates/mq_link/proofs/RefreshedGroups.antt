-- A group after a record that changes only the timers of the sources that it names.
use Rattle.mq_link.proofs.Common.{List, [], ◌∷◌, ◌≡◌, ℕ, ◌+◌, Bool, true, false, cond, ◌&&◌, Option, None, Some, is_some, refl, sym, ap, ◌∙◌, nat_cmp, FinMap}
use Rattle.mq_link.proofs.Common.{eq-eqb, or_left, true≢false, set_of, Kind, IsIn, Allow, Timing, FilterMode, Include, Exclude, SourceTimer, Running, ∅, Set}
use Rattle.mq_link.proofs.Common.{GroupState, is_include, is_stopped, running, retransmissions_of, stopped, timer_at, NamedSources, table_row, change_of}
use Rattle.mq_link.proofs.Common.{membership_interval, some_source, has_retransmissions, above, same_sources, timer_then, each_case, both, at_source_of}
use Rattle.mq_link.proofs.Common.{ScheduleState}
use Rattle.mq_link.proofs.Common.{ScheduledGroup, IsScheduleOf, settled, after_change, sources_asked, some_source-gives, timer_at-sources_asked}
use Rattle.mq_link.proofs.Common.{retransmissions_before, asking_nothing, restarts}
use Rattle.mq_link.proofs.HeldAs.{is_from, same_tests}
use Rattle.std.specs.FinMap as map
use Rattle.std.specs.FinSet as set

-- the group with other timers of its sources
abbrev pub with_timers : GroupState → FinMap nat_cmp SourceTimer → GroupState
with_timers g timers = record { mode = g.mode; sources = timers; v1 = g.v1; v2 = g.v2 }

-- no record of these kinds changes the mode or asks for the group
mode_kept : (gmi : ℕ) (mode : FilterMode) (kind : Kind) (X Y A : Set) → restarts kind ≡ true → (table_row gmi mode kind X Y A).mode ≡ mode
mode_kept gmi Include IsIn X Y A is = refl
mode_kept gmi Include Allow X Y A is = refl
mode_kept gmi (Exclude d) IsIn X Y A is = refl
mode_kept gmi (Exclude d) Allow X Y A is = refl
mode_kept gmi mode _ X Y A is = absurd (true≢false (sym is))

group_unasked : (gmi : ℕ) (mode : FilterMode) (kind : Kind) (X Y A : Set) → restarts kind ≡ true → (table_row gmi mode kind X Y A).query_group ≡ false
group_unasked gmi Include IsIn X Y A is = refl
group_unasked gmi Include Allow X Y A is = refl
group_unasked gmi (Exclude d) IsIn X Y A is = refl
group_unasked gmi (Exclude d) Allow X Y A is = refl
group_unasked gmi mode _ X Y A is = absurd (true≢false (sym is))

sources_unasked : (gmi : ℕ) (mode : FilterMode) (kind : Kind) (X Y A : Set) (s : ℕ) → restarts kind ≡ true → (table_row gmi mode kind X Y A).query s ≡ false
sources_unasked gmi Include IsIn X Y A s is = refl
sources_unasked gmi Include Allow X Y A s is = refl
sources_unasked gmi (Exclude d) IsIn X Y A s is = refl
sources_unasked gmi (Exclude d) Allow X Y A s is = refl
sources_unasked gmi mode _ X Y A s is = absurd (true≢false (sym is))

pub restarts-unasked : (timing : Timing) (now : ℕ) (g : GroupState) (kind : Kind) (named : NamedSources) → restarts kind ≡ true →
    (change_of timing now g kind named).query_group ≡ false
restarts-unasked timing now g kind named = group_unasked (now + membership_interval timing) g.mode kind (running g) (stopped g) (set.contains named)

pub restarts-unasked_sources : (timing : Timing) (now : ℕ) (g : GroupState) (kind : Kind) (named : NamedSources) (s : ℕ) → restarts kind ≡ true →
    (change_of timing now g kind named).query s ≡ false
restarts-unasked_sources timing now g kind named s = sources_unasked (now + membership_interval timing) g.mode kind (running g) (stopped g)
    (set.contains named) s

-- a list that has no number is empty
pub none_listed : {X : Type 0} (number : X → ℕ) (xs : List X) → ((s : ℕ) → set_of number xs s ≡ false) → xs ≡ []
none_listed number [] none = refl
none_listed number (x ∷ xs) none = absurd (true≢false (sym (or_left _ _ (eq-eqb (number x) (number x) refl)) ∙ none (number x)))

-- the timer of a source that is named is set, any other stays
abbrev TimerThen : ℕ → FilterMode → Kind → ℕ → Option SourceTimer → Bool → Type 0
TimerThen gmi mode kind s t a = (is_include mode ≡ true → is_stopped t ≡ false) → timer_then gmi mode kind s t a
    ≡ cond a (Some (Running gmi (retransmissions_of t))) t

timer_kept : (gmi : ℕ) (mode : FilterMode) (kind : Kind) (s : ℕ) (t : Option SourceTimer) (a : Bool) → restarts kind ≡ true → TimerThen gmi mode kind s t a
timer_kept gmi Include IsIn s t a is = each_case (TimerThen gmi Include IsIn s) (both _ (λ _. refl) (λ _. refl))
    (both _ (λ _. refl) (λ none. absurd (true≢false (none refl)))) (λ d n. both _ (λ _. refl) (λ _. refl)) t a
timer_kept gmi Include Allow s t a is = each_case (TimerThen gmi Include Allow s) (both _ (λ _. refl) (λ _. refl))
    (both _ (λ _. refl) (λ none. absurd (true≢false (none refl)))) (λ d n. both _ (λ _. refl) (λ _. refl)) t a
timer_kept gmi (Exclude m) IsIn s t a is = each_case (TimerThen gmi (Exclude m) IsIn s) (both _ (λ _. refl) (λ _. refl))
    (both _ (λ _. refl) (λ _. refl)) (λ d n. both _ (λ _. refl) (λ _. refl)) t a
timer_kept gmi (Exclude m) Allow s t a is = each_case (TimerThen gmi (Exclude m) Allow s) (both _ (λ _. refl) (λ _. refl))
    (both _ (λ _. refl) (λ _. refl)) (λ d n. both _ (λ _. refl) (λ _. refl)) t a
timer_kept gmi mode _ s t a is = absurd (true≢false (sym is))

-- The change of such a record.
module _ (timing : Timing) (now : ℕ) (g : GroupState) (kind : Kind) (named : NamedSources) (is : restarts kind ≡ true)
    (none_stopped : g.mode ≡ Include → (s : ℕ) → stopped g s ≡ false) where
  abbrev pub gmi : ℕ
  gmi = now + membership_interval timing

  timers_then : (s : ℕ) → timer_at (change_of timing now g kind named).group s ≡ cond (set.contains named s)
      (Some (Running gmi (retransmissions_of (timer_at g s)))) (timer_at g s)
  timers_then s =
      at_source_of (λ _ _ _ _ t. t ≡ cond (set.contains named s) (Some (Running gmi (retransmissions_of (timer_at g s))))
      (timer_at g s)) timing now g kind named s
      (timer_kept gmi g.mode kind s (timer_at g s) (set.contains named s) is (λ include. none_stopped (is_from g.mode include) s))

  pub changes-to : (timers : FinMap nat_cmp SourceTimer) →
      ((s : ℕ) → cond (set.contains named s) (Some (Running gmi (retransmissions_of (timer_at g s)))) (timer_at g s) ≡ map.get timers s) →
      change_of timing now g kind named ≡ asking_nothing (with_timers g timers)
  changes-to timers each =
      let sources = same_sources (change_of timing now g kind named).group.sources timers (λ s. timers_then s ∙ each s) in
      λ i. record {
        group = record { mode = mode_kept gmi g.mode kind (running g) (stopped g) (set.contains named) is i; sources = sources i; v1 = g.v1; v2 = g.v2 };
        query = λ s. sources_unasked gmi g.mode kind (running g) (stopped g) (set.contains named) s is i;
        query_group = group_unasked gmi g.mode kind (running g) (stopped g) (set.contains named) is i;
      }

-- nothing changes where no source is to be asked for
pub unasked : (timing : Timing) (now : ℕ) (e : ScheduledGroup) → sources_asked timing now ∅ e ≡ e
unasked timing now e = λ i. record {
  group = record {
    mode = e.group.mode;
    sources = same_sources (sources_asked timing now ∅ e).group.sources e.group.sources
        (timer_at-sources_asked timing now ∅ e) i;
    v1 = e.group.v1;
    v2 = e.group.v2;
  };
  schedule = record { group_query = e.schedule.group_query; sources_due = ap (λ b. cond b (Some now) e.schedule.sources_due) none i };
}
  where
    by_test : (b : Bool) → some_source (λ s. ∅ s && above timing now e.group s) e.group ≡ b → b ≡ false
    by_test false is = refl
    by_test true is = let found = some_source-gives (λ s. ∅ s && above timing now e.group s) e.group is in absurd (true≢false (sym found.2))

    none : some_source (λ s. ∅ s && above timing now e.group s) e.group ≡ false
    none = by_test (some_source (λ s. ∅ s && above timing now e.group s) e.group) refl

-- A change that asks for nothing leaves the schedule as it is, where the group has the mode and the retransmissions
-- from before.
module _ (timing : Timing) (now : ℕ) (old new : GroupState) (schedule : ScheduleState) (fits : IsScheduleOf old schedule) (mode : new.mode ≡ old.mode)
    (retransmissions : (s : ℕ) → has_retransmissions new s ≡ has_retransmissions old s) where
  same_some : some_source (has_retransmissions new) new ≡ some_source (has_retransmissions old) old
  same_some =
      same_tests (some_source (has_retransmissions new) new) (some_source (has_retransmissions old) old)
      (retransmissions_before old new (λ s some. sym (retransmissions s) ∙ some))
      (retransmissions_before new old (λ s some. retransmissions s ∙ some))

  query_stays : (m : FilterMode) → new.mode ≡ m → cond (is_include m) None schedule.group_query ≡ schedule.group_query
  query_stays Include is = sym (fits.exclude_only (sym mode ∙ is))
  query_stays (Exclude d) is = refl

  due_stays : cond (some_source (has_retransmissions new) new) schedule.sources_due None ≡ schedule.sources_due
  due_stays = by_due (some_source (has_retransmissions new) new) schedule.sources_due (fits.sources_retransmissions ∙ sym same_some)
    where
      by_due : (b : Bool) (due : Option ℕ) → is_some due ≡ b → cond b due None ≡ due
      by_due true due is = refl
      by_due false None is = refl
      by_due false (Some d) is = absurd (true≢false is)

  settled_is : settled new schedule ≡ schedule
  settled_is = λ i. record { group_query = query_stays new.mode refl i; sources_due = due_stays i }

  pub after-nothing : (is_querier : Bool) → after_change is_querier timing now (asking_nothing new) schedule ≡ record { group = new; schedule = schedule }
  after-nothing false = λ i. record { group = new; schedule = settled_is i }
  after-nothing true = unasked timing now (record { group = new; schedule = settled new schedule }) ∙ (λ i. record { group = new; schedule = settled_is i })
