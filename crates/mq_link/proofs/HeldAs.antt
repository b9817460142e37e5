-- Groups as a link may hold them, after the end of timers, rounds, the loss of the role and lowering.
use Rattle.mq_link.proofs.Common.{◌≡◌, ℕ, Bool, true, false, cond, inl, inr, refl, Option, None, Some, IfSome, sym, ap, ◌∙◌, subst, eqb, ltb, true≢false}
use Rattle.mq_link.proofs.Common.{option_and_then, nat_cmp, Timing, FilterMode, Include, Exclude, SourceTimer, Stopped, Running, Set, kept, GroupState}
use Rattle.mq_link.proofs.Common.{is_include, vacant, is_vacant, timer_at, retransmissions_of, IsHeld, IsAnyGroup, mode_expired, source_expired, ahead, expired}
use Rattle.mq_link.proofs.Common.{lowered_by_query, lowered_to, mode_lowered, source_lowered, sources_lowered, get-kept, IsAnyGroup-expired}
use Rattle.mq_link.proofs.Common.{IsWellFormed-group_lowered, IsWellFormed-sources_lowered, some_source, has_retransmissions, retransmissions_counted}
use Rattle.mq_link.proofs.Common.{ScheduleState}
use Rattle.mq_link.proofs.Common.{ScheduledGroup, no_schedule, settled, IsScheduleOf, cleared, is_due, group_counted, sources_due_next, after_round}
use Rattle.mq_link.proofs.Common.{fits_after_expiry, fits_after_round, fits_cleared, retransmissions_before, held_after_round, held_cleared, Configuration}
use Rattle.mq_link.proofs.Common.{Groups}
use Rattle.mq_link.proofs.Common.{IsSourceSpecific, IsHeldAs, IsSilent, group_expired, if_held}
use Rattle.std.specs.FinMap as map

-- a fact about each held group
abbrev pub All : (ℕ → ScheduledGroup → Type 0) → Groups → Type 0
All P groups = (group : ℕ) (e : ScheduledGroup) → map.get groups group ≡ Some e → P group e

pub some_is : {X : Type 0} (P : X → Type 0) (x : Option X) (y : X) → IfSome x P → x ≡ Some y → P y
some_is P None y h is = cc
some_is P (Some x) y h is = let same : x ≡ y = cc in subst P same h

pub all-kept : (P : ℕ → ScheduledGroup → Type 0) (f : ℕ → ScheduledGroup → Option ScheduledGroup) (groups : Groups) →
    ((k : ℕ) (e : ScheduledGroup) → P k e → IfSome (f k e) (P k)) → All P groups → All P (kept f groups)
all-kept P f groups keeps all group e is = by_group (map.get groups group) refl (sym (get-kept f groups group) ∙ is)
  where
    by_group : (before : Option ScheduledGroup) → map.get groups group ≡ before → option_and_then (f group) before ≡ Some e → P group e
    by_group None was now_is = cc
    by_group (Some b) was now_is = some_is (P group) (f group b) e (keeps group b (all group b was)) now_is

pub vacant_is : is_vacant vacant ≡ true
vacant_is = ap (λ n. eqb n 0) (map.len-empty nat_cmp SourceTimer)

-- the end of timers
specific_mode : (now : ℕ) (mode : FilterMode) → is_include mode ≡ true → is_include (mode_expired now mode) ≡ true
specific_mode now Include h = refl
specific_mode now (Exclude d) h = cc

specific_expired : (now : ℕ) (g : GroupState) → IsSourceSpecific g → IsSourceSpecific (expired now g)
specific_expired now g h = by_test (is_vacant left)
  where
    left : GroupState
    left = record {
      mode = mode_expired now g.mode;
      sources = kept (λ s. source_expired (mode_expired now g.mode) now) g.sources;
      v1 = option_and_then (ahead now) g.v1;
      v2 = option_and_then (ahead now) g.v2;
    }

    by_test : (b : Bool) → IsSourceSpecific (cond b vacant left)
    by_test true = record { include = refl; no_v1 = refl; no_v2 = refl }
    by_test false = record {
      include = specific_mode now g.mode h.include;
      no_v1 = ap (option_and_then (ahead now)) h.no_v1;
      no_v2 = ap (option_and_then (ahead now)) h.no_v2;
    }

pub held_unless_vacant : (g : GroupState) → IsAnyGroup g → is_vacant g ≡ false → IsHeld g
held_unless_vacant g any not_vacant = elim any [
  | inl is ↦ absurd (true≢false (sym vacant_is ∙ sym (ap is_vacant is) ∙ not_vacant))
  | inr held ↦ held
]

pub held_expired : (config : Configuration) (now group : ℕ) (e : ScheduledGroup) → IsHeldAs config group e →
    IfSome (if_held (group_expired now e)) (IsHeldAs config group)
held_expired config now group e h =
    elim (is_vacant (expired now e.group)) as (λ b. is_vacant (expired now e.group) ≡ b → IfSome (cond b None (Some (group_expired now e)))
    (IsHeldAs config group)) [
      | true ↦ λ _. tt
      | false ↦ λ not_vacant. record {
        admitted = h.admitted;
        held = held_unless_vacant (expired now e.group) (IsAnyGroup-expired now e.group) not_vacant;
        fits = fits_after_expiry now e.group e.schedule h.fits;
        source_specific = λ kept_so. specific_expired now e.group (h.source_specific kept_so);
      }
    ] refl

pub settled_silent : (g : GroupState) (schedule : ScheduleState) → schedule ≡ no_schedule → settled g schedule ≡ no_schedule
settled_silent g schedule is = ap (settled g) is ∙ by_tests (is_include g.mode) (some_source (has_retransmissions g) g)
  where
    by_tests : (a b : Bool) → ◌≡◌ {A = ScheduleState} (record { group_query = cond a None None; sources_due = cond b None None }) no_schedule
    by_tests true true = refl
    by_tests false true = refl
    by_tests _ _ = refl

pub silent_expired : (now group : ℕ) (e : ScheduledGroup) → IsSilent e → IfSome (if_held (group_expired now e)) IsSilent
silent_expired now group e h = elim (is_vacant (expired now e.group)) as (λ b. IfSome (cond b None (Some (group_expired now e))) IsSilent) [
  | true ↦ tt
  | false ↦ record { schedule = settled_silent (expired now e.group) e.schedule h.schedule }
]

-- rounds
specific_round : (g : GroupState) (due : Bool) → IsSourceSpecific g → IsSourceSpecific (cond due (retransmissions_counted g) g)
specific_round g true h = record { include = h.include; no_v1 = h.no_v1; no_v2 = h.no_v2 }
specific_round g false h = h

pub held_round : (config : Configuration) (timing : Timing) (now group : ℕ) (e : ScheduledGroup) → IsHeldAs config group e →
    IsHeldAs config group (after_round timing now e)
held_round config timing now group e h = record {
  admitted = h.admitted;
  held = held_after_round timing now e h.held;
  fits = fits_after_round timing now e h.fits;
  source_specific = λ kept_so. specific_round e.group (is_due now e.schedule.sources_due) (h.source_specific kept_so);
}

pub silent_round : (timing : Timing) (now group : ℕ) (e : ScheduledGroup) → IsSilent e → IsSilent (after_round timing now e)
silent_round timing now group e h = record { schedule = ap left h.schedule }
  where
    left : ScheduleState → ScheduleState
    left schedule = record {
      group_query = group_counted timing now schedule.group_query;
      sources_due = cond (is_due now schedule.sources_due)
          (sources_due_next timing now (cond (is_due now schedule.sources_due) (retransmissions_counted e.group) e.group)) schedule.sources_due;
    }

-- the loss of the role
pub held_after_loss : (config : Configuration) (group : ℕ) (e : ScheduledGroup) → IsHeldAs config group e → IsHeldAs config group (cleared e)
held_after_loss config group e h = record {
  admitted = h.admitted;
  held = held_cleared e h.held;
  fits = fits_cleared e;
  source_specific = λ kept_so. let s = h.source_specific kept_so in record { include = s.include; no_v1 = s.no_v1; no_v2 = s.no_v2 };
}

-- lowering
pub lowered_include : (limit : ℕ) (mode : FilterMode) → is_include (mode_lowered limit mode) ≡ is_include mode
lowered_include limit Include = refl
lowered_include limit (Exclude d) = refl

include_is : (mode : FilterMode) → mode ≡ Include → is_include mode ≡ true
include_is mode is = ap is_include is

pub is_from : (mode : FilterMode) → is_include mode ≡ true → mode ≡ Include
is_from Include h = refl
is_from (Exclude d) h = cc

fits_lowered_mode : (limit : ℕ) (e : ScheduledGroup) → IsScheduleOf e.group e.schedule →
    (let g = e.group in IsScheduleOf (record { mode = mode_lowered limit g.mode; sources = g.sources; v1 = g.v1; v2 = g.v2 }) e.schedule)
fits_lowered_mode limit e h = record {
  exclude_only = λ is. h.exclude_only (is_from e.group.mode (sym (lowered_include limit e.group.mode) ∙ include_is (mode_lowered limit e.group.mode) is));
  group_sendings = h.group_sendings;
  sources_retransmissions = h.sources_retransmissions;
}

retransmissions_lowered : (limit : ℕ) (b : Bool) (t : Option SourceTimer) →
    retransmissions_of (option_and_then (λ timer. Some (cond b (source_lowered limit timer) timer)) t) ≡ retransmissions_of t
retransmissions_lowered limit true None = refl
retransmissions_lowered limit false None = refl
retransmissions_lowered limit true (Some t) = lowered t
  where
    lowered : (t : SourceTimer) → retransmissions_of (Some (source_lowered limit t)) ≡ retransmissions_of (Some t)
    lowered Stopped = refl
    lowered (Running d n) = refl
retransmissions_lowered limit false (Some t) = refl

pub same_tests : (a b : Bool) → (a ≡ true → b ≡ true) → (b ≡ true → a ≡ true) → a ≡ b
same_tests true true f g = refl
same_tests true false f g = sym (f refl)
same_tests false true f g = g refl
same_tests false false f g = refl

fits_sources_lowered : (timing : Timing) (now : ℕ) (asked : Set) (e : ScheduledGroup) → IsScheduleOf e.group e.schedule →
    IsScheduleOf (sources_lowered timing now asked e.group) e.schedule
fits_sources_lowered timing now asked e h = record {
  exclude_only = h.exclude_only;
  group_sendings = h.group_sendings;
  sources_retransmissions = h.sources_retransmissions ∙
      same_tests (some_source (has_retransmissions e.group) e.group) (some_source (has_retransmissions lowered) lowered)
      (retransmissions_before lowered e.group (λ s had. ap (ltb 0) (same s) ∙ had))
      (retransmissions_before e.group lowered (λ s had. ap (ltb 0) (sym (same s)) ∙ had));
}
  where
    lowered : GroupState
    lowered = sources_lowered timing now asked e.group

    same : (s : ℕ) → retransmissions_of (timer_at lowered s) ≡ retransmissions_of (timer_at e.group s)
    same s = ap retransmissions_of (get-kept (λ s timer. Some (cond (asked s) (source_lowered (lowered_to timing now) timer) timer)) e.group.sources s) ∙
        retransmissions_lowered (lowered_to timing now) (asked s) (timer_at e.group s)

pub held_lowered : (config : Configuration) (timing : Timing) (now : ℕ) (s : Bool) (asked : Option Set) (group : ℕ) (e : ScheduledGroup) →
    IsHeldAs config group e → IsHeldAs config group (record { group = lowered_by_query timing now s asked e.group; schedule = e.schedule })
held_lowered config timing now true asked group e h = h
held_lowered config timing now false None group e h = record {
  admitted = h.admitted;
  held = IsWellFormed-group_lowered timing now e.group h.held;
  fits = fits_lowered_mode (lowered_to timing now) e h.fits;
  source_specific = λ kept_so. let s = h.source_specific kept_so in
      record { include = lowered_include (lowered_to timing now) e.group.mode ∙ s.include; no_v1 = s.no_v1; no_v2 = s.no_v2 };
}
held_lowered config timing now false (Some asked) group e h = record {
  admitted = h.admitted;
  held = IsWellFormed-sources_lowered timing now asked e.group h.held;
  fits = fits_sources_lowered timing now asked e h.fits;
  source_specific = λ kept_so. let s = h.source_specific kept_so in record { include = s.include; no_v1 = s.no_v1; no_v2 = s.no_v2 };
}
