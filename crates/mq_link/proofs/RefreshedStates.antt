-- The outcome of a record that is heard again for a group without due queries.
use Rattle.mq_link.proofs.Common.{◌≡◌, ℕ, ◌+◌, ◌-◌, ◌*◌, ◌/◌, ◌≤◌, Bool, true, false, cond, not, List, [], Option, None, Some, is_some, refl, sym, ap}
use Rattle.mq_link.proofs.Common.{◌∙◌, subst}
use Rattle.mq_link.proofs.Common.{arith, nat_cmp, eq_by_cmp, nat_cmp_total, list_any, true≢false, and_right, Kind, IsIn, Allow, Timing, Include}
use Rattle.mq_link.proofs.Common.{SourceTimer}
use Rattle.mq_link.proofs.Common.{Running, GroupState, is_include, is_vacant, is_stopped, retransmissions_of, timer_at, IsHeld, translated_change}
use Rattle.mq_link.proofs.Common.{has_retransmissions}
use Rattle.mq_link.proofs.Common.{NamedSources, change_of, membership_interval, IsQuietAt, ScheduleState, ScheduledGroup, is_querier, after_round}
use Rattle.mq_link.proofs.Common.{quiet_is_silent, same_round, has_each, restarted_each, ties, IsWellFormed-restarted_each, timer-restarted_each}
use Rattle.mq_link.proofs.Common.{Limits}
use Rattle.mq_link.proofs.Common.{Configuration, Applied, per_query, v1_mutes_leave, RecordOf, Setting, Outcome, asking_nothing, is_muted}
use Rattle.mq_link.proofs.Common.{limit_passed, stated}
use Rattle.mq_link.proofs.Common.{restarts, AreSound, put_by_rows, one_if, running_in, unheld, HeldState, unwrap_or}
use Rattle.mq_link.proofs.{HeldAs.is_from, KeptGroups.group_found, Quiet.not_vacant, RefreshedEach.group-restarted_each}
use Rattle.mq_link.proofs.{RefreshedEach.schedule-restarted_each}
use Rattle.mq_link.proofs.{RefreshedEach.retransmissions-restarted_each, RefreshedEach.size-restarted_each, RefreshedGroups.after-nothing}
use Rattle.mq_link.proofs.{RefreshedGroups.changes-to}
use Rattle.mq_link.proofs.{StatedSteps.IsChanged, StatedSteps.stated_judged, UnpassedLimits.passes_none_within, PaidEdits.sources_set}
use Rattle.mq_link.proofs.{PaidEdits.running_set}
use Rattle.std.specs.FinMap as map
use Rattle.std.specs.FinSet as set
use Rattle.mq_link.specs.State.{AreWithin, Groups, IsHeldAs, group_at, is_source_specific, schedules_of, sources_in, sources_of, with_group}
use Rattle.std.specs.Prelude.{min, IfSome, MatchOption, OnSome}

-- such a record is muted nowhere
unmuted : (config : Configuration) (group : ℕ) (kind : Kind) (named : NamedSources) → restarts kind ≡ true → is_muted config group (RecordOf kind named) ≡ false
unmuted config group IsIn named is = and_right (is_source_specific config group) false refl
unmuted config group Allow named is = and_right (is_source_specific config group) false refl
unmuted config group _ named is = absurd (true≢false (sym is))

untranslated : (mutes : Bool) (timing : Timing) (now : ℕ) (g : GroupState) (kind : Kind) (named : NamedSources) → restarts kind ≡ true →
    translated_change mutes false timing now g kind named ≡ Some (change_of timing now g kind named)
untranslated mutes timing now g IsIn named is = refl
untranslated mutes timing now g Allow named is = refl
untranslated mutes timing now g _ named is = absurd (true≢false (sym is))

-- no limit is passed where the sources are few enough and the schedules stay
pub passes_none : (limits : Limits) (groups : Groups) (a : ℕ) (e : ScheduledGroup) → AreWithin limits groups → map.contains_key groups a ≡ true →
    is_vacant e.group ≡ false → sources_of e ≤ limits.group_sources → sources_in groups + sources_of e ≤ limits.sources + sources_of (group_at groups a) →
    schedules_of e ≡ schedules_of (group_at groups a)
    → limit_passed limits (with_group groups a e) e ≡ None
passes_none limits groups a e within held other own size schedules = let d = within.scheduled in
    passes_none_within limits groups a e within held other own size (omega (arith, schedules, d))

-- A record of a group that is held and for which nothing is due, where the change leaves the mode and the
-- retransmissions, and no limit is passed.
module _ (at : Setting) (a : ℕ) (kind : Kind) (named : NamedSources) (groups : Groups) (is : restarts kind ≡ true) (sound : AreSound at groups)
    (held : map.contains_key groups a ≡ true) (quiet : IsQuietAt at.now (group_at groups a).schedule) where
  abbrev pub before : ScheduledGroup
  before = group_at groups a

  pub held_as : IsHeldAs at.config a before
  held_as = sound.all a before (group_found groups a held)

  pub no_stopped : before.group.mode ≡ Include → (s : ℕ) → is_stopped (timer_at before.group s) ≡ false
  no_stopped = let formed = held_as.held in formed.none_stopped

  -- the outcome of such a change
  comes_to : (after : ScheduledGroup) → change_of at.election.timing at.now before.group kind named ≡ asking_nothing after.group →
      after.schedule ≡ before.schedule → after.group.mode ≡ before.group.mode
      → ((s : ℕ) → has_retransmissions after.group s ≡ has_retransmissions before.group s) → sources_of after ≤ at.config.limits.group_sources
      → sources_in groups + sources_of after ≤ at.config.limits.sources + sources_of before → IsHeld after.group
      → stated at a (RecordOf kind named) groups ≡ record { verdict = Applied; groups = with_group groups a after; queries = [] }
  comes_to after change schedule mode retransmissions own size formed =
      stated_judged at a (RecordOf kind named) groups before (asking_nothing after.group) after None did
      ∙ (λ i. let o : Outcome =
      record {
        verdict = Applied;
        groups = with_group groups a (round i);
        queries =
            quiet_is_silent (per_query at.config.family) at.election.timing at.now a after quiet_then i;
      } in o)
    where
      quiet_then : IsQuietAt at.now after.schedule
      quiet_then = subst (IsQuietAt at.now) (sym schedule) quiet

      round : after_round at.election.timing at.now after ≡ after
      round = same_round at.election.timing at.now after quiet_then

      did : IsChanged at a (RecordOf kind named) groups before (asking_nothing after.group) after None
      did = record {
        before_is = refl;
        change_is =
            ap (λ m. translated_change (v1_mutes_leave at.config.family) m at.election.timing at.now before.group kind named)
            (unmuted at.config a kind named is)
            ∙ untranslated (v1_mutes_leave at.config.family) at.election.timing at.now before.group kind named is
            ∙ ap Some change;
        asked_is =
            (λ i. let e : ScheduledGroup = record { group = after.group; schedule = schedule i } in e)
            ∙ sym (after-nothing at.election.timing at.now before.group after.group before.schedule held_as.fits mode retransmissions
            (is_querier at.election.role));
        passed_is =
            sym (passes_none at.config.limits groups a after sound.within held (not_vacant after.group formed) own size
            (ap (λ (s : ScheduleState). schedules_of (record { group = after.group; schedule = s })) schedule))
            ∙ (λ i. limit_passed at.config.limits (with_group groups a (sym round i)) (sym round i));
      }

  -- where the limits have room for the sources that are named
  pub stated-set : (sources : List ℕ) → ((s : ℕ) → set.contains named s ≡ list_any (eq_by_cmp nat_cmp s) sources)
      → (let after = restarted_each (at.now + membership_interval at.election.timing) sources before in
      sources_of after ≤ at.config.limits.group_sources → sources_in groups + sources_of after ≤ at.config.limits.sources + sources_of before
      → stated at a (RecordOf kind named) groups ≡ record { verdict = Applied; groups = with_group groups a after; queries = [] })
  stated-set sources names own size =
      let deadline = at.now + membership_interval at.election.timing in
      let after = restarted_each deadline sources before in
      let timer : ℕ → Option SourceTimer = λ s. Some (Running deadline (retransmissions_of (timer_at before.group s))) in
      let group = group-restarted_each deadline sources before in
      let change =
      changes-to at.election.timing at.now before.group kind named is no_stopped after.group.sources
      (λ s. ap (λ b. cond b (timer s) (timer_at before.group s)) (names s) ∙ sym (timer-restarted_each deadline sources before s))
      ∙ ap asking_nothing (sym group) in
      comes_to after change (schedule-restarted_each deadline sources before) (ap (λ (g : GroupState). g.mode) group)
      (retransmissions-restarted_each deadline sources before) own size (IsWellFormed-restarted_each deadline sources before held_as.held)

  -- where the group has each source that is named
  pub stated-each : (sources : List ℕ) → ((s : ℕ) → set.contains named s ≡ list_any (eq_by_cmp nat_cmp s) sources) → has_each sources before ≡ true
      → (let deadline = at.now + membership_interval at.election.timing in stated at a (RecordOf kind named) groups
      ≡ record { verdict = Applied; groups = with_group groups a (restarted_each deadline sources before); queries = [] })
  stated-each sources names all =
      let size = size-restarted_each (at.now + membership_interval at.election.timing) sources before all in
      let own = sound.within.group_sources a in
      let in_all = sound.within.sources in
      stated-set sources names (omega (arith, size, own)) (omega (arith, size, in_all))

-- a group that is put where it is held
pub put_is : (groups : Groups) (a : ℕ) (e : ScheduledGroup) → IsHeld e.group → with_group groups a e ≡ map.insert groups a e
put_is groups a e formed = ap (λ b. cond b (map.remove groups a) (map.insert groups a e)) (not_vacant e.group formed)

pub group_put : (groups : Groups) (a : ℕ) (e : ScheduledGroup) → group_at (map.insert groups a e) a ≡ e
group_put groups a e = ap (λ (x : Option ScheduledGroup). unwrap_or x unheld)
    (map.get-insert nat_cmp_total groups a e a ∙ ap (λ b. cond b (Some e) (map.get groups a)) (ties a a refl))

-- the moves put by stay if the new group is as large
pub put_by_same : (s after : HeldState) (a : ℕ) (e : ScheduledGroup) → after ≡ record s { groups = map.insert s.groups a e } →
    sources_of e ≡ sources_of (group_at s.groups a) → IsHeld e.group → IsHeld (group_at s.groups a).group → put_by_rows after ≡ put_by_rows s
put_by_same s after a e is size formed was =
    let sources = sources_set s.groups a e in
    let running = running_set s.groups a e in
    let now_runs = ap (λ b. one_if (not b)) (not_vacant e.group formed) in
    let did_run = ap (λ b. one_if (not b)) (not_vacant (group_at s.groups a).group was) in
    let total : sources_in (map.insert s.groups a e) ≡ sources_in s.groups = omega (arith, sources, size) in
    let moments : running_in (map.insert s.groups a e) ≡ running_in s.groups = omega (arith, running, now_runs, did_run) in
    ap put_by_rows is ∙ (λ i. min (4 * ((s.source_room / 4 + s.order.room) - s.ahead)) (total i + moments i))

-- no source of a group of INCLUDE is stopped, whether the group is held or not
pub none_is_stopped : (at : Setting) (a : ℕ) (groups : Groups) (e : ScheduledGroup) → e ≡ group_at groups a → AreSound at groups →
    is_include e.group.mode ≡ true → (s : ℕ) → is_stopped (timer_at e.group s) ≡ false
none_is_stopped at a groups e is sound include s = by_found (map.get groups a) refl
  where
    by_found : (x : Option ScheduledGroup) → map.get groups a ≡ x → is_stopped (timer_at e.group s) ≡ false
    by_found None none =
        ap (λ (e : ScheduledGroup). is_stopped (timer_at e.group s)) (is ∙ ap (λ (x : Option ScheduledGroup). unwrap_or x unheld) none)
        ∙ ap is_stopped (map.get-empty nat_cmp s)
    by_found (Some x) found =
        let same : e ≡ x = is ∙ ap (λ (x : Option ScheduledGroup). unwrap_or x unheld) found in
        let h = sound.all a x found in
        let formed = h.held in
        ap (λ (e : ScheduledGroup). is_stopped (timer_at e.group s)) same ∙
        formed.none_stopped (is_from x.group.mode (sym (ap (λ (e : ScheduledGroup). is_include e.group.mode) same) ∙ include)) s

-- a fact by the case of an option
pub on_some : {X P : Type 0} (r : Option X) → (is_some r ≡ true → P) → OnSome r P
on_some None there = tt
on_some (Some x) there = there refl

pub if_some : {X : Type 0} (P : X → Type 0) (r : Option X) → ((x : X) → r ≡ Some x → P x) → IfSome r P
if_some P None each = tt
if_some P (Some x) each = each x refl

pub by_option : {X P : Type 0} (r : Option X) → (r ≡ None → P) → ((x : X) → r ≡ Some x → P) → P
by_option None none some = none refl
by_option (Some x) none some = some x refl

pub match_option : {X P Q : Type 0} (r : Option X) → (r ≡ None → P) → ((x : X) → r ≡ Some x → Q) → MatchOption r P (λ _. Q)
match_option None none some = none refl
match_option (Some x) none some = some x refl

pub match_map : {X A B P Q : Type 0} (r : Option X) → MatchOption r A (λ _. B) → (A → P) → (B → Q) → MatchOption r P (λ _. Q)
match_map None is none some = none is
match_map (Some x) is none some = some is

pub on_some_map : {X P Q : Type 0} (r : Option X) → OnSome r P → (P → Q) → OnSome r Q
on_some_map None is each = tt
on_some_map (Some x) is each = each is
