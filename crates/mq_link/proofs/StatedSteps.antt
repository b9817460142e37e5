-- The outcome of a statement, step by step, by the work on its group.
use Rattle.mq_link.proofs.Common.{◌≡◌, ℕ, ◌+◌, ◌<◌, ◌≤◌, Bool, true, false, Option, None, Some, IfSome, List, length, sym, ap, ◌∙◌, subst, arith, set_of}
use Rattle.mq_link.proofs.Common.{sources-with_group, Timing, GroupState, is_vacant, IsHeld, size_of, named_in, GroupChange, ScheduleState, ScheduledGroup}
use Rattle.mq_link.proofs.Common.{settled, is_querier, after_change, after_round, Refusal, StatementKind, statement_of, change_written, Ignored, is_admitted}
use Rattle.mq_link.proofs.Common.{v1_mutes_leave, Statement, Setting, Outcome, leaving, unless_passed, changed_by, after_sending, sent_at_once}
use Rattle.mq_link.proofs.Common.{changed_or_refused, change_in, change_stated, is_muted, limit_passed, stated, AreSound}
use Rattle.std.specs.FinMap as map
use Rattle.mq_link.specs.State.{Groups, group_at, with_group, sources_of, sources_in}
use Rattle.mq_link.proofs.{ChangedSizes.stated_few, HeldStays.held_stated, HeldStays.stays_held, Recorded.IsReady, Recorded.ready, Recorded.stated_soundly}
use Rattle.mq_link.proofs.{Recorded.sound_after, Recorded.stated_leaves, Recorded.acted_size, Recorded.IsSound}

-- The work on a group: the change, the sources that it asks for, and the test of the group that it would leave.
pub record IsChanged (at : Setting) (group : ℕ) (st : Statement) (groups : Groups) (before : ScheduledGroup) (change : GroupChange)
    (asked : ScheduledGroup) (passed : Option Refusal) : Type 0 where
  pub before_is : before ≡ group_at groups group
  pub change_is : change_stated (v1_mutes_leave at.config.family) (is_muted at.config group st) at.election.timing at.now st before.group ≡ Some change
  pub asked_is : asked ≡ after_change (is_querier at.election.role) at.election.timing at.now change before.schedule
  pub passed_is : passed ≡ limit_passed at.config.limits (with_group groups group (after_round at.election.timing at.now asked))
      (after_round at.election.timing at.now asked)

pub stated_ignored : (at : Setting) (group : ℕ) (st : Statement) (groups : Groups) (before : ScheduledGroup) → before ≡ group_at groups group
    → change_stated (v1_mutes_leave at.config.family) (is_muted at.config group st) at.election.timing at.now st before.group ≡ None
    → stated at group st groups ≡ leaving groups Ignored
unfolding stated
stated_ignored at group st groups before before_is none =
    ap (changed_or_refused at group groups)
    (ap (λ (e : ScheduledGroup). change_stated (v1_mutes_leave at.config.family) (is_muted at.config group st) at.election.timing at.now st e.group)
    (sym before_is) ∙ none)

module _ (at : Setting) (group : ℕ) (st : Statement) (groups : Groups) (before : ScheduledGroup) (change : GroupChange) (asked : ScheduledGroup)
    (passed : Option Refusal) (did : IsChanged at group st groups before change asked passed) where
  found_change : change_in at group st groups ≡ Some change
  found_change = ap (λ (e : ScheduledGroup). change_stated (v1_mutes_leave at.config.family)
      (is_muted at.config group st) at.election.timing at.now st e.group) (sym did.before_is) ∙ did.change_is

  asked_by : changed_by at group groups change ≡ asked
  asked_by = ap (λ (e : ScheduledGroup). after_change (is_querier at.election.role) at.election.timing at.now change e.schedule) (sym did.before_is) ∙
      sym did.asked_is

  pub stated_judged : stated at group st groups ≡ unless_passed passed groups (with_group groups group (after_sending at asked)) (sent_at_once at group asked)
  unfolding stated
  stated_judged =
      ap (changed_or_refused at group groups) found_change
      ∙ ap (λ e. unless_passed (limit_passed at.config.limits (with_group groups group (after_sending at e)) (after_sending at e)) groups
      (with_group groups group (after_sending at e)) (sent_at_once at group e)) asked_by
      ∙ ap (λ p. unless_passed p groups (with_group groups group (after_sending at asked)) (sent_at_once at group asked)) (sym did.passed_is)

  sound_change : AreSound at groups → IsSound at.config group before.schedule change
  sound_change sound = subst (λ c. IfSome c (IsSound at.config group before.schedule)) did.change_is
      (stated_soundly at.config group (v1_mutes_leave at.config.family) at.election.timing at.now st before
      (subst (λ e. IsReady at.config group e) (sym did.before_is) (ready at.config groups group sound.all)))

  -- a kept group may be held
  pub kept_is_held : 0 < at.election.timing.robustness → is_admitted at.config.family group ≡ true → AreSound at groups → (left : ScheduledGroup) →
      left ≡ after_round at.election.timing at.now asked → is_vacant left.group ≡ false → IsHeld left.group
  kept_is_held positive admitted sound left is not_vacant =
      let held = sound_after at.config group (is_querier at.election.role) at.election.timing at.now change before.schedule positive admitted
      (sound_change sound) in
      let left_is : left ≡ after_round at.election.timing at.now
      (after_change (is_querier at.election.role) at.election.timing at.now change before.schedule) = is ∙
      ap (after_round at.election.timing at.now) did.asked_is in
      subst (λ (e : ScheduledGroup). is_vacant e.group ≡ false → IsHeld e.group) (sym left_is) (λ v. (held v).held) not_vacant

  -- a group held before stays
  pub kept_stays : (left : ScheduledGroup) → left ≡ after_round at.election.timing at.now asked → IsHeld before.group → is_vacant left.group ≡ false
  kept_stays left is held =
      let changed_held = subst (λ c. IfSome c (λ (c : GroupChange). IsHeld c.group)) did.change_is
      (held_stated (v1_mutes_leave at.config.family) (is_muted at.config group st) at.election.timing at.now st before.group held) in
      let left_is : left ≡ after_round at.election.timing at.now
      (after_change (is_querier at.election.role) at.election.timing at.now change before.schedule) = is ∙
      ap (after_round at.election.timing at.now) did.asked_is in
      ap (λ (e : ScheduledGroup). is_vacant e.group) left_is ∙
      stays_held (is_querier at.election.role) at.election.timing at.now change before.schedule changed_held

  module _ (positive : 0 < at.election.timing.robustness) (admitted : is_admitted at.config.family group ≡ true) (sound : AreSound at groups)
      (none : passed ≡ None) where
    left_sound : AreSound at (with_group groups group (after_sending at asked))
    left_sound = subst (λ (o : Outcome). AreSound at o.groups)
        (stated_judged ∙ ap (λ p. unless_passed p groups (with_group groups group (after_sending at asked)) (sent_at_once at group asked)) none)
        (stated_leaves at group st groups positive admitted sound)

    pub left_has_place : map.len (with_group groups group (after_sending at asked)) ≤ at.config.limits.groups
    left_has_place = left_sound.within.group_count

    pub left_has_room : sources_in groups + sources_of (after_sending at asked) ≤ at.config.limits.sources + sources_of (group_at groups group)
    left_has_room =
        let most = left_sound.within.sources in
        let sums = sources-with_group groups group (after_sending at asked) in
        omega (arith, most, sums)

-- asking adds no source
pub asked_few : (q : Bool) (timing : Timing) (now : ℕ) (change : GroupChange) (schedule : ScheduleState) (asked : ScheduledGroup) →
    asked ≡ after_change q timing now change schedule → size_of asked.group ≤ size_of change.group
asked_few q timing now change schedule asked is =
    let few = acted_size q timing now change.query_group change.query (record { group = change.group; schedule = settled change.group schedule }) in
    let same = ap (λ (e : ScheduledGroup). size_of e.group) is in
    omega (arith, few, same)

-- the sizes of a group after the steps of a statement
pub record AreFew (old new after named : ℕ) : Type 0 where
  pub changed : new ≤ old + named
  pub asked : after ≤ new

pub made_few : {K : Type 0} (number : K → ℕ) (mutes muted : Bool) (timing : Timing) (now : ℕ) (said : StatementKind) (addresses : List K)
    (before : ScheduledGroup) (into : GroupState) (items : List K) (asks : Option Bool) (asks_group : Bool) (q : Bool) (asked : ScheduledGroup)
    → change_stated mutes muted timing now (statement_of said (named_in number addresses)) before.group ≡ change_written number into items asks →
    asks ≡ Some asks_group
    → asked ≡ after_change q timing now (record { group = into; query = set_of number items; query_group = asks_group }) before.schedule
    → AreFew (size_of before.group) (size_of into) (size_of asked.group) (length addresses)
made_few number mutes muted timing now said addresses before into items asks asks_group q asked changes some asked_is = record {
  changed = subst (λ x. IfSome x (λ c. size_of c.group ≤ size_of before.group + length addresses))
      (changes ∙ ap (change_written number into items) some) (stated_few number mutes muted timing now said addresses before.group);
  asked = asked_few q timing now (record { group = into; query = set_of number items; query_group = asks_group }) before.schedule asked asked_is;
}
