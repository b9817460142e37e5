-- A BLOCK done in place: it has the outcome of the model and replaces one group. It
-- doesn't change what is forwarded of that group.
use Rattle.mq_link.proofs.Common.{◌≡◌, ℕ, ◌||◌, true, false, List, [], ◌∷◌, is_some, length, refl, sym, ap, ◌∙◌, subst, true≢false, set_of, is_include}
use Rattle.mq_link.proofs.Common.{timer_at, ∅, Set, named_in, NamedSources, is_querier, IsQuietAt, ScheduledGroup, SentQuery, acted, after_round, messages_due}
use Rattle.mq_link.proofs.Common.{Sends, quiet_by, quiet_is_silent, same_round, group_at, HeldState, insert-same, StatementKind, CanBlock, is_block}
use Rattle.mq_link.proofs.Common.{statement_of, Applied, per_query, changes, Setting, stated, HasOutcome, AreSound, Groups, with_group, put_by_rows}
use Rattle.std.specs.FinMap as map
use Rattle.std.specs.FinSet as set
use Rattle.mq_link.proofs.{BlockedStates.filter-block, BlockedStates.formed, BlockedStates.held_as, BlockedStates.one_named, BlockedStates.one_there}
use Rattle.mq_link.proofs.{BlockedStates.outcome-block, BlockedStates.said_is, BlockedStates.size_kept, BlockedStates.unasked, KeptGroups.group_found}
use Rattle.mq_link.proofs.{OneNamed.names-none, RefreshedStates.put_by_same, RefreshedStates.put_is}

-- a group with some sources asked for, once the due queries are sent
abbrev pub asked_of : Setting → Set → ScheduledGroup → ScheduledGroup
asked_of at asked e = acted (is_querier at.election.role) at.election.timing at.now false asked e

abbrev pub after_of : Setting → Set → ScheduledGroup → ScheduledGroup
after_of at asked e = after_round at.election.timing at.now (asked_of at asked e)

-- the groups, with some sources of one asked for
abbrev pub held_of : Setting → ℕ → Set → HeldState → HeldState
held_of at a asked held = record held { groups = map.insert held.groups a (after_of at asked (group_at held.groups a)) }

-- the queries sent then
abbrev pub due_of : Setting → ℕ → Set → HeldState → List SentQuery
due_of at a asked held = messages_due (per_query at.config.family) at.election.timing at.now a (asked_of at asked (group_at held.groups a))

-- a statement of a group is done: `next` has the groups then, and `new` what the sink then took
pub record IsDone {S : Type 0} (takes : S → SentQuery → S → Type 0) (at : Setting) (a : ℕ) (said : StatementKind) (named : NamedSources)
    (groups next : Groups) (old new : S) : Type 0 where
  pub outcome : HasOutcome takes (stated at a (statement_of said named) groups) Applied next old new
  pub left : (e : ScheduledGroup) × (next ≡ with_group groups a e)
  pub stays : changes groups next a ≡ false

-- `between` has the groups that `held` has.
module _ {K S : Type 0} (number : K → ℕ) (takes : S → SentQuery → S → Type 0) (at : Setting) (a : ℕ) (said : StatementKind) (names : List K)
    (held between : HeldState) (sound : AreSound at held.groups) (can : CanBlock at a (length names) held.groups) (block : is_block said ≡ true)
    (same : between ≡ held) where
  quiet : IsQuietAt at.now (group_at held.groups a).schedule
  quiet = quiet_by at.now (group_at held.groups a).schedule can.quiet

  abbrev HasEach : Set → Type 0
  HasEach asked = (s : ℕ) → asked s ≡ true → (is_include (group_at held.groups a).group.mode || is_some (timer_at (group_at held.groups a).group s)) ≡ true

  done_by : (asked : Set) → ((s : ℕ) → set.contains (named_in number names) s ≡ asked s) → HasEach asked → (next : Groups) (old new : S) →
      next ≡ map.insert held.groups a (after_of at asked (group_at held.groups a)) → Sends takes old (due_of at a asked held) new →
      IsDone takes at a said (named_in number names) held.groups next old new
  done_by asked is there next old new kept sends =
      let named = named_in number names in
      let put = kept ∙ sym
      (put_is held.groups a (after_of at asked (group_at held.groups a))
      (formed at a named held.groups sound can.held quiet can.unmuted can.left asked is there)) in
      record {
        outcome = subst (λ (kind : StatementKind). HasOutcome takes (stated at a (statement_of kind named) held.groups) Applied next old new)
            (sym (said_is said block))
            (outcome-block at a named held.groups sound can.held quiet can.unmuted can.left asked is there takes next old new kept sends);
        left = (after_of at asked (group_at held.groups a), put);
        stays = filter-block at a named held.groups sound can.held quiet can.unmuted can.left asked is there next put;
      }

  -- it names no source: nothing is asked for
  pub done_unnamed : names ≡ [] → (sink : S) → IsDone takes at a said (named_in number names) held.groups between.groups sink sink
  done_unnamed none sink =
      let e = group_at held.groups a in
      let nothing = unasked at a held.groups sound can.held in
      let stays = ap (after_round at.election.timing at.now) nothing ∙ same_round at.election.timing at.now e quiet in
      let kept = ap (λ (h : HeldState). h.groups) same ∙ sym (insert-same held.groups a e (group_found held.groups a can.held)) ∙
      ap (map.insert held.groups a) (sym stays) in
      let silent = ap (messages_due (per_query at.config.family) at.election.timing at.now a) nothing ∙
      quiet_is_silent (per_query at.config.family) at.election.timing at.now a e quiet in
      done_by ∅ (names-none number names none) (λ s no. absurd (true≢false (sym no))) between.groups sink sink kept
      (subst (λ queries. Sends takes sink queries sink) (sym silent) refl)

  -- it names one source, that the group has or, in INCLUDE, hasn't: that one is asked for
  module _ (x : K) (list : names ≡ x ∷ [])
      (there : (is_include (group_at held.groups a).group.mode || is_some (timer_at (group_at held.groups a).group (number x))) ≡ true)
      (next : HeldState) (left : next ≡ held_of at a (set_of (λ s. s) (number x ∷ [])) between) where
    abbrev asked : Set
    asked = set_of (λ s. s) (number x ∷ [])

    stored : next ≡ held_of at a asked held
    stored = left ∙ (λ i. held_of at a asked (same i))

    pub done_named : (old new : S) → Sends takes old (due_of at a asked between) new →
        IsDone takes at a said (named_in number names) held.groups next.groups old new
    done_named old new sent =
        done_by asked (one_named number names x list) (one_there (group_at held.groups a) (number x) there) next.groups old new
        (ap (λ (h : HeldState). h.groups) stored) (subst (λ queries. Sends takes old queries new) (λ i. due_of at a asked (same i)) sent)

    pub rows_named : put_by_rows next ≡ put_by_rows held
    rows_named =
        let named = named_in number names in
        let is = one_named number names x list in
        let each = one_there (group_at held.groups a) (number x) there in
        let before = held_as at a named held.groups sound can.held quiet can.unmuted can.left asked is each in
        put_by_same held next a (after_of at asked (group_at held.groups a)) stored
        (size_kept at a named held.groups sound can.held quiet can.unmuted can.left asked is each)
        (formed at a named held.groups sound can.held quiet can.unmuted can.left asked is each)
        before.held
