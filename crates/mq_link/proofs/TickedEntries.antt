-- The groups of a link after a tick, and its queries, group by group.
use Rattle.mq_link.proofs.Common.{◌≡◌, ℕ, Bool, true, false, cond, refl, List, [], ◌∷◌, ◌++◌, length, Option, None, Some, sym, ap, ◌∙◌, arith, eqb, and_parts}
use Rattle.mq_link.proofs.Common.{length-map, nat_tests, option_map, option_and_then, flat_map, list_any, Timing, SourceTimer, expired, GroupState, is_vacant}
use Rattle.mq_link.proofs.Common.{is_include, IsHeld, with_entry, kept, some_source, has_retransmissions, get-kept, same_sources, ScheduleState, ScheduledGroup}
use Rattle.mq_link.proofs.Common.{IsScheduleOf, no_schedule, settled, SentQuery, messages_due, after_round, quiet_is_silent, same_round, Family, per_query}
use Rattle.mq_link.proofs.Common.{Groups, group_expired, if_held, moments_of, groups_expired, groups_after_round, queries_due}
use Rattle.std.specs.FinMap as map
use Rattle.mq_link.proofs.{Entries.filtered, Entries.entries-kept, Quiet.AllAbove, Quiet.beyond, Quiet.same_group, PassedEntries.GroupEntries}
use Rattle.mq_link.proofs.{PassedEntries.IsPassed}

-- a group after a tick, and the queries sent for it
abbrev pub ticked_group : Timing → (now : ℕ) → ℕ → ScheduledGroup → Option ScheduledGroup
ticked_group timing now group e = option_map (after_round timing now) (if_held (group_expired now e))

abbrev pub queries_at : (per_query : ℕ) → Timing → (now : ℕ) → ℕ × ScheduledGroup → List SentQuery
queries_at n timing now e = messages_due n timing now e.0 (group_expired now e.1)

-- a group that isn't held after its timers were ended has nothing to send
no_keys : (test : ℕ → Bool) (ks : List ℕ) → length ks ≡ 0 → list_any test ks ≡ false
no_keys test [] none = refl
no_keys test (k ∷ ks) none = absurd (omega arith)

pub vacant_settled : (g : GroupState) (schedule : ScheduleState) → is_vacant g ≡ true → settled g schedule ≡ no_schedule
vacant_settled g schedule vacant =
    let parts = and_parts (is_include g.mode) (eqb (map.len g.sources) 0) vacant in
    let none : length (map.keys g.sources) ≡ 0 = length-map (map.entries g.sources) (λ (e : ℕ × SourceTimer). e.0) ∙ sym (map.len-entries g.sources) ∙
    grind (arith, nat_tests, parts.1) in
    let silent : some_source (has_retransmissions g) g ≡ false = no_keys (has_retransmissions g) (map.keys g.sources) none in
    λ i. record { group_query = cond (parts.0 i) None schedule.group_query; sources_due = cond (silent i) schedule.sources_due None }

module _ (n : ℕ) (timing : Timing) (now : ℕ) where
  vacant_silent : (group : ℕ) (e : ScheduledGroup) → is_vacant (group_expired now e).group ≡ true → messages_due n timing now group (group_expired now e) ≡ []
  vacant_silent group e vacant =
      let g = expired now e.group in
      let none = vacant_settled g e.schedule vacant in
      ap (λ (s : ScheduleState). messages_due n timing now group (record { group = g; schedule = s })) none ∙
      quiet_is_silent n timing now group (record { group = g; schedule = no_schedule }) (record { group = tt; sources = tt })

  sent_of_entries : (es : GroupEntries) → flat_map (λ (e : ℕ × ScheduledGroup). messages_due n timing now e.0 e.1)
      (filtered (λ group e. if_held (group_expired now e)) es) ≡ flat_map (queries_at n timing now) es
  sent_of_entries [] = refl
  sent_of_entries (e ∷ es) = by_test (is_vacant (group_expired now e.1).group) refl (sent_of_entries es)
    where
      by_test : (b : Bool) → is_vacant (group_expired now e.1).group ≡ b
          → flat_map (λ (e : ℕ × ScheduledGroup). messages_due n timing now e.0 e.1) (filtered (λ group e. if_held (group_expired now e)) es)
          ≡ flat_map (queries_at n timing now) es
          → flat_map (λ (e : ℕ × ScheduledGroup). messages_due n timing now e.0 e.1)
          (with_entry e.0 (cond b None (Some (group_expired now e.1))) (filtered (λ group e. if_held (group_expired now e)) es))
          ≡ queries_at n timing now e ++ flat_map (queries_at n timing now) es
      by_test true is rest = rest ∙ ap (λ (qs : List SentQuery). qs ++ flat_map (queries_at n timing now) es) (sym (vacant_silent e.0 e.1 is))
      by_test false is rest = ap (λ (qs : List SentQuery). queries_at n timing now e ++ qs) rest

pub queries_of_entries : (family : Family) (timing : Timing) (now : ℕ) (groups : Groups) → queries_due family timing now (groups_expired now groups)
    ≡ flat_map (queries_at (per_query family) timing now) (map.entries groups)
unfolding queries_due groups_expired
queries_of_entries family timing now groups =
    ap (flat_map (λ (e : ℕ × ScheduledGroup). messages_due (per_query family) timing now e.0 e.1))
    (entries-kept (λ group e. if_held (group_expired now e)) groups)
    ∙ sent_of_entries (per_query family) timing now (map.entries groups)

pub groups_ticked : (timing : Timing) (now : ℕ) (groups : Groups) → groups_after_round timing now (groups_expired now groups)
    ≡ kept (ticked_group timing now) groups
unfolding groups_after_round groups_expired
groups_ticked timing now groups = same_sources _ _ (λ q.
    get-kept (λ group e. Some (after_round timing now e)) (kept (λ group e. if_held (group_expired now e)) groups) q
    ∙ ap (option_and_then (λ e. Some (after_round timing now e))) (get-kept (λ group e. if_held (group_expired now e)) groups q)
    ∙ twice q (map.get groups q)
    ∙ sym (get-kept (ticked_group timing now) groups q))
  where
    once : (e : Option ScheduledGroup) → option_and_then (λ e. Some (after_round timing now e)) e ≡ option_map (after_round timing now) e
    once None = refl
    once (Some e) = refl

    twice : (q : ℕ) (e : Option ScheduledGroup) → option_and_then (λ e. Some (after_round timing now e))
        (option_and_then (λ e. if_held (group_expired now e)) e) ≡ option_and_then (ticked_group timing now q) e
    twice q None = refl
    twice q (Some e) = once (if_held (group_expired now e))

-- a group none of whose moments has come is passed over
pub beyond_passed : (n : ℕ) (timing : Timing) (now group : ℕ) (e : ScheduledGroup) → IsHeld e.group → IsScheduleOf e.group e.schedule →
    AllAbove now (moments_of e) → IsPassed (ticked_group timing now) (queries_at n timing now) (group, e)
beyond_passed n timing now group e held fits above =
    let later = beyond now e above in
    let same = same_group now e held fits later in
    let is = unheld_or_same e (group_expired now e) same in
    record {
      stays = ap (option_map (after_round timing now)) same ∙ ap Some (same_round timing now e later.schedule);
      silent = ap (messages_due n timing now group) is ∙ quiet_is_silent n timing now group e later.schedule;
    }
  where
    by_test : (e f : ScheduledGroup) (b : Bool) → cond b None (Some f) ≡ Some e → f ≡ e
    by_test e f true same = cc
    by_test e f false same = cc

    unheld_or_same : (e f : ScheduledGroup) → if_held f ≡ Some e → f ≡ e
    unheld_or_same e f same = by_test e f (is_vacant f.group) same
