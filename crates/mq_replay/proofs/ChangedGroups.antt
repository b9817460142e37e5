-- The groups that an event changes: only those held before it, and those that its datagram names. So those of these that
-- the link lists are all that it lists.
use Rattle.mq_replay.proofs.Common.{◌≡◌, ℕ, ◌<◌, Bool, true, false, cond, ◌||◌, List, [], ◌∷◌, ◌++◌, Option, None, Some, Result, Ok, Err, refl, sym, ap, ◌∙◌}
use Rattle.mq_replay.proofs.Common.{arith, filter, list_map, list_any, unwrap_or, nat_tests, IsAscending, IsAscending-map, ScheduledGroup, Groups, group_at}
use Rattle.mq_replay.proofs.Common.{unheld, key_of, AQuery, WireFault, Configuration, AreThose, changed_by_datagram, changed_by_tick, Envelope, LinkState}
use Rattle.mq_replay.proofs.Common.{tick_of, absent_unheld, Datagram, changed_at, those_among}
use Rattle.std.proofs.{Common.◌&&◌, Common.◌==◌, Common.is_some, lemmas.Bool.true≢false, lemmas.List.Folds.list_any-append, lemmas.List.Kept.AllPairs-filter}
use Rattle.std.specs.{Option.option_and_then, Ordering.nat_cmp, Ordering.eq_by_cmp, Cmp.nat_cmp_total}
use Rattle.mq_sets.{specs.Ascending.set_of, proofs.KnownBySet.known_by_set}
use Rattle.mq_table.specs.{declared.kind.Kind.Kind, declared.timing.Timing.Timing, Filter.changes_filter, Table.GroupChange}
use Rattle.mq_table.proofs.Maps.{get-kept}
use Rattle.mq_held.{specs.Groups.with_group, proofs.Sorted.ascending-sorted}
use Rattle.mq_wire.specs.declared.records.RecordView.{RecordView}
use Rattle.mq_wire.specs.declared.message.Message.{Message, TheVariants.OldReport, TheVariants.Leave, TheVariants.Report as AReport}
use Rattle.mq_link.specs.declared.answers.{DropReason.DropReason, Refusal.Refusal, Refusal.TheVariants.Repeated}
use Rattle.mq_link.specs.{Counters.Refused, Forwarding.changed_by_all, Forwarding.changed_by_read, Forwarding.changes, Record.unless_passed}
use Rattle.mq_link.specs.{Receive.drop_reason, Receive.pseudo_of, Receive.read_of, Receive.setting_of, Tick.groups_after_round, Tick.groups_expired}
use Rattle.mq_link.specs.Record.{Entrance, Stops, GoesOn, Seen, Setting, Statement, RecordOf, after_sending, change_in, changed_by, changed_or_refused}
use Rattle.mq_link.specs.Record.{entrance, is_repeated, judged, judged_from, leaving, limit_passed, seen_after, sent_at_once, stated, stated_alone}
use Rattle.mq_link.proofs.{ChangedRecords.other_then, KeptFilters.unchanged, KeptGroups.group_absent, StatedAlone.alone_by}
use Rattle.mq_replay.specs.Report.{in_order, spoken_of}
use Rattle.std.specs.FinMap as map
use Rattle.std.specs.FinSet as set

-- the test of a number for a list
abbrev pub is_among : List ℕ → ℕ → Bool
is_among ns n = list_any (eq_by_cmp nat_cmp n) ns

abbrev paired : ℕ → ℕ × ℕ
paired n = (n, n)

-- Some numbers in order ascend, and are those.
ascending-in_order : (ns : List ℕ) → IsAscending (λ a. a) (in_order ns)
ascending-in_order ns =
    let m = map.from_entries {R = nat_cmp} (list_map paired ns) in
    IsAscending-map (λ a. a) key_of (map.entries m) (ascending-sorted (map.entries m) (map.entries_sorted m))

by_number : (n : ℕ) (ns : List ℕ) → set_of (λ a. a) ns n ≡ is_among ns n
by_number n [] = refl
by_number n (x ∷ ns) = let alike : (x == n) ≡ eq_by_cmp nat_cmp n x = grind (arith, nat_tests) in λ i. alike i || by_number n ns i

found : (n : ℕ) (ns : List ℕ) → is_some (map.find nat_cmp n (list_map paired ns)) ≡ is_among ns n
found n [] = refl
found n (x ∷ ns) = by_test (eq_by_cmp nat_cmp n x) (found n ns)
  where
    by_test : (b : Bool) → is_some (map.find nat_cmp n (list_map paired ns)) ≡ is_among ns n →
        is_some (cond b (Some x) (map.find nat_cmp n (list_map paired ns))) ≡ (b || is_among ns n)
    by_test true rest = refl
    by_test false rest = rest

set_of-in_order : (ns : List ℕ) (n : ℕ) → set_of (λ a. a) (in_order ns) n ≡ is_among ns n
set_of-in_order ns n =
    let m = map.from_entries {R = nat_cmp} (list_map paired ns) in
    by_number n (map.keys m) ∙ sym (map.contains_key-keys m n) ∙ ap is_some (map.get-from_entries nat_cmp_total (list_map paired ns) n) ∙ found n ns

-- those among some that pass a test
module _ (test : ℕ → Bool) (n : ℕ) where
  abbrev has : List ℕ → Bool
  has xs = set_of (λ a. a) xs n

  is_n : (x : ℕ) → (x == n) ≡ true → x ≡ n
  is_n x same = grind (arith, nat_tests)

  and_false : (b : Bool) → false ≡ (b && false)
  and_false true = refl
  and_false false = refl

  one_kept : (x : ℕ) (xs : List ℕ) (passes ties : Bool) → test x ≡ passes → (x == n) ≡ ties → has (filter test xs) ≡ (test n && has xs)
      → has (cond passes (x ∷ filter test xs) (filter test xs)) ≡ (test n && (ties || has xs))
  one_kept x xs true true is same rest = (λ i. same i || has (filter test xs)) ∙ (λ i. (sym is ∙ ap test (is_n x same)) i && true)
  one_kept x xs true false is differs rest = (λ i. differs i || has (filter test xs)) ∙ rest
  one_kept x xs false true is same rest = rest ∙ (λ i. (sym (ap test (is_n x same)) ∙ is) i && has xs) ∙ (λ i. (sym is ∙ ap test (is_n x same)) i && true)
  one_kept x xs false false is differs rest = rest

  has-filter : (xs : List ℕ) → has (filter test xs) ≡ (test n && has xs)
  has-filter [] = and_false (test n)
  has-filter (x ∷ xs) = one_kept x xs (test x) (x == n) refl refl (has-filter xs)

passed : (passes is : Bool) → (passes ≡ true → is ≡ true) → (passes && is) ≡ passes
passed true is given = given refl
passed false is given = refl

-- where each that passes is among some, those among these that pass are all that pass
pub are_those : (test : ℕ → Bool) (addresses listed : List ℕ) → ((n : ℕ) → test n ≡ true → is_among addresses n ≡ true) → AreThose test listed →
    those_among test addresses ≡ listed
are_those test addresses listed given those =
    known_by_set (λ a. a) (λ a b same. same) _ listed (AllPairs-filter (λ (x y : ℕ). x < y) test (in_order addresses) (ascending-in_order addresses))
    those.ascending (λ n. has-filter test n (in_order addresses) ∙ ap (λ b. test n && b) (set_of-in_order addresses n) ∙
    passed (test n) (is_among addresses n) (given n) ∙ sym (those.each n))

-- A tick changes only groups that are held.
absent_after : (timing : Timing) (now : ℕ) (groups : Groups) (address : ℕ) → map.get groups address ≡ None →
    group_at (groups_after_round timing now (groups_expired now groups)) address ≡ unheld
unfolding groups_after_round groups_expired
absent_after timing now groups address none =
    ap (λ (e : Option ScheduledGroup). unwrap_or e unheld)
    (get-kept _ _ address ∙ ap (option_and_then _) (get-kept _ groups address ∙ ap (option_and_then _) none))

pub held_before : (config : Configuration) (now : ℕ) (state : LinkState) (address : ℕ) → changed_by_tick config now state address ≡ true →
    is_among (map.keys state.groups) address ≡ true
held_before config now state address changed = by_test (map.contains_key state.groups address) refl
  where
    by_test : (b : Bool) → map.contains_key state.groups address ≡ b → is_among (map.keys state.groups) address ≡ true
    by_test true held = sym (map.contains_key-keys state.groups address) ∙ held
    by_test false absent =
        let before = absent_unheld state.groups address absent in
        let after = absent_after (tick_of config now state).timing _ state.groups address (group_absent state.groups address absent) in
        absurd (true≢false (sym changed ∙ (λ i. changes_filter (before i).group (after i).group) ∙ unchanged unheld.group))

-- A record changes only the group that it speaks of.
module _ (at : Setting) (address : ℕ) where
  left_as : (groups : Groups) → changes groups groups address ≡ false
  left_as groups = unchanged (group_at groups address).group

  stated_others : (group : ℕ) (statement : Statement) (groups : Groups) → eq_by_cmp nat_cmp address group ≡ false →
      changes groups (stated at group statement groups).groups address ≡ false
  unfolding stated
  stated_others group statement groups differs = by_change (change_in at group statement groups)
    where
      by_limit : (e : ScheduledGroup) (passed : Option Refusal) →
          changes groups (unless_passed passed groups (with_group groups group (after_sending at e)) (sent_at_once at group e)).groups address ≡ false
      by_limit e (Some name) = left_as groups
      by_limit e None =
          ap (λ (x : ScheduledGroup). changes_filter (group_at groups address).group x.group) (other_then groups group (after_sending at e) address differs)
          ∙ unchanged (group_at groups address).group

      by_change : (change : Option GroupChange) → changes groups (changed_or_refused at group groups change).groups address ≡ false
      by_change None = left_as groups
      by_change (Some change) =
          let e = changed_by at group groups change in
          by_limit e (limit_passed at.config.limits (with_group groups group (after_sending at e)) (after_sending at e))

  judged_others : (seen : Seen) (r : RecordView ℕ) (groups : Groups) → eq_by_cmp nat_cmp address r.group ≡ false →
      changes groups (judged at seen r groups).groups address ≡ false
  unfolding judged
  judged_others seen r groups differs = by_entrance (entrance at.config r)
    where
      by_repeated : (kind : Kind) (b : Bool) →
          changes groups (cond b (leaving groups (Refused Repeated)) (stated at r.group (RecordOf kind (set.from_list r.sources)) groups)).groups
          address ≡ false
      by_repeated kind true = left_as groups
      by_repeated kind false = stated_others r.group (RecordOf kind (set.from_list r.sources)) groups differs

      by_entrance : (entrance : Entrance) → changes groups (judged_from at seen r groups entrance).groups address ≡ false
      by_entrance (Stops verdict) = left_as groups
      by_entrance (GoesOn kind) = by_repeated kind (is_repeated groups seen r.group)

  all_spoken_of : (seen : Seen) (records : List (RecordView ℕ)) (groups : Groups) → changed_by_all at seen records groups address ≡ true →
      is_among (list_map (λ r. r.group) records) address ≡ true
  all_spoken_of seen [] groups changed = absurd (true≢false (sym changed))
  all_spoken_of seen (r ∷ rs) groups changed =
      by_group (eq_by_cmp nat_cmp address r.group) refl (all_spoken_of (seen_after at.config r groups seen) rs left)
    where
      left : Groups
      left = (judged at seen r groups).groups

      by_group : (b : Bool) → eq_by_cmp nat_cmp address r.group ≡ b
          → (changed_by_all at (seen_after at.config r groups seen) rs left address ≡ true → is_among (list_map (λ r. r.group) rs) address ≡ true)
          → (b || is_among (list_map (λ r. r.group) rs) address) ≡ true
      by_group true same rest = refl
      by_group false differs rest =
          rest (ap (λ b. b || changed_by_all at (seen_after at.config r groups seen) rs left address) (sym (judged_others seen r groups differs)) ∙ changed)

  alone_spoken_of : (group : ℕ) (statement : Statement) (groups : Groups) → changes groups (stated_alone at group statement groups).groups address ≡ true →
      is_among (group ∷ []) address ≡ true
  alone_spoken_of group statement groups changed = by_group (eq_by_cmp nat_cmp address group) refl
    where
      by_group : (b : Bool) → eq_by_cmp nat_cmp address group ≡ b → (b || false) ≡ true
      by_group true same = refl
      by_group false differs = absurd (true≢false (sym changed
          ∙ alone_by (λ o. changes groups o.groups address ≡ false) at group statement groups (stated_others group statement groups differs) (left_as groups)))

  read_spoken_of : (read : Result (Message ℕ) WireFault) (reason : Option DropReason) (groups : Groups) →
      changed_by_read at read reason groups address ≡ true → is_among (spoken_of read) address ≡ true
  read_spoken_of (Ok message) (Some reason) groups changed = absurd (true≢false (sym changed))
  read_spoken_of (Err fault) (Some reason) groups changed = absurd (true≢false (sym changed))
  read_spoken_of (Err fault) None groups changed = absurd (true≢false (sym changed))
  read_spoken_of (Ok (AQuery query)) None groups changed = absurd (true≢false (sym changed))
  read_spoken_of (Ok (OldReport version group)) None groups changed = alone_spoken_of group _ groups changed
  read_spoken_of (Ok (Leave group)) None groups changed = alone_spoken_of group _ groups changed
  read_spoken_of (Ok (AReport records)) None groups changed = all_spoken_of map.empty records groups changed

either : (a b c d : Bool) → (a ≡ true → c ≡ true) → (b ≡ true → d ≡ true) → (a || b) ≡ true → (c || d) ≡ true
either true b c d first second is = ap (λ x. x || d) (first refl)
either false b c d first second is = ap (λ x. c || x) (second is) ∙ or_true c
  where
    or_true : (c : Bool) → (c || true) ≡ true
    or_true true = refl
    or_true false = refl

-- a datagram only such that were held, and such that it speaks of
pub held_or_spoken_of : (config : Configuration) (envelope : Envelope) (bytes : List ℕ) (now : ℕ) (state : LinkState) (address : ℕ) →
    changed_by_datagram config envelope bytes now state address ≡ true
    → is_among (map.keys state.groups ++ spoken_of (read_of config.family (pseudo_of config.family envelope bytes) bytes)) address ≡ true
held_or_spoken_of config envelope bytes now state address changed =
    let read = read_of config.family (pseudo_of config.family envelope bytes) bytes in
    let left = (tick_of config now state).state in
    list_any-append (eq_by_cmp nat_cmp address) (map.keys state.groups) (spoken_of read) ∙ either (changed_by_tick config now state address)
    (changed_by_read (setting_of config left) read (drop_reason config envelope read) left.groups address) _ _
    (held_before config now state address) (read_spoken_of (setting_of config left) address read (drop_reason config envelope read) left.groups) changed

-- the groups that a link lists are those of a replay
pub ticked_those : (config : Configuration) (now : ℕ) (state : LinkState) (listed : List ℕ) → AreThose (changed_by_tick config now state) listed
    → those_among (changed_by_tick config now state) (map.keys state.groups) ≡ listed
ticked_those config now state listed those = are_those (changed_by_tick config now state) (map.keys state.groups) listed (held_before config now state) those

pub received_those : (config : Configuration) (now : ℕ) (datagram : Datagram) (state : LinkState) (listed : List ℕ) →
    AreThose (changed_by_datagram config datagram.envelope datagram.body now state) listed → changed_at config now datagram state ≡ listed
received_those config now datagram state listed those =
    are_those (changed_by_datagram config datagram.envelope datagram.body now state) _ listed
    (held_or_spoken_of config datagram.envelope datagram.body now state) those
