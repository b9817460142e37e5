-- The groups that records have changed, by their numbers. A record changes only its own group.
use Rattle.mq_link.proofs.Common.{◌≡◌, ℕ, ◌+◌, ◌<◌, ◌≤◌, Bool, true, false, cond, ◌||◌, List, [], ◌∷◌, length, set, Option, None, Some, IfSome, MatchOption}
use Rattle.mq_link.proofs.Common.{refl, sym, ap, ◌∙◌, arith, leb, ltb, or-false, slice_index, option_map_or, unwrap_or, nat_cmp, eq_by_cmp, lt-ltb, true≢false}
use Rattle.mq_link.proofs.Common.{sum_by-set, Timing, OlderVersion, V1, V2, changes_filter, filter_of, GroupState, is_vacant, older_host, GroupChange}
use Rattle.mq_link.proofs.Common.{ScheduledGroup, after_change, after_round, HeldState, HasNumber, tied, ties, RecordView, changed_by_all, changes, Seen}
use Rattle.mq_link.proofs.Common.{Setting, judged, met, seen_after, AreMarked, AreMet, AreNone, KeepsNumbers, counted_again, met_in}
use Rattle.std.specs.FinMap as map
use Rattle.mq_held.specs.Groups.{Groups, group_at, kept_as, unheld, with_group}
use Rattle.mq_link.proofs.{KeptFilters.alike_after, KeptFilters.change_keeps_filter, KeptFilters.kept_filter, KeptFilters.round_keeps_filter}
use Rattle.mq_link.proofs.{KeptFilters.unchanged, KeptGroups.absent_unheld, ListedNumbers.none_counted, MetNumbers.AreNumbered, MetNumbers.met_again_by_number}
use Rattle.mq_link.proofs.{MetNumbers.met_still, MetNumbers.unmarked, MetNumbers.was_absent, MetNumbers.length-counted_again, Recorded.get-with_group}
use Rattle.mq_link.proofs.{TakenRecords.again, TakenRecords.met_once, TakenRecords.met_other}

-- host timers are no part of a filter
changes-older_host : (version : OlderVersion) (timing : Timing) (now : ℕ) (before after : GroupState) →
    changes_filter before (older_host version timing now after) ≡ changes_filter before after
unfolding changes_filter
changes-older_host V1 timing now before after = refl
changes-older_host V2 timing now before after = refl

pub changed_by_older : (version : OlderVersion) (timing : Timing) (now : ℕ) (before after left : GroupState) (changed : Bool) →
    changed ≡ changes_filter before after → left ≡ older_host version timing now after → changed ≡ changes_filter before left
changed_by_older version timing now before after left changed is left_is =
    is ∙ sym (changes-older_host version timing now before after) ∙ ap (changes_filter before) (sym left_is)

-- unchanged groups have unchanged filters
pub none_changes : (groups left : Groups) → left ≡ groups → (address : ℕ) → changes groups left address ≡ false
none_changes groups left same address = ap (λ gs. changes groups gs address) same ∙ unchanged (group_at groups address).group

-- a group that is put in the place of one
module _ (groups : Groups) (address : ℕ) (e : ScheduledGroup) where
  placed : (b : Bool) → unwrap_or (cond b None (Some e)) unheld ≡ cond b unheld e
  placed true = refl
  placed false = refl

  pub group_then : group_at (with_group groups address e) address ≡ kept_as e
  group_then =
      ap (λ x. unwrap_or x unheld) (get-with_group groups address e address)
      ∙ ap (λ b. unwrap_or (cond b (cond (is_vacant e.group) None (Some e)) (map.get groups address)) unheld) (ties address address refl)
      ∙ placed (is_vacant e.group)

  pub other_then : (other : ℕ) → eq_by_cmp nat_cmp other address ≡ false → group_at (with_group groups address e) other ≡ group_at groups other
  other_then other differs =
      ap (λ x. unwrap_or x unheld) (get-with_group groups address e other)
      ∙ ap (λ b. unwrap_or (cond b (cond (is_vacant e.group) None (Some e)) (map.get groups other)) unheld) differs

-- The work after the change of a group keeps its filter. So the change alone decides whether the group has another filter.
pub changed_then : (groups next : Groups) (address : ℕ) (before asked left : ScheduledGroup) (change : GroupChange) (q : Bool) (timing : Timing)
    (now : ℕ) (changed : Bool)
    → before ≡ group_at groups address → changed ≡ changes_filter before.group change.group → asked ≡ after_change q timing now change before.schedule
    → left ≡ after_round timing now asked
    → next ≡ with_group groups address left → changed ≡ changes groups next address
changed_then groups next address before asked left change q timing now changed before_is changed_is asked_is left_is next_is =
    changed_is
    ∙ alike_after before.group change.group (kept_as left).group (sym same)
    ∙ (λ i. changes_filter (before_is i).group (sym (group_then groups address left) i).group)
    ∙ ap (λ gs. changes groups gs address) (sym next_is)
  where
    same : filter_of (kept_as left).group ≡ filter_of change.group
    same =
        kept_filter left
        ∙ ap (λ (e : ScheduledGroup). filter_of e.group) left_is
        ∙ round_keeps_filter timing now asked
        ∙ ap (λ (e : ScheduledGroup). filter_of e.group) asked_is
        ∙ change_keeps_filter q timing now change before.schedule

or_none : (a b : Bool) → b ≡ false → a ≡ (a || b)
or_none true b none = refl
or_none false b none = sym none

or_one : (a b : Bool) → b ≡ true → true ≡ (a || b)
or_one true b one = refl
or_one false b one = sym one

-- the groups that were marked are marked still, where none is another
pub marked_still : (s : HeldState) (left : Groups) (counts : List ℕ) (test : ℕ → Bool) → left ≡ s.groups → AreMarked s counts test →
    AreMarked s counts (λ address. test address || changes s.groups left address)
marked_still s left counts test same marked = record {
  seen = marked.seen;
  are_met = marked.are_met;
  each = λ address. marked.each address ∙ or_none (test address) _ (none_changes s.groups left same address);
}

-- A group replaces one, with an equal filter or another.
module _ (s next : HeldState) (numbered : AreNumbered s) (numbered_next : AreNumbered next) (keeps : KeepsNumbers s next) (address : ℕ)
    (e : ScheduledGroup) (left : next.groups ≡ with_group s.groups address e) (counts : List ℕ) (test : ℕ → Bool) (marked : AreMarked s counts test) where
  still : AreMet next counts marked.seen
  still = met_still s next numbered numbered_next keeps counts marked.seen marked.are_met

  others_stay : (other : ℕ) → eq_by_cmp nat_cmp other address ≡ false → changes s.groups next.groups other ≡ false
  others_stay other differs =
      ap (λ (x : ScheduledGroup). changes_filter (group_at s.groups other).group x.group)
      (ap (λ groups. group_at groups other) left ∙ other_then s.groups address e other differs)
      ∙ unchanged (group_at s.groups other).group

  pub marked_none : changes s.groups next.groups address ≡ false → AreMarked next counts (λ other. test other || changes s.groups next.groups other)
  marked_none none = record {
    seen = marked.seen;
    are_met = still;
    each = λ other. marked.each other ∙ or_none (test other) _ (by_address other (eq_by_cmp nat_cmp other address) refl);
  }
    where
      by_address : (other : ℕ) (b : Bool) → eq_by_cmp nat_cmp other address ≡ b → changes s.groups next.groups other ≡ false
      by_address other true same = ap (changes s.groups next.groups) (tied other address same) ∙ none
      by_address other false differs = others_stay other differs

  marked_one : (number : ℕ) → HasNumber next address number → number < length counts → changes s.groups next.groups address ≡ true →
      AreMarked next (counted_again counts number) (λ other. test other || changes s.groups next.groups other)
  marked_one number has within one = record {
    seen = again marked.seen address;
    are_met = met_again_by_number next numbered_next counts marked.seen still address number has within;
    each = λ other. by_address other (eq_by_cmp nat_cmp other address) refl;
  }
    where
      by_address : (other : ℕ) (b : Bool) → eq_by_cmp nat_cmp other address ≡ b → ltb 0 (met (again marked.seen address) other)
          ≡ (test other || changes s.groups next.groups other)
      by_address other true same =
          let at = tied other address same in
          let met_then = ap (met (again marked.seen address)) at ∙ met_once marked.seen address in
          lt-ltb 0 _ (omega (arith, met_then)) ∙ or_one (test other) _ (ap (changes s.groups next.groups) at ∙ one)
      by_address other false differs =
          ap (ltb 0) (met_other marked.seen address other differs) ∙ marked.each other ∙ or_none (test other) _ (others_stay other differs)

  -- where it isn't held then, it wasn't before
  absent_stays : map.contains_key next.groups address ≡ false → changes s.groups next.groups address ≡ false
  absent_stays absent =
      let before = absent_unheld s.groups address (was_absent s next numbered numbered_next keeps counts marked.seen marked.are_met address absent) in
      let after = absent_unheld next.groups address absent in
      (λ i. changes_filter (before i).group (after i).group) ∙ unchanged unheld.group

  pub marked_by : (changed : Bool) (number : Option ℕ) → changed ≡ changes s.groups next.groups address →
      MatchOption number (map.contains_key next.groups address ≡ false) (HasNumber next address)
      → IfSome number (λ n. n < length counts)
      → AreMarked next (cond changed (option_map_or (counted_again counts) number counts) counts) (λ other. test other || changes s.groups next.groups other)
  marked_by false number is has within = marked_none (sym is)
  marked_by true None is absent within = absurd (true≢false (is ∙ absent_stays absent))
  marked_by true (Some number) is has within = marked_one number has within (sym is)

abbrev counts_so : ℕ → ℕ
counts_so c = cond (ltb 0 c) 1 0

at_most_one : (c : ℕ) → counts_so c ≤ 1
at_most_one c = by_test (ltb 0 c)
  where
    by_test : (b : Bool) → cond b 1 0 ≤ 1
    by_test true = omega arith
    by_test false = omega arith

-- a record more marks one group more at most
met_in-again : (counts : List ℕ) (number : ℕ) → number < length counts → met_in (counted_again counts number) ≤ met_in counts + 1
met_in-again counts number within = by_test (leb 4 (slice_index counts number))
  where
    by_test : (b : Bool) → met_in (cond b counts (set counts number (slice_index counts number + 1))) ≤ met_in counts + 1
    by_test true = omega arith
    by_test false =
        let sums = sum_by-set counts_so counts number (slice_index counts number + 1) 0 within in
        let most = at_most_one (slice_index counts number + 1) in
        omega (arith, sums, most)

pub met_in-by : (counts : List ℕ) (changed : Bool) (number : Option ℕ) → IfSome number (λ n. n < length counts) →
    met_in (cond changed (option_map_or (counted_again counts) number counts) counts) ≤ met_in counts + 1
met_in-by counts false number within = omega arith
met_in-by counts true None within = omega arith
met_in-by counts true (Some number) within = met_in-again counts number within

pub length-by : (counts : List ℕ) (changed : Bool) (number : Option ℕ) →
    length (cond changed (option_map_or (counted_again counts) number counts) counts) ≡ length counts
length-by counts false number = refl
length-by counts true None = refl
length-by counts true (Some number) = length-counted_again counts number

-- With the records that are left, those that are marked are the groups that all of them change; no more are marked than there were
-- records.
pub record AreMarkedSoFar (at : Setting) (all : List (RecordView ℕ)) (was : Groups) (left : List (RecordView ℕ)) (seen : Seen) (s : HeldState)
    (counts : List ℕ) : Type 0 where
  pub test : ℕ → Bool
  pub marked : AreMarked s counts test
  pub changed : (address : ℕ) → (test address || changed_by_all at seen left s.groups address) ≡ changed_by_all at map.empty all was address
  pub few : met_in counts + length left ≤ length all

pub none_marked_yet : (at : Setting) (all : List (RecordView ℕ)) (s : HeldState) (counts : List ℕ) → AreNone counts →
    AreMarkedSoFar at all s.groups all map.empty s counts
none_marked_yet at all s counts none = record {
  test = λ address. false;
  marked = unmarked s counts none;
  changed = λ address. refl;
  few = omega (arith, none_counted counts none);
}

or_assoc : (a b c : Bool) → ((a || b) || c) ≡ (a || (b || c))
or_assoc true b c = refl
or_assoc false b c = refl

pub one_marked : (at : Setting) (all : List (RecordView ℕ)) (was : Groups) (before rest : List (RecordView ℕ)) (r : RecordView ℕ) (seen : Seen)
    (s next : HeldState) (counts next_counts : List ℕ)
    → (h : AreMarkedSoFar at all was before seen s counts) → before ≡ r ∷ rest → next.groups ≡ (judged at seen r s.groups).groups
    → AreMarked next next_counts (λ address. h.test address || changes s.groups (judged at seen r s.groups).groups address) →
    met_in next_counts ≤ met_in counts + 1
    → AreMarkedSoFar at all was rest (seen_after at.config r s.groups seen) next next_counts
one_marked at all was before rest r seen s next counts next_counts h first left marked one = record {
  test = λ address. h.test address || changes s.groups then address;
  marked = marked;
  changed = λ address.
      ap (λ groups. (h.test address || changes s.groups then address) || changed_by_all at after rest groups address) left
      ∙ or_assoc (h.test address) (changes s.groups then address) (changed_by_all at after rest then address)
      ∙ ap (λ records. h.test address || changed_by_all at seen records s.groups address) (sym first)
      ∙ h.changed address;
  few = let most = h.few in omega (arith, most, one, ap length first);
}
  where
    then : Groups
    then = (judged at seen r s.groups).groups

    after : Seen
    after = seen_after at.config r s.groups seen

pub all_marked : (at : Setting) (all : List (RecordView ℕ)) (was : Groups) (left : List (RecordView ℕ)) (seen : Seen) (s : HeldState) (counts : List ℕ)
    → AreMarkedSoFar at all was left seen s counts → left ≡ [] → AreMarked s counts (changed_by_all at map.empty all was)
all_marked at all was left seen s counts h none = record {
  seen = h.marked.seen;
  are_met = h.marked.are_met;
  each = λ address.
      h.marked.each address
      ∙ sym (or-false (h.test address))
      ∙ ap (λ records. h.test address || changed_by_all at seen records s.groups address) (sym none)
      ∙ h.changed address;
}
