-- The groups of a link while what is to go for them is dropped, one group after the other.
use Rattle.mq_link.proofs.Common.{◌≡◌, ℕ, zero, suc, ◌+◌, ◌*◌, ◌≤◌, ◌<◌, Bool, true, false, cond, refl, List, length, drop, Option, None, Some, is_some, sym}
use Rattle.mq_link.proofs.Common.{ap, ◌∙◌, subst, arith, ltb, true≢false, nat_tests, length-map, take_all, sum_by, option_and_then, unwrap_or, nat_cmp}
use Rattle.mq_link.proofs.Common.{eq_by_cmp, nat_cmp_total, Spends, Spends-none, Spends-join_within, timer_at, retransmissions_of, IsHeld, SourceTimer, Stopped}
use Rattle.mq_link.proofs.Common.{Running, some_source, has_retransmissions, source_cleared, get-kept, same_group, same_sources, ScheduleState, ScheduledGroup}
use Rattle.mq_link.proofs.Common.{IsScheduleOf, no_schedule, cleared, some_source-from, held_cleared, tied, Groups, IsServed, groups_cleared}
use Rattle.std.specs.FinMap as map
use Rattle.mq_held.specs.Groups.{unheld, group_at, sources_of, sources_in}
use Rattle.mq_link.proofs.{Bounds.cleared_no_more, DueGroups.among_keys, KeptGroups.group_found, ReplacedGroups.IsReplacedTo, ReplacedGroups.all_entries}
use Rattle.mq_link.proofs.{ReplacedGroups.among, ReplacedGroups.entry_at, ReplacedGroups.entry_sources, ReplacedGroups.next_group, ReplacedGroups.one_replaced}
use Rattle.mq_link.proofs.{ReplacedGroups.one_weighed, ReplacedGroups.sources_of_entries}

-- a group for which nothing is to go has none to drop
pub none_of : {X : Type 0} (x : Option X) → is_some x ≡ false → x ≡ None
none_of None is = refl
none_of (Some x) is = absurd (true≢false is)

cleared_silent : (e : ScheduledGroup) → IsScheduleOf e.group e.schedule → e.schedule ≡ no_schedule → cleared e ≡ e
cleared_silent e fits silent = λ i. record { group = group_is i; schedule = sym silent i }
  where
    none : some_source (has_retransmissions e.group) e.group ≡ false
    none = sym fits.sources_retransmissions ∙ ap (λ (s : ScheduleState). is_some s.sources_due) silent

    same_timer : (s : ℕ) (t : Option SourceTimer) → timer_at e.group s ≡ t → option_and_then (λ timer. Some (source_cleared timer)) t ≡ t
    same_timer s None is = refl
    same_timer s (Some Stopped) is = refl
    same_timer s (Some (Running d zero)) is = refl
    same_timer s (Some (Running d (suc n))) is =
        absurd (true≢false (sym (some_source-from (has_retransmissions e.group) e.group s (ap is_some is)
        (ap (λ t. ltb 0 (retransmissions_of t)) is ∙ positive n)) ∙ none))
      where
        positive : (n : ℕ) → ltb 0 (suc n) ≡ true
        positive n = grind (arith, nat_tests)

    group_is : (cleared e).group ≡ e.group
    group_is = same_group e.group.mode _ e.group.sources e.group.v1 e.group.v2
        (λ s. get-kept (λ s timer. Some (source_cleared timer)) e.group.sources s ∙ same_timer s (timer_at e.group s) refl)

pub left_alone : (groups : Groups) (room address : ℕ) → map.contains_key groups address ≡ true → IsServed room (group_at groups address) →
    (group_at groups address).schedule ≡ no_schedule → groups ≡ map.insert groups address (cleared (group_at groups address))
left_alone groups room address held is silent =
    same_sources groups (map.insert groups address (group_at groups address))
    (λ q. sym (map.get-insert nat_cmp_total groups address (group_at groups address) q ∙ by_test q (eq_by_cmp nat_cmp q address) refl))
    ∙ ap (map.insert groups address) (sym (cleared_silent (group_at groups address) is.fits silent))
  where
    by_test : (q : ℕ) (b : Bool) → eq_by_cmp nat_cmp q address ≡ b → cond b (Some (group_at groups address)) (map.get groups q) ≡ map.get groups q
    by_test q true same = sym (ap (map.get groups) (tied q address same) ∙ group_found groups address held)
    by_test q false other = refl

pub cleared_held : (left e : ScheduledGroup) → left ≡ cleared e → IsHeld e.group → IsHeld left.group
cleared_held left e is held = subst (λ (f : ScheduledGroup). IsHeld f.group) (sym is) (held_cleared e held)

pub cleared_size : (left e : ScheduledGroup) → left ≡ cleared e → sources_of left ≤ sources_of e
cleared_size left e is = let same = ap sources_of is in let fewer = (cleared_no_more e).sources in omega arith

pub served_more : (room more : ℕ) (e : ScheduledGroup) → room ≤ more → IsServed room e → IsServed more e
served_more room more e grown is = let fits = is.room_for in record { held = is.held; fits = is.fits; room_for = omega arith }

-- The first i groups are cleared, with what was counted for it by how many sources they have.
pub record AreClearedTo (groups : Groups) (from_count i : ℕ) (current : Groups) (count weight : ℕ) : Type 0 where
  pub done : IsReplacedTo cleared groups (map.entries groups) (all_entries groups) i current
  pub weight_is : weight + sum_by entry_sources (drop i (map.entries groups)) ≤ sources_in groups
  pub spent : Spends 0 (weight + 20 * i) from_count count

pub none_cleared : (groups : Groups) (count : ℕ) → AreClearedTo groups count 0 groups count 0
none_cleared groups count = record {
  done = record { at = λ q. refl; len_is = refl };
  weight_is = let same = sources_of_entries (map.entries groups) in omega arith;
  spent = Spends-none count;
}

pub all_cleared : (groups : Groups) (from_count i : ℕ) (current : Groups) (count weight : ℕ) → AreClearedTo groups from_count i current count weight →
    map.len groups ≤ i → current ≡ groups_cleared groups
unfolding groups_cleared
all_cleared groups from_count i current count weight so_far end =
    same_sources _ _ (λ q.
    so_far.done.at q
    ∙ ap (λ (ks : List ℕ). cond (among ks q) (Some (cleared (group_at groups q))) (map.get groups q))
    (take_all i (map.keys groups) (let l = length-map (map.entries groups) (λ (e : ℕ × ScheduledGroup). e.0) in omega (arith, l, end, map.len-entries groups)))
    ∙ ap (λ b. cond b (Some (cleared (group_at groups q))) (map.get groups q)) (among_keys groups q)
    ∙ by_found q (map.get groups q)
    ∙ sym (get-kept (λ _ e. Some (cleared e)) groups q))
  where
    by_found : (q : ℕ) (found : Option ScheduledGroup) → cond (is_some found) (Some (cleared (unwrap_or found unheld))) found
        ≡ option_and_then (λ e. Some (cleared e)) found
    by_found q None = refl
    by_found q (Some e) = refl

module _ (groups : Groups) (from_count i : ℕ) (current : Groups) (count weight : ℕ) (so_far : AreClearedTo groups from_count i current count weight)
    (within : i < length (map.entries groups)) where
  abbrev pub next : ℕ × ScheduledGroup
  next = entry_at (map.entries groups) i

  pub one_cleared : (after : Groups) (new_count digits : ℕ)
      → after ≡ map.insert current next.0 (cleared (group_at current next.0))
      → Spends 0 (sources_of (group_at current next.0) + 4 + digits) count new_count → digits ≤ 16
      → AreClearedTo groups from_count (i + 1) after new_count (weight + sources_of next.1)
  one_cleared after new_count digits after_is counted few =
      let es = map.entries groups in
      let size = ap sources_of (next_group cleared groups es (all_entries groups) i current so_far.done within) in
      record {
        done = one_replaced cleared groups es (all_entries groups) i current so_far.done within after after_is;
        weight_is = one_weighed cleared groups es (all_entries groups) i current so_far.done within weight so_far.weight_is;
        spent = Spends-join_within 0 (weight + sources_of next.1 + 20 * (i + 1)) so_far.spent counted (omega arith) (omega (arith, size, few));
      }
