-- The groups once a query has been heard: the lowered timers if its group is held, and the groups
-- once their schedules are dropped.
use Rattle.mq_link.proofs.Common.{◌≡◌, ℕ, ◌+◌, ◌*◌, ◌≤◌, Bool, true, false, cond, refl, Option, None, Some, sym, ap, ◌∙◌, subst, arith, eqb, true≢false}
use Rattle.mq_link.proofs.Common.{eqb-true, nat_tests, option_and_then, unwrap_or, nat_cmp, eq_by_cmp, nat_cmp_total, Timing, Set, GroupState, IsHeld}
use Rattle.mq_link.proofs.Common.{lowered_by_query, get-kept, same_sources, IsWellFormed-group_lowered, IsWellFormed-sources_lowered, Query, QueryVersion}
use Rattle.mq_link.proofs.Common.{ScheduledGroup, cleared, fits_cleared, held_cleared, tied, ties, Groups, suppresses, asked_by, groups_cleared, group_lowered}
use Rattle.mq_link.proofs.Common.{groups_lowered, Storage, IsServed, AreServed, IsReady}
use Rattle.std.specs.FinMap as map
use Rattle.mq_held.specs.Groups.{unheld, group_at, sources_of, sources_in}
use Rattle.mq_link.proofs.{Bounds.cleared_no_more, Bounds.lowered_no_more, Entries.total-kept, Entries.len-kept, HeldAs.all-kept, ClearedGroups.served_more}
use Rattle.mq_link.proofs.{KeptGroups.group_found, KeptGroups.group_absent}

-- a lowered group is held, and has no more sources
lowered_held : (timing : Timing) (now : ℕ) (s : Bool) (asked : Option Set) (g : GroupState) → IsHeld g → IsHeld (lowered_by_query timing now s asked g)
lowered_held timing now true asked g held = held
lowered_held timing now false None g held = IsWellFormed-group_lowered timing now g held
lowered_held timing now false (Some asked) g held = IsWellFormed-sources_lowered timing now asked g held

module _ (timing : Timing) (now : ℕ) where
  pub one_lowered_held : (version : QueryVersion ℕ) (left e : ScheduledGroup) → left ≡ group_lowered timing now version e → IsHeld e.group → IsHeld left.group
  one_lowered_held version left e is held = subst (λ (f : ScheduledGroup). IsHeld f.group) (sym is)
      (lowered_held timing now (suppresses version) (asked_by version) e.group held)

  pub one_lowered_size : (version : QueryVersion ℕ) (left e : ScheduledGroup) → left ≡ group_lowered timing now version e → sources_of left ≤ sources_of e
  one_lowered_size version left e is = let same = ap sources_of is in let fewer =
      (lowered_no_more timing now (suppresses version) (asked_by version) e).sources in omega arith

  module _ (query : Query ℕ) (groups : Groups) where
    abbrev lowered_in : ℕ → ScheduledGroup → Option ScheduledGroup
    lowered_in group e = Some (cond (eqb group query.group) (group_lowered timing now query.version e) e)

    other_stays : (q : ℕ) (e : Option ScheduledGroup) → eqb q query.group ≡ false → e ≡ option_and_then (lowered_in q) e
    other_stays q None other = refl
    other_stays q (Some e) other = ap (λ b. Some (cond b (group_lowered timing now query.version e) e)) (sym other)

    -- the group that is held is lowered
    pub lowered_at : (left : ScheduledGroup) → map.contains_key groups query.group ≡ true →
        left ≡ group_lowered timing now query.version (group_at groups query.group) → map.insert groups query.group left
        ≡ groups_lowered timing now query groups
    unfolding groups_lowered
    lowered_at left held is =
        same_sources _ _ (λ q.
        map.get-insert nat_cmp_total groups query.group left q
        ∙ by_test q (eq_by_cmp nat_cmp q query.group) refl
        ∙ sym (get-kept lowered_in groups q))
      where
        same_number : (n : ℕ) → eqb n n ≡ true
        same_number n = grind (arith, nat_tests)

        other_number : (q : ℕ) → eq_by_cmp nat_cmp q query.group ≡ false → (b : Bool) → eqb q query.group ≡ b → b ≡ false
        other_number q other false is = refl
        other_number q other true is = let same = eqb-true q query.group is in absurd (true≢false (sym (ties q query.group same) ∙ other))

        by_test : (q : ℕ) (b : Bool) → eq_by_cmp nat_cmp q query.group ≡ b → cond b (Some left) (map.get groups q) ≡ option_and_then (lowered_in q)
            (map.get groups q)
        by_test q true same =
            ap Some is
            ∙ ap (λ b. Some (cond b (group_lowered timing now query.version (group_at groups query.group)) (group_at groups query.group)))
            (sym (same_number query.group))
            ∙ ap (option_and_then (lowered_in query.group)) (sym (group_found groups query.group held))
            ∙ ap (λ n. option_and_then (lowered_in n) (map.get groups n)) (sym (tied q query.group same))
        by_test q false other = other_stays q (map.get groups q) (other_number q other (eqb q query.group) refl)

    -- a group that isn't held leaves all as they are
    pub lowered_none : map.contains_key groups query.group ≡ false → groups ≡ groups_lowered timing now query groups
    unfolding groups_lowered
    lowered_none absent = same_sources _ _ (λ q. by_test q (eqb q query.group) refl ∙ sym (get-kept lowered_in groups q))
      where
        by_test : (q : ℕ) (b : Bool) → eqb q query.group ≡ b → map.get groups q ≡ option_and_then (lowered_in q) (map.get groups q)
        by_test q true same =
            let none = ap (map.get groups) (eqb-true q query.group same) ∙ group_absent groups query.group absent in
            none ∙ ap (option_and_then (lowered_in q)) (sym none)
        by_test q false other = other_stays q (map.get groups q) other

-- the groups once what was to go is dropped
pub cleared_served : (room more : ℕ) (groups : Groups) → room ≤ more → AreServed room groups → AreServed more (groups_cleared groups)
unfolding groups_cleared
cleared_served room more groups grown are =
    all-kept (λ _ e. IsServed more e) (λ _ e. Some (cleared e)) groups
    (λ _ e s. let fewer = (cleared_no_more e).sources in let room_for = s.room_for in
    record { held = held_cleared e s.held; fits = fits_cleared e; room_for = omega arith })
    (λ q e is. served_more room more e grown (are q e is))

pub cleared_len : (groups : Groups) → map.len (groups_cleared groups) ≤ map.len groups
unfolding groups_cleared
cleared_len groups = len-kept (λ _ e. Some (cleared e)) groups

pub cleared_sources : (groups : Groups) → sources_in (groups_cleared groups) ≤ sources_in groups
unfolding groups_cleared
cleared_sources groups = total-kept sources_of (λ _ e. Some (cleared e)) groups (λ _ e. (cleared_no_more e).sources)

pub cleared_small : (most : ℕ) (groups : Groups) (address : ℕ) → sources_of (group_at groups address) ≤ most →
    sources_of (group_at (groups_cleared groups) address) ≤ most
unfolding groups_cleared
cleared_small most groups address few = subst (λ (e : Option ScheduledGroup). sources_of (unwrap_or e unheld) ≤ most)
    (sym (get-kept (λ _ e. Some (cleared e)) groups address)) (by_group (map.get groups address) few)
  where
    by_group : (e : Option ScheduledGroup) → sources_of (unwrap_or e unheld) ≤ most →
        sources_of (unwrap_or (option_and_then (λ e. Some (cleared e)) e) unheld) ≤ most
    by_group None few = few
    by_group (Some e) few = let fewer = (cleared_no_more e).sources in omega arith

-- and they are fit to be worked on still
pub cleared_ready : {K A : Type 0} (room more : ℕ) (s t : Storage K A) → IsReady room s → t.held.groups ≡ groups_cleared s.held.groups → room ≤ more →
    IsReady more t
cleared_ready room more s t ready is wide = record {
  few = let n = ap map.len is in omega (arith, n, cleared_len s.held.groups, ready.few);
  served = subst (AreServed more) (sym is) (cleared_served room more s.held.groups wide ready.served);
}

-- the cost of lowering sources in a group with few
pub spent_lowering : (sources digits : ℕ) → digits ≤ 11 → sources * (digits + 1) + 1 ≤ 12 * sources + 1
spent_lowering sources digits few = grind arith
