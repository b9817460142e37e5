-- A tick leaves a state that a link may be in.
use Rattle.mq_link.proofs.Common.{◌≡◌, ℕ, ◌≤◌, Bool, true, false, cond, not, ◌&&◌, ◌||◌, refl, Option, None, Some, IfSome, sym, ap, ◌∙◌, subst, arith, eqb, ltb}
use Rattle.mq_link.proofs.Common.{true≢false, eqb-false, option_and_then, kept, get-kept, Timing, AreInRange, IsWithin, ScheduledGroup, cleared, after_round}
use Rattle.mq_link.proofs.Common.{Announced, IsCarried, Role, Querier, Other, ElectionState, is_querier, deadline_ended, returned, general_is_due}
use Rattle.mq_link.proofs.Common.{after_general, ticked, heard_or, adopted, heard, loses_role, Query, Configuration, Groups, LinkState, IsHeldAs, IsSilent}
use Rattle.mq_link.proofs.Common.{AreWithin, IsWellFormed, group_expired, if_held, groups_expired, groups_after_round, tick_at, election_after, announced_by}
use Rattle.mq_link.proofs.Common.{suppresses, asked_by, groups_cleared, group_lowered, groups_lowered, query_heard}
use Rattle.std.specs.FinMap as map
use Rattle.mq_link.proofs.Bounds.{NoMore, expired_no_more, round_no_more, cleared_no_more, lowered_no_more, same_no_more, within-kept}
use Rattle.mq_link.proofs.HeldAs.{All, all-kept, held_expired, silent_expired, held_round, silent_round, held_after_loss, held_lowered}

-- the groups after the end of timers
pub held-groups_expired : (config : Configuration) (now : ℕ) (groups : Groups) → All (IsHeldAs config) groups →
    All (IsHeldAs config) (groups_expired now groups)
unfolding groups_expired
held-groups_expired config now groups all = all-kept (IsHeldAs config) (λ _ e. if_held (group_expired now e)) groups (held_expired config now) all

pub silent-groups_expired : (now : ℕ) (groups : Groups) → All (λ _. IsSilent) groups → All (λ _. IsSilent) (groups_expired now groups)
unfolding groups_expired
silent-groups_expired now groups all = all-kept (λ _. IsSilent) (λ _ e. if_held (group_expired now e)) groups (silent_expired now) all

within-groups_expired : (config : Configuration) (now : ℕ) (groups : Groups) → AreWithin config.limits groups →
    AreWithin config.limits (groups_expired now groups)
unfolding groups_expired
within-groups_expired config now groups within = within-kept config.limits (λ _ e. if_held (group_expired now e)) groups (λ _ e. expired_no_more now e) within

-- and after a round
held-groups_after_round : (config : Configuration) (timing : Timing) (now : ℕ) (groups : Groups) → All (IsHeldAs config) groups →
    All (IsHeldAs config) (groups_after_round timing now groups)
unfolding groups_after_round
held-groups_after_round config timing now groups all = all-kept (IsHeldAs config) (λ _ e. Some (after_round timing now e)) groups
    (held_round config timing now) all

silent-groups_after_round : (timing : Timing) (now : ℕ) (groups : Groups) → All (λ _. IsSilent) groups →
    All (λ _. IsSilent) (groups_after_round timing now groups)
unfolding groups_after_round
silent-groups_after_round timing now groups all = all-kept (λ _. IsSilent) (λ _ e. Some (after_round timing now e)) groups (silent_round timing now) all

within-groups_after_round : (config : Configuration) (timing : Timing) (now : ℕ) (groups : Groups) → AreWithin config.limits groups →
    AreWithin config.limits (groups_after_round timing now groups)
unfolding groups_after_round
within-groups_after_round config timing now groups within = within-kept config.limits (λ _ e. Some (after_round timing now e)) groups
    (λ _ e. round_no_more timing now e) within

-- the election
returned_timing : (configured : Timing) (now : ℕ) (e : ElectionState) → AreInRange configured → AreInRange e.timing →
    AreInRange (returned configured now e).timing
returned_timing configured now e own in_force = by_test (deadline_ended now e.role)
  where
    by_test : (b : Bool) → AreInRange (cond b (record { role = Querier now 0; timing = configured }) e).timing
    by_test true = own
    by_test false = in_force

pub ticked_timing : (configured : Timing) (now : ℕ) (e : ElectionState) → AreInRange configured → AreInRange e.timing →
    AreInRange (ticked configured now e).timing
ticked_timing configured now e own in_force = by_test (general_is_due now (returned configured now e).role) (returned_timing configured now e own in_force)
  where
    r : ElectionState
    r = returned configured now e

    by_test : (b : Bool) → AreInRange r.timing → AreInRange (cond b (record { role = after_general r.timing now r.role; timing = r.timing }) r).timing
    by_test true h = h
    by_test false h = h

still_querier : (timing : Timing) (now : ℕ) (role : Role) → is_querier (after_general timing now role) ≡ is_querier role
still_querier timing now (Querier due startup) = refl
still_querier timing now (Other address deadline) = refl

pub ticked_role : (configured : Timing) (now : ℕ) (e : ElectionState) → is_querier (ticked configured now e).role ≡ is_querier (returned configured now e).role
ticked_role configured now e = by_test (general_is_due now (returned configured now e).role)
  where
    r : ElectionState
    r = returned configured now e

    by_test : (b : Bool) → is_querier (cond b (record { role = after_general r.timing now r.role; timing = r.timing }) r).role ≡ is_querier r.role
    by_test true = still_querier r.timing now r.role
    by_test false = refl

returned_role : (configured : Timing) (now : ℕ) (e : ElectionState) → is_querier (returned configured now e).role ≡ false → is_querier e.role ≡ false
returned_role configured now e h = by_test (deadline_ended now e.role) h
  where
    by_test : (b : Bool) → is_querier (cond b (record { role = Querier now 0; timing = configured }) e).role ≡ false → is_querier e.role ≡ false
    by_test true h = absurd (true≢false h)
    by_test false h = h

-- a router that isn't querier after a tick wasn't before
pub was_other : (configured : Timing) (now : ℕ) (e : ElectionState) → is_querier (ticked configured now e).role ≡ false → is_querier e.role ≡ false
was_other configured now e h = returned_role configured now e (sym (ticked_role configured now e) ∙ h)

-- A tick leaves a well-formed state well-formed.
pub IsWellFormed-tick_at : (config : Configuration) (moment : ℕ) (state : LinkState) → AreInRange config.timing → IsWellFormed config state →
    IsWellFormed config (tick_at config moment state).state
IsWellFormed-tick_at config moment state own h = record {
  groups = held-groups_after_round config (ticked config.timing moment state.election).timing moment (groups_expired moment state.groups)
      (held-groups_expired config moment state.groups h.groups);
  within = within-groups_after_round config (ticked config.timing moment state.election).timing moment (groups_expired moment state.groups)
      (within-groups_expired config moment state.groups h.within);
  timing = ticked_timing config.timing moment state.election own h.timing;
  silent = λ other. silent-groups_after_round (ticked config.timing moment state.election).timing moment (groups_expired moment state.groups)
      (silent-groups_expired moment state.groups (h.silent (was_other config.timing moment state.election other)));
}

-- a query that is heard
heard_in_range : (configured value most : ℕ) → IsWithin 1 most configured → value ≤ most → IsWithin 1 most (heard_or configured value)
heard_in_range configured value most own carried = by_test (eqb value 0) refl
  where
    by_test : (b : Bool) → eqb value 0 ≡ b → IsWithin 1 most (cond b configured value)
    by_test true e = own
    by_test false e = record { at_least = omega (arith, eqb-false value 0 e); at_most = carried }

-- a query's fields can carry the variables that it announces
abbrev pub IsCarriedBy : Option Announced → Type 0
IsCarriedBy announced = IfSome announced IsCarried

adopted_timing : (configured : Timing) (is_other : Bool) (announced : Option Announced) (timing : Timing) → AreInRange configured →
    IsCarriedBy announced → AreInRange timing → AreInRange (adopted configured is_other announced timing)
adopted_timing configured is_other None timing own carried in_force = in_force
adopted_timing configured is_other (Some said) timing own carried in_force = record {
  robustness = heard_in_range configured.robustness said.robustness 7 own.robustness carried.robustness;
  query_seconds = by_test is_other;
  response_interval = in_force.response_interval;
  last_member_interval = in_force.last_member_interval;
  last_member_query_count = in_force.last_member_query_count;
}
  where
    by_test : (b : Bool) → IsWithin 1 31744 (cond b (heard_or configured.query_seconds said.query_seconds) timing.query_seconds)
    by_test true = heard_in_range configured.query_seconds said.query_seconds 31744 own.query_seconds carried.query_seconds
    by_test false = in_force.query_seconds

-- the timing that is in force after a query
pub heard_timing : (configured : Timing) (own now source : ℕ) (announced : Option Announced) (e : ElectionState) → AreInRange configured →
    IsCarriedBy announced → AreInRange e.timing → AreInRange (heard configured own now source announced e).timing
heard_timing configured own now source announced e in_range carried in_force =
    adopted_timing configured (ltb source own || not (is_querier e.role)) announced e.timing in_range carried in_force

pub held-groups_cleared : (config : Configuration) (groups : Groups) → All (IsHeldAs config) groups → All (IsHeldAs config) (groups_cleared groups)
unfolding groups_cleared
held-groups_cleared config groups all = all-kept (IsHeldAs config) (λ _ e. Some (cleared e)) groups (held_after_loss config) all

pub silent-groups_cleared : (groups : Groups) → All (λ _ _. Unit {0}) groups → All (λ _. IsSilent) (groups_cleared groups)
unfolding groups_cleared
silent-groups_cleared groups all group e is = silent group e is
  where
    silent : All (λ _. IsSilent) (kept (λ _ e. Some (cleared e)) groups)
    silent group e is = by_before (map.get groups group) (sym (get-kept (λ _ e. Some (cleared e)) groups group) ∙ is)
      where
        by_before : (before : Option ScheduledGroup) → option_and_then (λ e. Some (cleared e)) before ≡ Some e → IsSilent e
        by_before None now_is = cc
        by_before (Some b) now_is = let same : cleared b ≡ e = cc in subst IsSilent same (record { schedule = refl })

within-groups_cleared : (config : Configuration) (groups : Groups) → AreWithin config.limits groups → AreWithin config.limits (groups_cleared groups)
unfolding groups_cleared
within-groups_cleared config groups within = within-kept config.limits (λ _ e. Some (cleared e)) groups (λ _ e. cleared_no_more e) within

pub held-groups_lowered : (config : Configuration) (timing : Timing) (now : ℕ) (query : Query ℕ) (groups : Groups) → All (IsHeldAs config) groups →
    All (IsHeldAs config) (groups_lowered timing now query groups)
unfolding groups_lowered
held-groups_lowered config timing now query groups all = all-kept (IsHeldAs config)
    (λ group e. Some (cond (eqb group query.group) (group_lowered timing now query.version e) e)) groups
    (λ group e h. by_test group e h (eqb group query.group)) all
  where
    by_test : (group : ℕ) (e : ScheduledGroup) → IsHeldAs config group e → (b : Bool) →
        IsHeldAs config group (cond b (group_lowered timing now query.version e) e)
    by_test group e h true = held_lowered config timing now (suppresses query.version) (asked_by query.version) group e h
    by_test group e h false = h

pub silent-groups_lowered : (timing : Timing) (now : ℕ) (query : Query ℕ) (groups : Groups) → All (λ _. IsSilent) groups →
    All (λ _. IsSilent) (groups_lowered timing now query groups)
unfolding groups_lowered
silent-groups_lowered timing now query groups all =
    all-kept (λ _. IsSilent) (λ group e. Some (cond (eqb group query.group) (group_lowered timing now query.version e) e)) groups
    (λ group e h. by_test group e h (eqb group query.group)) all
  where
    by_test : (group : ℕ) (e : ScheduledGroup) → IsSilent e → (b : Bool) → IsSilent (cond b (group_lowered timing now query.version e) e)
    by_test group e h true = record { schedule = h.schedule }
    by_test group e h false = h

within-groups_lowered : (config : Configuration) (timing : Timing) (now : ℕ) (query : Query ℕ) (groups : Groups) → AreWithin config.limits groups →
    AreWithin config.limits (groups_lowered timing now query groups)
unfolding groups_lowered
within-groups_lowered config timing now query groups within =
    within-kept config.limits (λ group e. Some (cond (eqb group query.group) (group_lowered timing now query.version e) e)) groups
    (λ group e. by_test group e (eqb group query.group)) within
  where
    by_test : (group : ℕ) (e : ScheduledGroup) (b : Bool) → NoMore e (cond b (group_lowered timing now query.version e) e)
    by_test group e true = lowered_no_more timing now (suppresses query.version) (asked_by query.version) e
    by_test group e false = same_no_more e

-- a query of no lower address leaves the role
role_kept : (source deadline : ℕ) (role : Role) (lower : Bool) → lower ≡ false → is_querier role ≡ true →
    is_querier (cond lower (Other source deadline) role) ≡ true
role_kept source deadline role lower l q = ap (λ b. is_querier (cond b (Other source deadline) role)) l ∙ q

-- A query that is heard leaves a well-formed state well-formed.
pub IsWellFormed-query_heard : (config : Configuration) (now source : ℕ) (query : Query ℕ) (state : LinkState) → AreInRange config.timing →
    IsCarriedBy (announced_by query.version) → IsWellFormed config state → IsWellFormed config (query_heard config now source query state)
IsWellFormed-query_heard config now source query state own carried h = record {
  groups = held-groups_lowered config election.timing now query groups_left (held_left loses);
  within = within-groups_lowered config election.timing now query groups_left (within_left loses);
  timing = heard_timing config.timing config.own now source (announced_by query.version) state.election own carried h.timing;
  silent = λ other. silent-groups_lowered election.timing now query groups_left (by_role lower (is_querier state.election.role) refl refl other);
}
  where
    lower : Bool
    lower = ltb source config.own

    election : ElectionState
    election = election_after config now source query.version state.election

    loses : Bool
    loses = loses_role config.own source state.election.role

    groups_if : Bool → Groups
    groups_if b = cond b (groups_cleared state.groups) state.groups

    groups_left : Groups
    groups_left = groups_if loses

    held_left : (b : Bool) → All (IsHeldAs config) (groups_if b)
    held_left true = held-groups_cleared config state.groups h.groups
    held_left false = h.groups

    within_left : (b : Bool) → AreWithin config.limits (groups_if b)
    within_left true = within-groups_cleared config state.groups h.within
    within_left false = h.within

    by_role : (below querier : Bool) → lower ≡ below → is_querier state.election.role ≡ querier → is_querier election.role ≡ false →
        All (λ _. IsSilent) groups_left
    by_role true true l q other = subst (λ b. All (λ _. IsSilent) (groups_if b)) (sym (λ i. q i && l i)) (silent-groups_cleared state.groups (λ _ _ _. tt))
    by_role below false l q other = subst (λ b. All (λ _. IsSilent) (groups_if b)) (sym (λ i. q i && lower)) (h.silent q)
    by_role false true l q other = absurd (true≢false (sym (role_kept source _ state.election.role lower l q) ∙ other))
