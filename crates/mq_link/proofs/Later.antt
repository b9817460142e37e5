-- The next moment after a tick, which is later than that of the tick.
use Rattle.mq_link.proofs.Common.{◌≡◌, ℕ, ◌<◌, Bool, true, false, cond, refl, Option, None, Some, IfSome, sym, ◌∙◌, subst, arith, option_and_then, Timing}
use Rattle.mq_link.proofs.Common.{AreInRange, kept, GroupState, is_vacant, group_deadline, expired, AllAhead, get-kept, retransmissions_counted, ScheduledGroup}
use Rattle.mq_link.proofs.Common.{is_due, after_round, ElectionState, ticked, next_moment, quiet_after_round, deadlines_stay, Configuration, Groups, LinkState}
use Rattle.mq_link.proofs.Common.{IsWellFormed, group_expired, if_held, groups_expired, groups_after_round, tick_at, moments_of, moments_in, next_of}
use Rattle.std.specs.FinMap as map
use Rattle.mq_table.proofs.Ahead.{AllAhead-expired}
use Rattle.mq_sched.proofs.Electing.{later_moment}
use Rattle.mq_link.proofs.{Silent.each-entry, HeldAs.All, HeldAs.some_is, Ticked.ticked_timing, Quiet.IsBeyond, Quiet.AllAbove, Quiet.above_beyond}
use Rattle.mq_link.proofs.{Quiet.values_above, Quiet.least_above}

-- the values of a map, once they are replaced or left out
all_then : (P Q : ℕ → ScheduledGroup → Type 0) (f : ℕ → ScheduledGroup → Option ScheduledGroup) (groups : Groups) →
    ((k : ℕ) (e : ScheduledGroup) → P k e → IfSome (f k e) (Q k)) → All P groups → All Q (kept f groups)
all_then P Q f groups gives all group e is = by_group (map.get groups group) refl (sym (get-kept f groups group) ∙ is)
  where
    by_group : (before : Option ScheduledGroup) → map.get groups group ≡ before → option_and_then (f group) before ≡ Some e → Q group e
    by_group None was now_is = cc
    by_group (Some b) was now_is = some_is (Q group) (f group b) e (gives group b (all group b was)) now_is

ahead_expired : (m : ℕ) (e : ScheduledGroup) → IfSome (if_held (group_expired m e)) (λ e. AllAhead m e.group)
ahead_expired m e = by_test (is_vacant (expired m e.group))
  where
    by_test : (b : Bool) → IfSome (cond b None (Some (group_expired m e))) (λ e. AllAhead m e.group)
    by_test true = tt
    by_test false = AllAhead-expired m e.group

all_ahead : (m : ℕ) (groups : Groups) → All (λ _ e. AllAhead m e.group) (groups_expired m groups)
unfolding groups_expired
all_ahead m groups = all_then (λ _ _. Unit {0}) (λ _ e. AllAhead m e.group) (λ _ e. if_held (group_expired m e)) groups (λ _ e _. ahead_expired m e)
    (λ _ _ _. tt)

same_heads : (g : GroupState) (due : Bool) → (m : ℕ) → AllAhead m g →
    (let left = cond due (retransmissions_counted g) g in IfSome (group_deadline left.mode) (λ d. m < d) × IfSome left.v1 (λ d. m < d) × IfSome left.v2
    (λ d. m < d))
same_heads g true m h = (h.group, h.v1, h.v2)
same_heads g false m h = (h.group, h.v1, h.v2)

beyond_round : (timing : Timing) (m : ℕ) (e : ScheduledGroup) → 0 < timing.last_member_interval → AllAhead m e.group → IsBeyond m (after_round timing m e)
beyond_round timing m e positive h =
    let heads = same_heads e.group (is_due m e.schedule.sources_due) m h in
    record {
      timers = record {
        group = heads.0;
        sources = λ s. subst (λ d. IfSome d (λ d. m < d)) (sym (deadlines_stay timing m e s)) (h.sources s);
        v1 = heads.1;
        v2 = heads.2;
      };
      schedule = quiet_after_round timing m e positive;
    }

all_beyond : (timing : Timing) (m : ℕ) (groups : Groups) → 0 < timing.last_member_interval → All (λ _ e. AllAhead m e.group) groups →
    All (λ _. IsBeyond m) (groups_after_round timing m groups)
unfolding groups_after_round
all_beyond timing m groups positive all = all_then (λ _ e. AllAhead m e.group) (λ _. IsBeyond m) (λ _ e. Some (after_round timing m e)) groups
    (λ _ e h. beyond_round timing m e positive h) all

pub later_after_tick : (config : Configuration) (m : ℕ) (state : LinkState) → AreInRange config.timing → IsWellFormed config state →
    m < next_of (tick_at config m state).state
later_after_tick config m state own h = least_above m (next_moment election.role) (moments_in groups) election_later groups_later
  where
    election : ElectionState
    election = ticked config.timing m state.election

    groups : Groups
    groups = groups_after_round election.timing m (groups_expired m state.groups)

    election_later : m < next_moment election.role
    election_later = later_moment config.timing m state.election (omega (arith, own.query_seconds.at_least)) (omega (arith, h.timing.query_seconds.at_least))

    positive : 0 < election.timing.last_member_interval
    positive = let t = ticked_timing config.timing m state.election own h.timing in omega (arith, t.last_member_interval.at_least)

    groups_later : AllAbove m (moments_in groups)
    groups_later = values_above m moments_of (map.entries groups)
        (each-entry (λ _ e. AllAbove m (moments_of e)) groups
        (λ q e is. above_beyond m e (all_beyond election.timing m (groups_expired m state.groups) positive (all_ahead m state.groups) q e is)))
