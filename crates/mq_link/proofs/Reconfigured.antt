-- A link stays a link when it gets another configuration.
use Rattle.mq_link.proofs.Common.{IsAscending, length, len-timers_in, number_in, Source, timers_in, ◌+◌, ◌<◌, ap, get_or, list_any_more, take}
use Rattle.mq_link.proofs.Common.{[], ◌&&◌, ◌||◌, ◌∙◌, ◌∷◌, ◌≡◌, ◌≤◌, AreInRange, AreSound, arith, Bool, cond, Configuration}
use Rattle.mq_link.proofs.Common.{ElectionState, eqb, false, first_named, group_at, Groups, GroupState, is_include, is_querier, IsFaultless}
use Rattle.mq_link.proofs.Common.{IsWellFormed, IsWithin, IsWithinRoom, KeepsIntervals, LinkState, List, list_any, ltb, ltb-false, no_sources, None}
use Rattle.mq_link.proofs.Common.{not, Option, Other, Querier, refl, Role, ScheduledGroup, schedules_in, Setting, Some, sources_in, sources_of, sym}
use Rattle.mq_link.proofs.Common.{Timing, true, unheld, unwrap_or, ℕ}
use Rattle.std.specs.FinMap as map
use Rattle.std.specs.Prelude.{is_none}
use Rattle.mq_held.proofs.Entries.{get-place, key_at}
use Rattle.mq_held.specs.Places.{HasPlace}
use Rattle.mq_sched.specs.Election.{outranks, reconfigured, reconfigured_value, role_reconfigured, timing_reconfigured}
use Rattle.mq_link.specs.Configuring.{are_barred, config_after, configure_fault, exceeds_room, is_barred, names_sources_alone, state_configured}
use Rattle.mq_link.specs.declared.configuration.ConfigureFault.TheVariants.{Held, Room}
use Rattle.mq_link.specs.State.{IsSourceSpecific, is_source_specific}
use Rattle.mq_link.proofs.Faultless.{timing_in_range}
use Rattle.mq_link.proofs.Silent.{Each, from-each}

-- none of the tests holds
none_of : (a b c d : Bool) → (a || b || c || d) ≡ false → (a ≡ false) × (b ≡ false) × (c ≡ false) × (d ≡ false)
none_of false false false false h = (refl, refl, refl, refl)
none_of _ _ _ _ h = cc

neither : (a b : Bool) → (a || b) ≡ false → (a ≡ false) × (b ≡ false)
neither true b h = cc
neither false b h = (refl, h)

-- either the router is querier at once, or it keeps its role
abbrev decided : (before configured : Timing) (now : ℕ) (e : ElectionState) → Bool → ElectionState
decided before configured now e b =
    let timing = timing_reconfigured before configured e.timing in
    cond b (record { role = Querier now 0; timing = configured }) (record { role = role_reconfigured timing now e.role; timing = timing })

-- the timing in force has the configured intervals, and is in range
pub kept-reconfigured : (before configured : Timing) (own now : ℕ) (e : ElectionState) →
    KeepsIntervals configured (reconfigured before configured own now e).timing
kept-reconfigured before configured own now e = by_rank (outranks own e.role)
  where
    by_rank : (b : Bool) → KeepsIntervals configured (decided before configured now e b).timing
    by_rank true = record { response = refl; last_member = refl }
    by_rank false = record { response = refl; last_member = refl }

value_within : (most before configured in_force : ℕ) → IsWithin 1 most configured → IsWithin 1 most in_force →
    IsWithin 1 most (reconfigured_value before configured in_force)
value_within most before configured in_force own h = by_test (eqb configured before)
  where
    by_test : (b : Bool) → IsWithin 1 most (cond b in_force configured)
    by_test true = h
    by_test false = own

pub reconfigured_timing : (before configured : Timing) (own now : ℕ) (e : ElectionState) → AreInRange configured → AreInRange e.timing →
    AreInRange (reconfigured before configured own now e).timing
reconfigured_timing before configured own now e wanted in_force = by_rank (outranks own e.role)
  where
    by_rank : (b : Bool) → AreInRange (decided before configured now e b).timing
    by_rank true = wanted
    by_rank false = record {
      robustness = value_within 7 before.robustness configured.robustness e.timing.robustness wanted.robustness in_force.robustness;
      query_seconds = value_within 31744 before.query_seconds configured.query_seconds e.timing.query_seconds wanted.query_seconds in_force.query_seconds;
      response_interval = wanted.response_interval;
      last_member_interval = wanted.last_member_interval;
      last_member_query_count = wanted.last_member_query_count;
    }

-- a router that isn't querier afterwards wasn't before
pub other_before : (before configured : Timing) (own now : ℕ) (e : ElectionState) →
    is_querier (reconfigured before configured own now e).role ≡ false → is_querier e.role ≡ false
other_before before configured own now e = by_rank (outranks own e.role)
  where
    by_role : (timing : Timing) (role : Role) → is_querier (role_reconfigured timing now role) ≡ false → is_querier role ≡ false
    by_role timing (Querier due startup_queries) h = h
    by_role timing (Other address deadline) h = refl

    by_rank : (b : Bool) → is_querier (decided before configured now e b).role ≡ false → is_querier e.role ≡ false
    by_rank true h = cc
    by_rank false h = by_role (timing_reconfigured before configured e.timing) e.role h

-- no group of the list is barred, so no group of the map is
none_barred : (config : Configuration) (es : List (ℕ × ScheduledGroup)) → list_any (is_barred config) es ≡ false →
    Each (λ group e. is_barred config (group, e) ≡ false) es
none_barred config [] h = tt
none_barred config (e ∷ es) h = (let parts = neither (is_barred config e) (list_any (is_barred config) es) h in (parts.0, none_barred config es parts.1))

allowed : (config : Configuration) (groups : Groups) → list_any (is_barred config) (map.entries groups) ≡ false →
    (group : ℕ) (e : ScheduledGroup) → map.get groups group ≡ Some e → is_barred config (group, e) ≡ false
allowed config groups h group e is =
    from-each (λ group e. is_barred config (group, e) ≡ false) (map.entries groups) (none_barred config (map.entries groups) h) group e
    (sym (map.get-entries groups group) ∙ is)

-- a stored group has as many sources as its row
pub size_stored : {K : Type 0} (number : K → ℕ) (row : List (Source K)) → IsAscending (number_in number) row
    → map.len (timers_in number row) ≡ length row
size_stored number row up = len-timers_in number row up

-- the entry at the place of a group
pub entry_at : (groups : Groups) (address place : ℕ) (e : ScheduledGroup) → HasPlace groups address place → e ≡ group_at groups address
    → (d : ℕ × ScheduledGroup) → ◌≡◌ {A = ℕ × ScheduledGroup} (get_or (map.entries groups) place d) (address, e)
entry_at groups address place e has is d =
    let key = key_at groups address place has.address_is d in
    let found : group_at groups address ≡ (get_or (map.entries groups) place d).1 = ap (λ (o : Option ScheduledGroup). unwrap_or o unheld)
    (get-place groups address place has.address_is d) in
    λ i. (key i, sym (is ∙ found) i)

-- so one barred group more is looked for
pub barred_more : (config : Configuration) (groups : Groups) (address place : ℕ) (e : ScheduledGroup) → place < map.len groups
    → HasPlace groups address place → e ≡ group_at groups address
    → list_any (is_barred config) (take place (map.entries groups)) ≡ false
    → list_any (is_barred config) (take (place + 1) (map.entries groups)) ≡ is_barred config (address, e)
barred_more config groups address place e within has is none =
    list_any_more (is_barred config) (map.entries groups) place (address, e) (omega (arith, within, map.len-entries groups))
    ∙ (λ i. none i || is_barred config (entry_at groups address place e has is (address, e) i))

-- a group that isn't barred is source-specific where it has to be
source_specific_so : (g : GroupState) → names_sources_alone g ≡ true → IsSourceSpecific g
source_specific_so g h = record {
  include = parts.0;
  no_v1 = none_so g.v1 parts.1;
  no_v2 = none_so g.v2 parts.2;
}
  where
    all_three : (a b c : Bool) → (a && b && c) ≡ true → (a ≡ true) × (b ≡ true) × (c ≡ true)
    all_three true true true h = (refl, refl, refl)
    all_three _ _ _ h = cc

    parts : (is_include g.mode ≡ true) × (is_none g.v1 ≡ true) × (is_none g.v2 ≡ true)
    parts = all_three (is_include g.mode) (is_none g.v1) (is_none g.v2) h

    none_so : (moment : Option ℕ) → is_none moment ≡ true → moment ≡ None
    none_so None h = refl
    none_so (Some moment) h = cc

not_barred : (kept alone : Bool) → (kept && not alone) ≡ false → kept ≡ true → alone ≡ true
not_barred true true h k = refl
not_barred true false h k = cc
not_barred false alone h k = cc

few_of : (limit : ℕ) (groups : Groups) → ((group : ℕ) (e : ScheduledGroup) → map.get groups group ≡ Some e → ltb limit (sources_of e) ≡ false) →
    (group : ℕ) → sources_of (group_at groups group) ≤ limit
few_of limit groups each group = by_group (map.get groups group) refl
  where
    by_group : (e : Option ScheduledGroup) → map.get groups group ≡ e → sources_of (unwrap_or e unheld) ≤ limit
    by_group None is = omega (arith, no_sources)
    by_group (Some e) is = ltb-false limit (sources_of e) (each group e is)

-- the groups are sound under another configuration of the same family if none is barred
pub sound_configured : (at : Setting) (asked : Configuration) (groups : Groups) → asked.family ≡ at.config.family → are_barred asked groups ≡ false →
    AreSound at groups → (let election = reconfigured at.config.timing asked.timing asked.own at.now at.election in
    AreSound (record at { config = config_after at.config asked; election = election }) groups)
sound_configured at asked groups family none sound = record {
  all = λ group e is.
      let was = sound.all group e is in
      record {
        admitted = rw family was.admitted;
        held = was.held;
        fits = was.fits;
        source_specific = λ kept. source_specific_so e.group (not_barred (is_source_specific asked group) (names_sources_alone e.group)
            (each group e is).1 kept);
      };
  within = record {
    group_count = ltb-false asked.limits.groups (map.len groups) parts.0;
    group_sources = few_of asked.limits.group_sources groups (λ group e is. (each group e is).0);
    sources = ltb-false asked.limits.sources (sources_in groups) parts.1;
    scheduled = ltb-false asked.limits.scheduled (schedules_in groups) parts.2;
  };
  silent = λ other. sound.silent (other_before at.config.timing asked.timing asked.own at.now at.election other);
}
  where
    parts : (ltb asked.limits.groups (map.len groups) ≡ false) × (ltb asked.limits.sources (sources_in groups) ≡ false) ×
        (ltb asked.limits.scheduled (schedules_in groups) ≡ false) × (list_any (is_barred asked) (map.entries groups) ≡ false)
    parts = none_of _ _ _ _ none

    each : (group : ℕ) (e : ScheduledGroup) → map.get groups group ≡ Some e → (ltb asked.limits.group_sources (sources_of e) ≡ false) ×
        ((is_source_specific asked group && not (names_sources_alone e.group)) ≡ false)
    each group e is = neither _ _ (allowed asked groups parts.3 group e is)

-- the limits are within the room of the link
pub within_room : (before asked : Configuration) → exceeds_room before.room asked.limits ≡ false → IsWithinRoom before
    → IsWithinRoom (config_after before asked)
within_room before asked fits was = record {
  groups = ltb-false before.room.groups asked.limits.groups parts.0;
  group_sources = ltb-false before.room.group_sources asked.limits.group_sources parts.1;
  sources = ltb-false before.room.sources asked.limits.sources parts.2;
  scheduled = ltb-false before.room.scheduled asked.limits.scheduled parts.3;
  few_groups = was.few_groups;
  few_sources = was.few_sources;
}
  where
    parts : (ltb before.room.groups asked.limits.groups ≡ false) × (ltb before.room.group_sources asked.limits.group_sources ≡ false) ×
        (ltb before.room.sources asked.limits.sources ≡ false) × (ltb before.room.scheduled asked.limits.scheduled ≡ false)
    parts = none_of _ _ _ _ fits

-- so a link may be in the state afterwards
pub IsWellFormed-configured : (config asked : Configuration) (state : LinkState) → IsFaultless asked → asked.family ≡ config.family
    → configure_fault config asked state.groups ≡ None → IsWellFormed config state
    → IsWellFormed (config_after config asked) (state_configured config asked state)
IsWellFormed-configured config asked state faultless family none h =
    let at : Setting = record { config = config; election = state.election; now = state.last } in
    let sound = sound_configured at asked state.groups family (none_barred_so none)
    (record { all = h.groups; within = h.within; silent = h.silent }) in
    record {
      groups = sound.all;
      within = sound.within;
      timing = reconfigured_timing config.timing asked.timing asked.own state.last state.election (timing_in_range asked faultless) h.timing;
      silent = sound.silent;
    }
  where
    by_tests : (exceeds barred : Bool) → first_named ((Room, exceeds) ∷ (Held, barred) ∷ []) ≡ None → barred ≡ false
    by_tests true barred h = cc
    by_tests false true h = cc
    by_tests false false h = refl

    none_barred_so : configure_fault config asked state.groups ≡ None → are_barred asked state.groups ≡ false
    none_barred_so = by_tests (exceeds_room config.room asked.limits) (are_barred asked state.groups)
