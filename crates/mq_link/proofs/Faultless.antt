-- A configuration without a fault has its variables in range, and a link is well-formed at its start.
use Rattle.mq_link.proofs.Common.{◌≡◌, ℕ, ◌≤◌, Bool, true, false, ◌||◌, refl, [], ◌∷◌, Option, None, Some, sym, subst, arith, ltb, leb, ltb-false, list_map}
use Rattle.mq_link.proofs.Common.{unwrap_or, nat_cmp, sum_by, Family, Igmp, Mld, IsWithin, AreInRange, query_interval, ScheduledGroup, ConfigFault, Robustness}
use Rattle.mq_link.proofs.Common.{QueryInterval, ResponseInterval, LastMember, response_unit, greatest_response, Configuration, is_outside, limit_fault}
use Rattle.mq_link.proofs.Common.{timing_fault, else_fault, as_fault, IsFaultless, first_named, not, OwnAddress, is_router_address}
use Rattle.std.specs.FinMap as map
use Rattle.mq_link.specs.declared.configuration.ConfigFault.TheVariants.{LastMemberCount}
use Rattle.mq_link.specs.declared.configuration.LimitName.{LimitName}
use Rattle.mq_link.specs.declared.configuration.LimitName.TheVariants.{Groups, GroupSources, Sources, Scheduled}
use Rattle.mq_link.specs.State.{unheld, sources_of, schedules_of, IsWellFormed, link_at}
use Rattle.mq_link.proofs.{Bounds.no_sources, Known.entries-known}

first_none : (a b : Option ConfigFault) → else_fault a b ≡ None → a ≡ None
first_none None b h = refl
first_none (Some fault) b h = cc

second_none : (a b : Option ConfigFault) → else_fault a b ≡ None → b ≡ None
second_none None b h = h
second_none (Some fault) b h = cc

no_limit : (which : Option LimitName) → as_fault which ≡ None → which ≡ None
no_limit None h = refl
no_limit (Some which) h = cc

inside : (low high n : ℕ) → is_outside low high n ≡ false → IsWithin low high n
inside low high n h = by_tests (ltb n low) (ltb high n) refl refl h
  where
    by_tests : (a b : Bool) → ltb n low ≡ a → ltb high n ≡ b → (a || b) ≡ false → IsWithin low high n
    by_tests true b p q h = cc
    by_tests false true p q h = cc
    by_tests false false p q h = record { at_least = ltb-false n low p; at_most = ltb-false high n q }

none_of_four : {X : Type 0} (a b c d : Bool) (w x y z : X) → first_named ((w, a) ∷ (x, b) ∷ (y, c) ∷ (z, d) ∷ []) ≡ None → (a ≡ false) × (b ≡ false) ×
    (c ≡ false) × (d ≡ false)
none_of_four false false false false w x y z h = (refl, refl, refl, refl)
none_of_four _ _ _ _ w x y z h = cc

none_of_two : {X : Type 0} (a b : Bool) (w x : X) → first_named ((w, a) ∷ (x, b) ∷ []) ≡ None → (a ≡ false) × (b ≡ false)
none_of_two false false w x h = (refl, refl)
none_of_two _ _ w x h = cc

left_false : (a b : Bool) → (a || b) ≡ false → a ≡ false
left_false true b h = cc
left_false false b h = refl

-- a value of a response code is in the range of a timing, for both families
response_within : (family : Family) (n : ℕ) → IsWithin (response_unit family) (greatest_response family) n → IsWithin 1 8387584 n
response_within Igmp n h = record { at_least = let a = h.at_least in omega arith; at_most = let b = h.at_most in omega arith }
response_within Mld n h = record { at_least = let a = h.at_least in omega arith; at_most = let b = h.at_most in omega arith }

-- the limits of groups, of sources of a group, and of all sources and schedules
in_limits : (config : Configuration) → IsFaultless config → IsWithin 1 65535 config.limits.groups × IsWithin 1 1024 config.limits.group_sources ×
    IsWithin 1 65535 config.limits.sources × IsWithin 1 65535 config.limits.scheduled
in_limits config h =
    let l = config.limits in
    let none = no_limit (limit_fault l) (first_none (as_fault (limit_fault l)) _ (second_none (timing_fault config.family config.timing) _ h)) in
    let tests = none_of_four (is_outside 1 65535 l.groups) (is_outside 1 1024 l.group_sources) (is_outside 1 65535 l.sources)
    (is_outside 1 65535 l.scheduled) Groups GroupSources Sources Scheduled none in
    (inside 1 65535 l.groups tests.0, inside 1 1024 l.group_sources tests.1, inside 1 65535 l.sources tests.2, inside 1 65535 l.scheduled tests.3)

pub few_groups : (config : Configuration) → IsFaultless config → config.limits.groups ≤ 65535
few_groups config h = (in_limits config h).0.at_most

pub some_groups : (config : Configuration) → IsFaultless config → 1 ≤ config.limits.groups
some_groups config h = (in_limits config h).0.at_least

pub few_sources : (config : Configuration) → IsFaultless config → config.limits.group_sources ≤ 1024
few_sources config h = (in_limits config h).1.at_most

pub few_in_all : (config : Configuration) → IsFaultless config → (config.limits.sources ≤ 65535) × (config.limits.scheduled ≤ 65535)
few_in_all config h = ((in_limits config h).2.at_most, (in_limits config h).3.at_most)

-- the own address and the last member query count
own_and_count : (config : Configuration) → IsFaultless config → (not (is_router_address config.family config.own) ≡ false) ×
    (ltb 7 config.timing.last_member_query_count ≡ false)
own_and_count config h = none_of_two (not (is_router_address config.family config.own)) (ltb 7 config.timing.last_member_query_count)
    OwnAddress LastMemberCount (second_none (as_fault (limit_fault config.limits)) _ (second_none (timing_fault config.family config.timing) _ h))

pub timing_in_range : (config : Configuration) → IsFaultless config → AreInRange config.timing
timing_in_range config h =
    let t = config.timing in
    let low = response_unit config.family in
    let high = greatest_response config.family in
    let tests = none_of_four (is_outside 1 7 t.robustness) (is_outside 1 31744 t.query_seconds)
    (is_outside low high t.response_interval || leb (query_interval t) t.response_interval)
    (is_outside low high t.last_member_interval) Robustness QueryInterval ResponseInterval LastMember (first_none (timing_fault config.family t) _ h) in
    record {
      robustness = inside 1 7 t.robustness tests.0;
      query_seconds = inside 1 31744 t.query_seconds tests.1;
      response_interval = response_within config.family t.response_interval
          (inside low high t.response_interval (left_false (is_outside low high t.response_interval) (leb (query_interval t) t.response_interval) tests.2));
      last_member_interval = response_within config.family t.last_member_interval (inside low high t.last_member_interval tests.3);
      last_member_query_count = ltb-false 7 t.last_member_query_count (own_and_count config h).1;
    }

none_held : (group : ℕ) → map.get (map.empty {X = ScheduledGroup} {R = nat_cmp}) group ≡ None
none_held group = map.get-empty nat_cmp group

no_values : map.entries (map.empty {X = ScheduledGroup} {R = nat_cmp}) ≡ []
no_values = entries-known []

pub IsWellFormed-link_at : (config : Configuration) (start : ℕ) → IsFaultless config → IsWellFormed config (link_at config start)
IsWellFormed-link_at config start h = record {
  groups = λ group e is. let none = none_held group in cc;
  within = record {
    group_count = let e : map.len (map.empty {X = ScheduledGroup} {R = nat_cmp}) ≡ 0 = map.len-empty nat_cmp ScheduledGroup in omega arith;
    group_sources = λ group. subst (λ e. sources_of (unwrap_or e unheld) ≤ config.limits.group_sources) (sym (none_held group))
        (let n = no_sources in omega arith);
    sources = subst (λ es. sum_by sources_of (list_map (λ (e : ℕ × ScheduledGroup). e.1) es) ≤ config.limits.sources) (sym no_values) (omega arith);
    scheduled = subst (λ es. sum_by schedules_of (list_map (λ (e : ℕ × ScheduledGroup). e.1) es) ≤ config.limits.scheduled) (sym no_values) (omega arith);
  };
  timing = timing_in_range config h;
  silent = λ other. cc;
}
