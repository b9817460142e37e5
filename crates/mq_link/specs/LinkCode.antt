-- The codes of a link's parts, by which proofs distinguish links.
use Rattle.std.specs.Prelude.{◌≡◌, ℕ, Bool, true, false, List, refl}
use Rattle.std.specs.Coded.{Coded, code_by, coded×, coded_ℕ, coded_bool, coded_list}
use Rattle.std.specs.FinMap as map
use Rattle.mq_wire.specs.Family.{Family, Igmp, Mld}
use Rattle.mq_table.specs.declared.timers.FilterMode.{FilterMode}
use Rattle.mq_table.specs.declared.timers.SourceTimer.{SourceTimer}
use Rattle.mq_table.specs.Variables.{Variables}
use Rattle.mq_sched.specs.declared.queries.QuerySchedule.{QuerySchedule}
use Rattle.mq_sched.specs.Election.{Role, Querier, Other}
use Rattle.mq_held.specs.Groups.{Groups}
use Rattle.mq_held.specs.Held.{scheduled_code}
use Rattle.mq_link.specs.declared.configuration.Limits.{Limits}
use Rattle.mq_link.specs.declared.ranges.GroupRange.{GroupRange}
use Rattle.mq_link.specs.Ranges.{range_code}
use Rattle.mq_link.specs.Configuration.{Configuration}
use Rattle.mq_link.specs.Counted.{counters_code}
use Rattle.mq_link.specs.Counters.{Counters}
use Rattle.mq_link.specs.Link.{LinkValue}
use Rattle.mq_link.specs.Router.{RouterValue, link_of}

abbrev pub is_mld : Family → Bool
is_mld Igmp = false
is_mld Mld = true

abbrev pub family_if : Bool → Family
family_if false = Igmp
family_if true = Mld

abbrev pub family_back : (family : Family) → family_if (is_mld family) ≡ family
family_back Igmp = refl
family_back Mld = refl

abbrev pub family_code : Coded Family
family_code = code_by Bool coded_bool is_mld family_if family_back

abbrev pub variables_code : Coded Variables
variables_code =
    code_by ((ℕ × ℕ) × (ℕ × (ℕ × ℕ))) (coded× (coded× coded_ℕ coded_ℕ) (coded× coded_ℕ (coded× coded_ℕ coded_ℕ)))
    (λ v. ((v.robustness, v.query_seconds), (v.response_interval, (v.last_member_interval, v.last_member_query_count))))
    (λ p. record {
      robustness = p.0.0;
      query_seconds = p.0.1;
      response_interval = p.1.0;
      last_member_interval = p.1.1.0;
      last_member_query_count = p.1.1.1;
    })
    (λ _. refl)

abbrev pub limits_code : Coded Limits
limits_code =
    code_by ((ℕ × ℕ) × (ℕ × ℕ)) (coded× (coded× coded_ℕ coded_ℕ) (coded× coded_ℕ coded_ℕ))
    (λ l. ((l.groups, l.group_sources), (l.sources, l.scheduled)))
    (λ p. record { groups = p.0.0; group_sources = p.0.1; sources = p.1.0; scheduled = p.1.1 })
    (λ _. refl)

abbrev pub configuration_code : Coded Configuration
configuration_code =
    code_by ((Family × Variables) × ((Limits × Limits) × ((ℕ × Bool) × List GroupRange)))
    (coded× (coded× family_code variables_code)
    (coded× (coded× limits_code limits_code) (coded× (coded× coded_ℕ coded_bool) (coded_list range_code))))
    (λ c. ((c.family, c.timing), ((c.limits, c.room), ((c.own, c.source_specific), c.ranges))))
    (λ p. record {
      family = p.0.0;
      timing = p.0.1;
      limits = p.1.0.0;
      own = p.1.1.0.0;
      source_specific = p.1.1.0.1;
      room = p.1.0.1;
      ranges = p.1.1.1;
    })
    (λ _. refl)

-- a role: a flag for the querier, and its two numbers
abbrev pub role_parts : Role → Bool × (ℕ × ℕ)
role_parts (Querier due startup_queries) = (true, (due, startup_queries))
role_parts (Other address deadline) = (false, (address, deadline))

abbrev pub role_if : Bool → ℕ × ℕ → Role
role_if true p = Querier p.0 p.1
role_if false p = Other p.0 p.1

abbrev pub role_of : Bool × (ℕ × ℕ) → Role
role_of p = role_if p.0 p.1

abbrev pub role_back : (role : Role) → role_of (role_parts role) ≡ role
role_back (Querier due startup_queries) = refl
role_back (Other address deadline) = refl

abbrev pub role_code : Coded Role
role_code = code_by (Bool × (ℕ × ℕ)) (coded× coded_bool (coded× coded_ℕ coded_ℕ)) role_parts role_of role_back

abbrev pub link_code : Coded FilterMode → Coded SourceTimer → Coded QuerySchedule → Coded LinkValue
link_code mode timer query =
    code_by ((Configuration × (Groups × (Role × Variables))) × (ℕ × (Counters × (ℕ × (ℕ × List ℕ)))))
    (coded× (coded× configuration_code (coded× (map.code coded_ℕ (scheduled_code mode timer query)) (coded× role_code variables_code)))
    (coded× coded_ℕ (coded× counters_code (coded× coded_ℕ (coded× coded_ℕ (coded_list coded_ℕ))))))
    (λ v. ((v.config, (v.state.groups, (v.state.election.role, v.state.election.timing))), (v.state.last, (v.state.counters, (v.spent, (v.moved, v.changed))))))
    (λ p. record {
      config = p.0.0;
      state = record {
        groups = p.0.1.0;
        election = record { role = p.0.1.1.0; timing = p.0.1.1.1 };
        last = p.1.0;
        counters = p.1.1.0;
      };
      spent = p.1.1.1.0;
      moved = p.1.1.1.1.0;
      changed = p.1.1.1.1.1;
    })
    (λ _. refl)

-- the code of the inside of a link: the link around it, and the moves in reserve
abbrev pub router_code : Coded FilterMode → Coded SourceTimer → Coded QuerySchedule → Coded RouterValue
router_code mode timer query =
    code_by (LinkValue × ℕ) (coded× (link_code mode timer query) coded_ℕ)
    (λ r. (link_of r, r.put_by))
    (λ p. record {
      at = record { config = p.0.config; election = p.0.state.election; now = p.0.state.last };
      groups = p.0.state.groups;
      counters = p.0.state.counters;
      spent = p.0.spent;
      moved = p.0.moved;
      put_by = p.1;
    })
    (λ _. refl)
