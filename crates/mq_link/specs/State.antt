-- The state of a link (RFC 3376 sections 6.2 and 6.6.2, RFC 3810 sections 7.2 and 7.6.2).
use Rattle.std.specs.Prelude.{◌≡◌, ℕ, ◌+◌, ◌≤◌, Bool, true, false, ◌&&◌, None, Some}
use Rattle.std.specs.FinMap as map
use Rattle.mq_table.specs.Variables.{AreInRange}
use Rattle.mq_table.specs.Group.{GroupState, is_include, forwards_in, IsWellFormed as IsHeld}
use Rattle.mq_sched.specs.Schedule.{ScheduledGroup, no_schedule, IsScheduleOf}
use Rattle.mq_sched.specs.Election.{ElectionState, election_at, is_querier}
pub use Rattle.mq_held.specs.Groups.{Groups, unheld, group_at, with_group, sources_of, sources_in, one_if, schedules_of, schedules_in}
use Rattle.mq_link.specs.declared.configuration.Limits.{Limits}
use Rattle.mq_link.specs.Family.{is_admitted, in_source_specific_range}
use Rattle.mq_link.specs.Configuration.{Configuration}
use Rattle.mq_link.specs.Counters.{Counters, no_counts}

-- The groups, the querier with the timing in force, the last moment that was given, and the counters.
pub record LinkState : Type 0 where
  pub groups : Groups
  pub election : ElectionState
  pub last : ℕ
  pub counters : Counters

-- the state at the start: nothing is held, the router is querier, and its first general query is due
abbrev pub link_at : Configuration → (start : ℕ) → LinkState
link_at config start = record {
  groups = map.empty;
  election = election_at config.timing start;
  last = start;
  counters = no_counts;
}

-- the group forwards this source, at the last moment that was given (RFC 3376 section 6.3, RFC 3810 section 7.3)
abbrev pub forwards : LinkState → (group source : ℕ) → Bool
forwards state group source = forwards_in (group_at state.groups group).group source

-- the number of held items: the groups, and the sources of all of them
abbrev pub held_of : LinkState → ℕ
held_of state = map.len state.groups + sources_in state.groups

abbrev pub scheduled_of : LinkState → ℕ
scheduled_of state = schedules_in state.groups

-- the groups are within the limits
pub record AreWithin (limits : Limits) (groups : Groups) : Type 0 where
  pub group_count : map.len groups ≤ limits.groups
  pub group_sources : (group : ℕ) → sources_of (group_at groups group) ≤ limits.group_sources
  pub sources : sources_in groups ≤ limits.sources
  pub scheduled : schedules_in groups ≤ limits.scheduled

-- a group without EXCLUDE and older hosts, as each of the source-specific range is (RFC 4604 sections 3.1 and 3.5)
pub record IsSourceSpecific (g : GroupState) : Type 0 where
  pub include : is_include g.mode ≡ true
  pub no_v1 : g.v1 ≡ None
  pub no_v2 : g.v2 ≡ None

abbrev pub is_source_specific : Configuration → ℕ → Bool
is_source_specific config group = config.source_specific && in_source_specific_range config.family group

-- A group as a link holds it. It is admitted, its state is that of a held group, and its schedule fits. If the
-- source-specific range is kept, the group is source-specific in it.
pub record IsHeldAs (config : Configuration) (group : ℕ) (e : ScheduledGroup) : Type 0 where
  pub admitted : is_admitted config.family group ≡ true
  pub held : IsHeld e.group
  pub fits : IsScheduleOf e.group e.schedule
  pub source_specific : is_source_specific config group ≡ true → IsSourceSpecific e.group

-- nothing is to go for a group
pub record IsSilent (e : ScheduledGroup) : Type 0 where
  pub schedule : e.schedule ≡ no_schedule

-- A link may be in this state. Each group may be held, and all are within the limits. The timing in force is in range,
-- and a router that isn't querier has nothing to send.
pub record IsWellFormed (config : Configuration) (state : LinkState) : Type 0 where
  pub groups : (group : ℕ) (e : ScheduledGroup) → map.get state.groups group ≡ Some e → IsHeldAs config group e
  pub within : AreWithin config.limits state.groups
  pub timing : AreInRange state.election.timing
  pub silent : is_querier state.election.role ≡ false
      → (group : ℕ) (e : ScheduledGroup) → map.get state.groups group ≡ Some e → IsSilent e
