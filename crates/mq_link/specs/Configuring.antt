-- Another configuration for a running link. The variables of RFC 3376 section 8 and RFC 3810 section 9 may be set by an
-- administrator; the limits and their refusal are this project's.
use Rattle.std.specs.Prelude.{◌≡◌, ℕ, not, ◌&&◌, ◌||◌, nat_lt, Bool, [], ◌∷◌, Option, None, Some, is_none, Result, Ok, Err}
use Rattle.std.specs.List.{list_any}
use Rattle.std.specs.FinMap as map
use Rattle.mq_table.specs.Group.{GroupState, is_include}
use Rattle.mq_sched.specs.Schedule.{ScheduledGroup}
use Rattle.mq_sched.specs.Election.{reconfigured}
use Rattle.mq_link.specs.declared.configuration.ConfigureFault.{ConfigureFault}
use Rattle.mq_link.specs.declared.configuration.ConfigureFault.TheVariants.{Room, Held}
use Rattle.mq_link.specs.declared.configuration.Limits.{Limits}
use Rattle.mq_link.specs.Configuration.{Configuration}
use Rattle.mq_link.specs.Link.{LinkValue}
use Rattle.mq_link.specs.State.{Groups, LinkState, is_source_specific, sources_in, sources_of, schedules_in}
use Rattle.mq_link.specs.Tests.{first_named}

-- a limit exceeds that for which the link's memory was allocated
abbrev pub exceeds_room : (room limits : Limits) → Bool
exceeds_room room limits =
    nat_lt room.groups limits.groups || nat_lt room.group_sources limits.group_sources
    || nat_lt room.sources limits.sources || nat_lt room.scheduled limits.scheduled

-- the group is INCLUDE without older hosts, as each of the kept source-specific range is
abbrev pub names_sources_alone : GroupState → Bool
names_sources_alone g = is_include g.mode && is_none g.v1 && is_none g.v2

-- a link of this configuration may not hold the group: it has too many sources, or isn't source-specific in the range
abbrev pub is_barred : Configuration → ℕ × ScheduledGroup → Bool
is_barred config entry =
    nat_lt config.limits.group_sources (sources_of entry.1)
    || is_source_specific config entry.0 && not (names_sources_alone entry.1.group)

-- a link of this configuration may not hold these groups
abbrev pub are_barred : Configuration → Groups → Bool
are_barred config groups =
    nat_lt config.limits.groups (map.len groups) || nat_lt config.limits.sources (sources_in groups)
    || nat_lt config.limits.scheduled (schedules_in groups) || list_any (is_barred config) (map.entries groups)

-- the first reason to refuse another configuration
abbrev pub configure_fault : (before asked : Configuration) → Groups → Option ConfigureFault
configure_fault before asked groups =
    first_named ((Room, exceeds_room before.room asked.limits) ∷ (Held, are_barred asked groups) ∷ [])

-- The configuration afterwards: the link keeps its memory.
abbrev pub config_after : (before asked : Configuration) → Configuration
config_after before asked = record asked { room = before.room }

-- The state afterwards. Only the election differs: the groups with their timers and schedules, the last moment and the
-- counters stay.
abbrev pub state_configured : (before asked : Configuration) → LinkState → LinkState
state_configured before asked state =
    record state { election = reconfigured before.timing asked.timing asked.own state.last state.election }

abbrev pub link_configured : (asked : Configuration) → LinkValue → LinkValue
link_configured asked link =
    record link { config = config_after link.config asked; state = state_configured link.config asked link.state }

-- The link has this configuration afterwards, or refuses it for the first reason that holds and is unchanged.
abbrev pub Configures : (asked : Configuration) → (before after : LinkValue) → Result Unit ConfigureFault → Type 0
Configures asked before after (Ok done) =
    (configure_fault before.config asked before.state.groups ≡ None) × (after ≡ link_configured asked before)
Configures asked before after (Err fault) =
    (configure_fault before.config asked before.state.groups ≡ Some fault) × (after ≡ before)
