-- The configuration of a link, and its faults.
use Rattle.std.specs.Prelude.{◌≡◌, ℕ, ◌≤◌, not, ◌||◌, nat_lt, nat_le, Bool, List, [], ◌∷◌, Option, None, Some}
use Rattle.mq_table.specs.declared.timing.Timing.{Timing}
use Rattle.mq_table.specs.Timing.{query_interval}
use Rattle.mq_wire.specs.Family.{Family}
use Rattle.mq_link.specs.declared.configuration.Limits.{Limits}
use Rattle.mq_link.specs.declared.configuration.LimitName.{LimitName}
use Rattle.mq_link.specs.declared.configuration.LimitName.TheVariants.{Groups, GroupSources, Sources, Scheduled}
use Rattle.mq_link.specs.declared.configuration.ConfigFault.{ConfigFault}
use Rattle.mq_link.specs.declared.configuration.ConfigFault.TheVariants.{Robustness, QueryInterval, ResponseInterval, LastMember, Limit, OwnAddress, LastMemberCount}
use Rattle.mq_link.specs.Family.{is_router_address, response_unit, greatest_response}
use Rattle.mq_link.specs.declared.ranges.GroupRange.{GroupRange}
use Rattle.mq_link.specs.Ranges.{is_allowed_by}
use Rattle.mq_link.specs.Tests.{first_named}

-- The configuration of a link. `timing` has the Robustness Variable, the Query Interval, the Query Response Interval
-- and the Last Member (Last Listener) Query Interval (RFC 3376 section 8, RFC 3810 section 9). It also has the Query
-- Count of that name. `own` is the router's own address. `source_specific` keeps the source-specific range for source-specific multicast. `room` has the limits
-- for which memory is allocated when the link is made. Those of a running link may be lowered, and raised again to
-- these. `ranges` says for which groups hosts may ask.
pub record Configuration : Type 0 where
  pub family : Family
  pub timing : Timing
  pub limits : Limits
  pub own : ℕ
  pub source_specific : Bool
  pub room : Limits
  pub ranges : List GroupRange

abbrev pub is_outside : (low high : ℕ) → ℕ → Bool
is_outside low high n = nat_lt n low || nat_lt high n

-- the first limit that is out of its range
abbrev pub limit_fault : Limits → Option LimitName
limit_fault limits = first_named (
    (Groups, is_outside 1 65535 limits.groups)
    ∷ (GroupSources, is_outside 1 1024 limits.group_sources)
    ∷ (Sources, is_outside 1 65535 limits.sources)
    ∷ (Scheduled, is_outside 1 65535 limits.scheduled)
    ∷ [])

-- The first fault of the variables. The query interval is one of those that QQIC can carry. The response interval is
-- below it, so the responses to one query end before the next (RFC 3376 sections 8.2 and 8.3, RFC 3810 sections 9.2 and
-- 9.3).
abbrev pub timing_fault : Family → Timing → Option ConfigFault
timing_fault family timing = first_named (
    (Robustness, is_outside 1 7 timing.robustness)
    ∷ (QueryInterval, is_outside 1 31744 timing.query_seconds)
    ∷ (
      ResponseInterval,
      is_outside (response_unit family) (greatest_response family) timing.response_interval
          || nat_le (query_interval timing) timing.response_interval,
    )
    ∷ (LastMember, is_outside (response_unit family) (greatest_response family) timing.last_member_interval)
    ∷ [])

abbrev pub else_fault : Option ConfigFault → Option ConfigFault → Option ConfigFault
else_fault None later = later
else_fault (Some fault) later = Some fault

abbrev pub as_fault : Option LimitName → Option ConfigFault
as_fault None = None
as_fault (Some which) = Some (Limit which)

-- the first fault in this order
abbrev pub configuration_fault : Configuration → Option ConfigFault
configuration_fault c =
    else_fault (timing_fault c.family c.timing)
    (else_fault (as_fault (limit_fault c.limits))
    (first_named ((OwnAddress, not (is_router_address c.family c.own)) ∷ (LastMemberCount, nat_lt 7 c.timing.last_member_query_count) ∷ [])))

-- The limits are no greater than those of the memory, which is allocated for at most 65535 groups and sources.
pub record IsWithinRoom (c : Configuration) : Type 0 where
  pub groups : c.limits.groups ≤ c.room.groups
  pub group_sources : c.limits.group_sources ≤ c.room.group_sources
  pub sources : c.limits.sources ≤ c.room.sources
  pub scheduled : c.limits.scheduled ≤ c.room.scheduled
  pub few_groups : c.room.groups ≤ 65535
  pub few_sources : c.room.sources ≤ 65535

-- hosts may ask for the group
abbrev pub is_allowed : Configuration → (group : ℕ) → Bool
is_allowed config group = is_allowed_by config.family config.ranges group

-- a configuration without a fault
abbrev pub IsFaultless : Configuration → Type 0
IsFaultless c = configuration_fault c ≡ None
