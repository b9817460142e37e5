-- The effect of a received query on a link (RFC 3376 sections 6.6.1 and 6.6.2, RFC 3810 sections 7.6.1 and 7.6.2).
use Rattle.std.specs.Prelude.{ℕ, ◌==◌, Bool, false, if◌then◌else◌, List, [], ◌∷◌, Option, None, Some}
use Rattle.std.specs.Ordering.{nat_cmp}
use Rattle.std.specs.FinSet as set
use Rattle.mq_wire.specs.declared.query.Query.{Query}
use Rattle.mq_wire.specs.declared.query.QueryVersion.{QueryVersion}
use Rattle.mq_wire.specs.declared.query.QueryVersion.TheVariants.{Older, Current}
use Rattle.mq_table.specs.declared.timing.Timing.{Timing}
use Rattle.mq_table.specs.Sets.{Set}
use Rattle.mq_table.specs.Maps.{kept}
use Rattle.mq_table.specs.Lowering.{lowered_by_query}
use Rattle.mq_sched.specs.declared.announced.Announced.{Announced}
use Rattle.mq_sched.specs.Schedule.{ScheduledGroup, cleared}
use Rattle.mq_sched.specs.Election.{ElectionState, heard, loses_role}
use Rattle.mq_link.specs.Configuration.{Configuration}
use Rattle.mq_link.specs.State.{Groups, LinkState}

-- the announcement of the querier in a query; a query of an older version has none
abbrev pub announced_by : QueryVersion ℕ → Option Announced
announced_by (Older version) = None
announced_by (Current fields) = Some (record { robustness = fields.robustness; query_seconds = fields.interval })

-- the S flag, which a query of an older version doesn't have
abbrev pub suppresses : QueryVersion ℕ → Bool
suppresses (Older version) = false
suppresses (Current fields) = fields.suppress

-- the sources that a query asks for, or None if it asks for its group
abbrev pub some_named : List ℕ → Option Set
some_named [] = None
some_named (s ∷ sources) = Some (set.contains {R = nat_cmp} (set.from_list (s ∷ sources)))

abbrev pub asked_by : QueryVersion ℕ → Option Set
asked_by (Older version) = None
asked_by (Current fields) = some_named fields.sources

-- the groups after the router has lost its role: what was to go for each is dropped
unfoldable pub groups_cleared : Groups → Groups
groups_cleared groups = kept (λ group e. Some (cleared e)) groups

abbrev pub group_lowered : Timing → ℕ → QueryVersion ℕ → ScheduledGroup → ScheduledGroup
group_lowered timing now version e =
    record e { group = lowered_by_query timing now (suppresses version) (asked_by version) e.group }

-- the groups after a query has lowered its group, if that is held; the address isn't judged, and zero is never held
unfoldable pub groups_lowered : Timing → ℕ → Query ℕ → Groups → Groups
groups_lowered timing now query groups =
    kept (λ group e. Some (if group == query.group then group_lowered timing now query.version e else e)) groups

-- the role and the timing in force after a query
abbrev pub election_after : Configuration → ℕ → (source : ℕ) → QueryVersion ℕ → ElectionState → ElectionState
election_after config now source version election =
    heard config.timing config.own now source (announced_by version) election

-- The groups after a query. First the election decides the querier and the timing in force. A router that loses the
-- role drops what was to go. Then timers are lowered, by the timing that is in force then.
abbrev pub groups_heard : Configuration → ℕ → (source : ℕ) → Query ℕ → ElectionState → Groups → Groups
groups_heard config now source query election groups =
    let left = if loses_role config.own source election.role then groups_cleared groups else groups in
    groups_lowered (election_after config now source query.version election).timing now query left

abbrev pub query_heard : Configuration → ℕ → (source : ℕ) → Query ℕ → LinkState → LinkState
query_heard config now source query state = record state {
  groups = groups_heard config now source query state.election state.groups;
  election = election_after config now source query.version state.election;
}
