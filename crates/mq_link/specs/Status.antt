-- The status of a router at a moment, as it is stored.
use Rattle.std.specs.Prelude.{◌≡◌, ℕ, ◌≤◌, ◌^◌}
use Rattle.mq_table.specs.Variables.{AreInRange}
use Rattle.mq_sched.specs.StoredElection.{RouterElection}
use Rattle.mq_wire.specs.Family.{Family}
use Rattle.mq_link.specs.Configuration.{Configuration, IsFaultless, IsWithinRoom}
use Rattle.mq_link.specs.Handing.{KeepsIntervals}

-- The configuration is of the family, has no fault, and is within its room. The election is that of the router with this configuration. The
-- timing in force is in range and keeps the configured intervals. The moment is in range.
pub record IsStatus (family : Family) (config : Configuration) (election : RouterElection) (now : ℕ) : Type 0 where
  pub faultless : IsFaultless config
  pub within : IsWithinRoom config
  pub family_is : config.family ≡ family
  pub own : election.own ≡ config.own
  pub configured : election.configured ≡ config.timing
  pub intervals : KeepsIntervals config.timing election.state.timing
  pub timing : AreInRange election.state.timing
  pub in_range : now ≤ 2 ^ 53
