-- Another configuration for a running link of C.
use Rattle.std.specs.Prelude.{◌≡◌, ◌⊎◌, ℕ, ◌<◌, None, Some}
use Rattle.mq_link.specs.declared.configuration.ConfigureFault.{ConfigureFault}
use Rattle.mq_link.specs.declared.configuration.ConfigureFault.TheVariants.{Room, Held}
use Rattle.mq_link.specs.Configuration.{Configuration, IsFaultless}
use Rattle.mq_link.specs.Configuring.{configure_fault, link_configured}
use Rattle.mq_link.specs.Link.{LinkValue}
use Rattle.mq_c.specs.Making.{IsFaultOf}
use Rattle.mq_c.specs.Statuses.{held, memory}

-- the status of a link's reason to refuse a configuration
abbrev pub refusal_status : ConfigureFault → ℕ
refusal_status Room = memory
refusal_status Held = held

-- the link has a reason to refuse the configuration, of this status
abbrev pub IsRefusalOf : (asked : Configuration) → LinkValue → (status : ℕ) → Type 0
IsRefusalOf asked link status =
    (fault : ConfigureFault) × (configure_fault link.config asked link.state.groups ≡ Some fault) × (status ≡ refusal_status fault)

-- The link has the configuration if the status is 0. Otherwise it is unchanged, and the status is that of the first
-- fault of the configuration. If it has none, the status is that of the link's reason.
pub record IsReconfigured (asked : Configuration) (before after : LinkValue) (status : ℕ) : Type 0 where
  pub faultless : status ≡ 0 → IsFaultless asked
  pub allowed : status ≡ 0 → configure_fault before.config asked before.state.groups ≡ None
  pub done : status ≡ 0 → after ≡ link_configured asked before
  pub refused : 0 < status → IsFaultOf asked status ⊎ (IsFaultless asked × IsRefusalOf asked before status)
  pub unchanged : 0 < status → after ≡ before
