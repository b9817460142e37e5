-- The making of links for C.
use Rattle.std.specs.Prelude.{◌≡◌, ◌⊎◌, ℕ, ◌<◌, ◌≤◌, ◌^◌, ◌==◌, not, Some, Result, Ok, Err, List, []}
use Rattle.mq_wire.specs.Family.{Family}
use Rattle.mq_link.specs.declared.configuration.ConfigFault.{ConfigFault}
use Rattle.mq_link.specs.declared.ranges.GroupRange.{GroupRange}
use Rattle.mq_link.specs.Configuration.{Configuration, configuration_fault, IsFaultless}
use Rattle.mq_link.specs.Configured.{variables, configured}
use Rattle.mq_link.specs.Defaults.{defaults_of}
use Rattle.mq_link.specs.Link.{LinkValue}
use Rattle.mq_link.specs.State.{link_at}
use Rattle.mq_link.specs.Workspace.{WorkspaceState}
use Rattle.mq_c.specs.declared.forms.Settings.{Settings}
use Rattle.mq_c.specs.Statuses.{memory, moment, status_of}

-- the requested configuration of a family
abbrev pub asked_of : Family → Settings → (own source_specific : ℕ) → List GroupRange → Configuration
asked_of family s own source_specific ranges = record (
    configured family
    (record (variables s.robustness s.query_interval s.response_interval s.last_member_interval) {
      last_member_query_count = s.last_member_query_count;
    })
    (record { groups = s.groups; group_sources = s.group_sources; sources = s.sources; scheduled = s.scheduled })
    own (not (source_specific == 0))) { ranges = ranges }

-- the default settings of a family
abbrev pub default_settings : Family → Settings
default_settings family =
    let d = defaults_of family in
    record {
      robustness = d.robustness;
      query_interval = d.query_seconds;
      response_interval = d.response_interval;
      last_member_interval = d.last_member_interval;
      last_member_query_count = 0;
      groups = d.limits.groups;
      group_sources = d.limits.group_sources;
      sources = d.limits.sources;
      scheduled = d.limits.scheduled;
    }

-- the configuration is returned if it has no fault, and otherwise the status of its fault
abbrev pub IsConfigOrStatus : (asked : Configuration) → Result Configuration ℕ → Type 0
IsConfigOrStatus asked (Ok config) = IsFaultless asked × (config ≡ asked)
IsConfigOrStatus asked (Err status) = (fault : ConfigFault) × (configuration_fault asked ≡ Some fault) × (status ≡ status_of fault) × (0 < status)

-- a link with this configuration at its start
abbrev pub fresh_link : Configuration → ℕ → LinkValue
fresh_link config start = record { config = config; state = link_at config start; spent = 0; moved = 0; changed = [] }

-- the moment is out of range, or memory ran out
abbrev pub IsLateOrMemory : (start status : ℕ) → Type 0
IsLateOrMemory start status = ((2 ^ 53 < start) × (status ≡ moment)) ⊎ ((start ≤ 2 ^ 53) × (status ≡ memory))

-- The requested link is made, at its start.
pub record IsMade (asked : Configuration) (start : ℕ) (made : LinkValue) : Type 0 where
  pub faultless : IsFaultless asked
  pub in_range : start ≤ 2 ^ 53
  pub started : made ≡ fresh_link asked start

-- The status is that of the first fault of the configuration.
abbrev pub IsFaultOf : (asked : Configuration) → (status : ℕ) → Type 0
IsFaultOf asked status = (fault : ConfigFault) × (configuration_fault asked ≡ Some fault) × (status ≡ status_of fault)

-- The link isn't made, and the status says why: the first fault of the configuration. If it has none, it is the moment
-- or memory.
abbrev pub IsLinkRefused : (asked : Configuration) → (start status : ℕ) → Type 0
IsLinkRefused asked start status = (0 < status) × (IsFaultOf asked status ⊎ (IsFaultless asked × IsLateOrMemory start status))

-- the workspace that is made for links with this configuration
abbrev pub workspace_for : Configuration → WorkspaceState
workspace_for config = record { groups = config.limits.groups; group_sources = config.limits.group_sources; changed = [] }

-- A workspace is made for links with this configuration.
pub record IsWorkspaceMade (asked : Configuration) (made : WorkspaceState) : Type 0 where
  pub faultless : IsFaultless asked
  pub room : made ≡ workspace_for asked

-- The workspace isn't made, and the status says why: the first fault of the configuration. If it has none, it is
-- memory.
abbrev pub IsWorkspaceRefused : (asked : Configuration) → (status : ℕ) → Type 0
IsWorkspaceRefused asked status = (0 < status) × (IsFaultOf asked status ⊎ (IsFaultless asked × (status ≡ memory)))
