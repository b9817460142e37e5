-- Lives of a link: runs, and between two of them a configuration that the link is given.
use Rattle.std.specs.Prelude.{◌≡◌, if◌then◌else◌, is_some, List, [], ◌∷◌}
use Rattle.mq_link.specs.Configuration.{Configuration, IsFaultless}
use Rattle.mq_link.specs.Configuring.{config_after, configure_fault, state_configured}
use Rattle.mq_link.specs.Events.{left_by}
use Rattle.mq_link.specs.Run.{Happening, RunFrom}
use Rattle.mq_link.specs.State.{LinkState}
use Rattle.mq_laws.specs.Laws.{AllAfter}

-- a run under one configuration, and the configuration that the link is given after it
pub record Stretch : Type 0 where
  pub happenings : List Happening
  pub asked : Configuration

-- the configuration and the state then; they stay if the link refuses the configuration
abbrev pub config_next : Configuration → (asked : Configuration) → LinkState → Configuration
config_next config asked state =
    if is_some (configure_fault config asked state.groups) then config else config_after config asked

abbrev pub state_next : Configuration → (asked : Configuration) → LinkState → LinkState
state_next config asked state =
    if is_some (configure_fault config asked state.groups) then state else state_configured config asked state

-- a life from a configuration and a state on, whose configurations have no fault and are of the link's family
abbrev pub LifeFrom : Configuration → LinkState → List Stretch → Type 0
LifeFrom config before [] = Unit {0}
LifeFrom config before (s ∷ rest) =
    let left = left_by before s.happenings in
    RunFrom config before s.happenings × IsFaultless s.asked × (s.asked.family ≡ config.family)
    × LifeFrom (config_next config s.asked left) (state_next config s.asked left) rest

-- each state of a life has this property under the configuration of then
abbrev pub AllThrough : (Configuration → LinkState → Type 0) → Configuration → LinkState → List Stretch → Type 0
AllThrough P config before [] = P config before
AllThrough P config before (s ∷ rest) =
    let left = left_by before s.happenings in
    P config before × AllAfter (P config) s.happenings
    × AllThrough P (config_next config s.asked left) (state_next config s.asked left) rest
