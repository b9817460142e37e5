use Rattle.mq_laws.proofs.Common.{◌≡◌, List, [], ◌∷◌, Option, None, Some, cond, is_some, refl, IsWellFormed-link_at, Configuration, IsFaultless, Happening}
use Rattle.mq_laws.proofs.Common.{LinkState, IsWellFormed, link_at, AllAfter}
use Rattle.mq_link.{proofs.Reconfigured.IsWellFormed-configured, specs.declared.configuration.ConfigureFault.ConfigureFault}
use Rattle.mq_link.specs.{Configuring.config_after, Configuring.configure_fault, Configuring.state_configured, Events.left_by}
use Rattle.mq_laws.{specs.Lives.AllThrough, specs.Lives.LifeFrom, specs.Lives.Stretch, specs.Lives.config_next, specs.Lives.state_next, proofs.Forms.after_all}
use Rattle.mq_laws.proofs.links.lives_keep_form.Goals as goal

-- the state after a run is one of those that it passes through
last_of : (config : Configuration) (before : LinkState) (hs : List Happening) → IsWellFormed config before → AllAfter (IsWellFormed config) hs
    → IsWellFormed config (left_by before hs)
last_of config before [] h all = h
last_of config before (x ∷ hs) h all = last_of config x.after hs all.0 all.1

-- a configuration that is refused, or taken over
after_asked : (config asked : Configuration) (state : LinkState) → IsFaultless config → IsFaultless asked → asked.family ≡ config.family
    → IsWellFormed config state → IsFaultless (config_next config asked state) × IsWellFormed (config_next config asked state) (state_next config asked state)
after_asked config asked state faultless well family h = by_fault (configure_fault config asked state.groups) refl
  where
    by_fault : (fault : Option ConfigureFault) → configure_fault config asked state.groups ≡ fault
        → IsFaultless (cond (is_some fault) config (config_after config asked))
        × IsWellFormed (cond (is_some fault) config (config_after config asked)) (cond (is_some fault) state (state_configured config asked state))
    by_fault (Some fault) is = (faultless, h)
    by_fault None is = (well, IsWellFormed-configured config asked state well family is h)

all_through : (config : Configuration) (before : LinkState) (stretches : List Stretch) → IsFaultless config → IsWellFormed config before
    → LifeFrom config before stretches → AllThrough IsWellFormed config before stretches
all_through config before [] faultless h life = h
all_through config before (s ∷ rest) faultless h life =
    let all = after_all config before s.happenings faultless h life.0 in
    let left = left_by before s.happenings in
    let next = after_asked config s.asked left faultless life.1 life.2 (last_of config before s.happenings h all) in
    (h, all, all_through (config_next config s.asked left) (state_next config s.asked left) rest next.0 next.1 life.3)

pub returns-clause-configured : goal.returns-clause-configured
returns-clause-configured c config asked state faultless family none h = IsWellFormed-configured config asked state faultless family none h

pub returns-clause-filters : goal.returns-clause-filters
returns-clause-filters c config asked state group = refl

pub returns-clause-life : goal.returns-clause-life
returns-clause-life c config start stretches faultless life =
    all_through config (link_at config start) stretches faultless (IsWellFormed-link_at config start faultless) life
