use Rattle.mq_laws.proofs.Common.{◌≡◌, ℕ, ◌<◌, max, ap, ◌∙◌, arith, timing_in_range, IsWellFormed-tick_at, Configuration, IsFaultless, LinkState, IsWellFormed}
use Rattle.mq_laws.proofs.Common.{tick_at, tick_of, next_of, later_after_tick}
use Rattle.mq_link.{specs.Tick.moment_of, proofs.Quiet.quiet_tick}
use Rattle.mq_laws.proofs.links.ticks_are_quiet_until_the_next_moment.Goals as goal

later : (config : Configuration) (now : ℕ) (state : LinkState) → IsFaultless config → IsWellFormed config state
    → moment_of state now < next_of (tick_of config now state).state
later config now state faultless h = later_after_tick config (moment_of state now) state (timing_in_range config faultless) h

-- the moment of a second tick
again : (last now : ℕ) → max (max last now) now ≡ max last now
again last now = omega arith

pub returns-clause-quiet : goal.returns-clause-quiet
returns-clause-quiet c config now state h before = quiet_tick config (moment_of state now) state h before

pub returns-clause-later : goal.returns-clause-later
returns-clause-later c = later

pub returns-clause-twice : goal.returns-clause-twice
returns-clause-twice c config now state faultless h =
    let first = (tick_of config now state).state in
    ap (λ m. tick_at config m first) (again state.last now)
    ∙ quiet_tick config (moment_of state now) first (IsWellFormed-tick_at config (moment_of state now) state (timing_in_range config faultless) h)
    (later config now state faultless h)
