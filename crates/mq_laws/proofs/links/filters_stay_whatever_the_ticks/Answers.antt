use Rattle.mq_laws.proofs.Common.{◌≡◌, ℕ, ◌≤◌, max, ap, ◌∙◌, arith, forwards, tick_at, tick_of}
use Rattle.mq_link.specs.Tick.{moment_of}
use Rattle.mq_laws.proofs.Filters.{same_filters}
use Rattle.mq_laws.proofs.links.filters_stay_whatever_the_ticks.Goals as goal

later_moment : (last a b : ℕ) → a ≤ b → max (max last a) b ≡ max last b
later_moment last a b before = omega arith

in_order : (last a b : ℕ) → a ≤ b → max last a ≤ max last b
in_order last a b before = omega arith

pub returns : goal.returns
returns c config a b state group source before =
    ap (λ m. forwards (tick_at config m (tick_of config a state).state).state group source) (later_moment state.last a b before)
    ∙ same_filters config (moment_of state a) (moment_of state b) state group source (in_order state.last a b before)
