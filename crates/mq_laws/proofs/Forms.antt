-- A link stays well-formed after ticks, datagrams and runs.
use Rattle.mq_laws.proofs.Common.{ℕ, List, [], ◌∷◌, sym, subst, timing_in_range, carried_where_read, IsWellFormed-receipt_after, IsWellFormed-tick_at}
use Rattle.mq_laws.proofs.Common.{Configuration, IsFaultless, Envelope, receipt_of, read_of, pseudo_of, Happening, Event, Tick, Datagram, step_of, RunFrom}
use Rattle.mq_laws.proofs.Common.{LinkState, IsWellFormed, tick_of, AllAfter}
use Rattle.mq_link.{proofs.Receipts.recounted, specs.Tick.moment_of}

pub after_tick : (config : Configuration) (now : ℕ) (state : LinkState) → IsFaultless config → IsWellFormed config state
    → IsWellFormed config (tick_of config now state).state
after_tick config now state faultless h = IsWellFormed-tick_at config (moment_of state now) state (timing_in_range config faultless) h

pub after_datagram : (config : Configuration) (envelope : Envelope) (bytes : List ℕ) (now : ℕ) (state : LinkState) → IsFaultless config
    → IsWellFormed config state → IsWellFormed config (receipt_of config envelope bytes now state).step.state
after_datagram config envelope bytes now state faultless h =
    let before = pseudo_of config.family envelope bytes in
    IsWellFormed-receipt_after config envelope (read_of config.family before bytes) (tick_of config now state) (timing_in_range config faultless)
    (carried_where_read config.family before bytes) (after_tick config now state faultless h)

after_event : (config : Configuration) (event : Event) (state : LinkState) → IsFaultless config → IsWellFormed config state
    → IsWellFormed config (step_of config event state).state
after_event config (Tick now) state faultless h = after_tick config now state faultless h
after_event config (Datagram envelope bytes now) state faultless h = after_datagram config envelope bytes now state faultless h

pub after_all : (config : Configuration) (before : LinkState) (hs : List Happening) → IsFaultless config → IsWellFormed config before → RunFrom config before hs
    → AllAfter (IsWellFormed config) hs
after_all config before [] faultless h run = tt
after_all config before (x ∷ hs) faultless h run =
    let so = subst (IsWellFormed config) (sym run.0.hands_out.leaves)
    (recounted config (step_of config x.event before).state _ (after_event config x.event before faultless h)) in
    (so, after_all config x.after hs faultless so run.1)
