use Rattle.mq_laws.proofs.Common.{ap, ◌∙◌, is_querier, ticked, timing_in_range, IsWellFormed-tick_at, read_of, pseudo_of, drop_reason, tick_of}
use Rattle.mq_link.{specs.Tick.moment_of, proofs.Silent.silent_tick, proofs.Silent.silent_decided, proofs.Silent.other_before, proofs.Silent.other_decided}
use Rattle.mq_laws.proofs.links.other_routers_send_nothing.Goals as goal

pub returns-clause-tick : goal.returns-clause-tick
returns-clause-tick c config now state h other = silent_tick config (moment_of state now) state h other

pub returns-clause-datagram : goal.returns-clause-datagram
returns-clause-datagram c config envelope bytes now state faultless h other =
    let read = read_of config.family (pseudo_of config.family envelope bytes) bytes in
    silent_decided config envelope (tick_of config now state) read (drop_reason config envelope read)
    (IsWellFormed-tick_at config (moment_of state now) state (timing_in_range config faultless) h) other
    (silent_tick config (moment_of state now) state h other)

pub returns-clause-before_the_deadline : goal.returns-clause-before_the_deadline
returns-clause-before_the_deadline c config now address deadline state is before =
    ap (λ role. is_querier (ticked config.timing (moment_of state now) (record { role = role; timing = state.election.timing })).role) is
    ∙ other_before config.timing state.election.timing (moment_of state now) address deadline before

pub returns-clause-whatever_comes : goal.returns-clause-whatever_comes
returns-clause-whatever_comes c config envelope bytes now state other =
    let read = read_of config.family (pseudo_of config.family envelope bytes) bytes in
    other_decided config envelope (tick_of config now state) read (drop_reason config envelope read) other
