use Rattle.mq_laws.proofs.Common.{receipt_of, Tick, Datagram, tick_of}
use Rattle.mq_laws.proofs.Following.{event_keeps, alike_forwarded}
use Rattle.mq_laws.proofs.links.who_is_not_named_is_as_before.Goals as goal

pub returns-clause-tick : goal.returns-clause-tick
returns-clause-tick c config now state group source is =
    alike_forwarded state (tick_of config now state).state group source (event_keeps config (Tick now) state group is)

pub returns-clause-datagram : goal.returns-clause-datagram
returns-clause-datagram c config envelope bytes now state group source is =
    alike_forwarded state (receipt_of config envelope bytes now state).step.state group source
    (event_keeps config (Datagram envelope bytes now) state group is)

pub returns-clause-filter : goal.returns-clause-filter
returns-clause-filter c = event_keeps
