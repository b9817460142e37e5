use Rattle.mq_laws.proofs.Common.{read_of, pseudo_of, drop_reason, tick_of}
use Rattle.mq_laws.proofs.Unchanged.{dropped_decided}
use Rattle.mq_laws.proofs.links.dropped_datagrams_are_ticks.Goals as goal

pub returns : goal.returns
returns c config envelope bytes now state reason h =
    let read = read_of config.family (pseudo_of config.family envelope bytes) bytes in
    dropped_decided config envelope (tick_of config now state) read (drop_reason config envelope read) reason h
