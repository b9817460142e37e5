use Rattle.std.proofs.Common.{◌∙◌}
use Rattle.mq_pcap.proofs.Headers.{mld_behind_options}
use Rattle.mq_pcap.proofs.frame.hop_by_hop.Goals as goal

pub returns-in-58 : goal.returns-in-58
returns-in-58 c =
    c.mld.ensures ∙ mld_behind_options c.args.packet.now c.args.payload.now c.from.result c.has_router_alert.result c.if-payload-lt8.false
    c.from.ensures c.if-payload-end.false c.in-58.is c.has_router_alert.ensures
