use Rattle.std.proofs.Common.{◌≡◌, length}
use Rattle.mq_pcap.specs.IpOptions.{has_router_alert_v4}
use Rattle.mq_pcap.proofs.ip_options.has_router_alert_v4.Given as goal

abbrev pub invariant-loop-kind : goal.invariant-loop-kind
invariant-loop-kind l = has_router_alert_v4 l.options ≡ has_router_alert_v4 l.rest

abbrev pub decreases-loop-kind : goal.decreases-loop-kind
decreases-loop-kind l = length l.rest
