use Rattle.std.proofs.{lemmas.Grind.common_steps, Common.arith}
use Rattle.mq_pcap.specs.Frame.{in_ethernet}
use Rattle.mq_pcap.proofs.frame.ethernet.Goals as goal

pub returns : goal.returns
unfolding in_ethernet
returns c = grind (arith, common_steps)

pub returns-then-kind : goal.returns-then-kind
unfolding in_ethernet
returns-then-kind c = grind (arith, common_steps)
