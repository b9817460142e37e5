use Rattle.std.proofs.Common.{◌∙◌}
use Rattle.mq_pcap.proofs.Walk.{first_option_is}
use Rattle.mq_pcap.proofs.options.first_option.Goals as goal

pub returns-clause-option : goal.returns-clause-option
returns-clause-option c =
    first_option_is c.in_ok-kind.kind.now c.from-end.result c.args.bytes.now c.in_ok-kind.behind.now c.in_ok-kind.ensures.cases.0
    c.if-kind-eq-PAD1.false (c.from-end.ensures ∙ c.in_ok-first.ensures.item.3.1 0) c.if-behind-end.false
