use Rattle.std.proofs.Common.{◌∙◌}
use Rattle.mq_pcap.proofs.IpOptions.{first_option_is}
use Rattle.mq_pcap.proofs.ip_options.first_option.Goals as goal

pub returns-clause-option : goal.returns-clause-option
returns-clause-option c =
    first_option_is c.in_ok-kind.kind.now c.from-end.result c.args.bytes.now c.in_ok-kind.behind.now c.in_ok-kind.ensures.cases.0
    c.if-kind-eq-END_OF_OPTIONS.false c.if-kind-eq-NO_OPERATION.false (c.from-end.ensures ∙ c.in_ok-first.ensures.item.3.1 0) c.if-end-lt2.false
    c.if-behind-end.false
