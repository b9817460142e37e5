-- A moment, and then a time or what is asked for.
use Rattle.mq_check.proofs.Common.{codes, append_assoc, at_moment, numbered_asked}
use Rattle.mq_check.specs.FindingLines.{asked_text, header_fault_text, interval_text}
use Rattle.mq_check.proofs.finding_lines.put_finding.Goals as goal

pub returns-in-PossiblyMissing-clause-text : goal.returns-in-PossiblyMissing-clause-text
returns-in-PossiblyMissing-clause-text g c =
    let it = c.in-PossiblyMissing in
    rw (it.is, c.put_asked-in-PossiblyMissing.ensures.text, c.put_moment-in-PossiblyMissing.ensures.text)
    (append_assoc c.args.text.now.items (at_moment it.moment (codes " possible missing "))
    (asked_text g.F.Address.LineKey.family (numbered_asked g.F.Address.Key.number it.asked)))

pub returns-in-Interval-clause-text : goal.returns-in-Interval-clause-text
returns-in-Interval-clause-text g c =
    let it = c.in-Interval in
    rw (c.in-Interval.is, c.put_interval.ensures.text, c.put_moment-in-Interval.ensures.text)
    (append_assoc c.args.text.now.items (at_moment it.moment (codes " general after ")) (interval_text it.passed it.wanted))

pub returns-in-Silence-clause-text : goal.returns-in-Silence-clause-text
returns-in-Silence-clause-text g c =
    let it = c.in-Silence in
    rw (c.in-Silence.is, c.put_interval-in-Silence.ensures.text, c.put_moment-in-Silence.ensures.text)
    (append_assoc c.args.text.now.items (at_moment it.moment (codes " general none for ")) (interval_text it.passed it.wanted))

pub returns-in-Packet-clause-text : goal.returns-in-Packet-clause-text
returns-in-Packet-clause-text g c =
    let it = c.in-Packet in
    rw (c.in-Packet.is, c.put_header_fault.ensures.text, c.put_moment-in-Packet.ensures.text)
    (append_assoc c.args.text.now.items (at_moment it.moment (codes " packet ")) (header_fault_text it.number it.fault))
