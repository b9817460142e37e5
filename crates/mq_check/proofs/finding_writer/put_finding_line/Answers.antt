-- The text of a finding and its additions, or a prefix of them.
use Rattle.mq_check.proofs.Common.{ℕ, List, [], ◌++◌, ◌∙◌, ap, append_assoc, err_from_is_err_and, both_passed, broken_behind, broken_within, held_more}
use Rattle.mq_check.proofs.Common.{numbered_finding}
use Rattle.mq_check.specs.FindingLines.{additions_text, citation_text, finding_text, packet_text}
use Rattle.mq_check.proofs.finding_writer.put_finding_line.Goals as goal

pub returns-in_err-make_room-clause-text : goal.returns-in_err-make_room-clause-text
returns-in_err-make_room-clause-text g c =
    let p = err_from_is_err_and c.from_residual.result c.from_residual.ensures.1 in
    rw p.1 (broken_within _ _ _ [] _ c.in_err-make_room.ensures.text)

pub returns-in_err-make_room-2-clause-text : goal.returns-in_err-make_room-2-clause-text
returns-in_err-make_room-2-clause-text g c =
    let p = err_from_is_err_and c.from_residual-in_err-make_room-2.result c.from_residual-in_err-make_room-2.ensures.1 in
    let finding = numbered_finding g.F.Address.Key.number c.args.finding in
    let text = finding_text g.F.Address.LineKey.family finding in
    let more = additions_text g.F.Address.LineKey.family c.args.additions finding in
    let begun = held_more _ _ _ _ _ [] text c.in_ok-make_room.ensures.text c.put_finding.ensures.text in
    rw p.1 (broken_behind _ _ _ _ _ text more begun (broken_within _ _ _ [] more c.in_err-make_room-2.ensures.text))

pub returns-clause-text : goal.returns-clause-text
returns-clause-text g c =
    let finding = numbered_finding g.F.Address.Key.number c.args.finding in
    let text = finding_text g.F.Address.LineKey.family finding in
    let packet = packet_text c.args.additions.packets finding in
    let citation = citation_text g.F.Address.LineKey.family c.args.additions.cite finding in
    let begun = held_more _ _ _ _ _ [] text c.in_ok-make_room.ensures.text c.put_finding.ensures.text in
    let added = c.put_citation.ensures.text ∙ ap (λ (t : List ℕ). t ++ citation) c.put_packet.ensures.text
    ∙ append_assoc c.make_room-2.new.buffer.items packet citation in
    both_passed _ _ _ _ _ _ text (packet ++ citation) begun (held_more _ _ _ _ _ [] (packet ++ citation) c.in_ok-make_room-2.ensures.text added)
