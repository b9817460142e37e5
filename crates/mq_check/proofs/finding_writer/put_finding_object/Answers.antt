-- The start and the rest of a finding, or a prefix of them.
use Rattle.mq_check.proofs.Common.{[], err_from_is_err_and, both_passed, broken_behind, broken_within, held_more, numbered_finding}
use Rattle.mq_check.specs.FindingLines.{finding_rest, finding_start}
use Rattle.mq_check.proofs.finding_writer.put_finding_object.Goals as goal

pub returns-in_err-make_room-clause-text : goal.returns-in_err-make_room-clause-text
returns-in_err-make_room-clause-text g c =
    let p = err_from_is_err_and c.from_residual.result c.from_residual.ensures.1 in
    rw p.1 (λ additions. broken_within _ _ _ [] _ c.in_err-make_room.ensures.text)

pub returns-in_err-make_room-2-clause-text : goal.returns-in_err-make_room-2-clause-text
returns-in_err-make_room-2-clause-text g c =
    let p = err_from_is_err_and c.from_residual-in_err-make_room-2.result c.from_residual-in_err-make_room-2.ensures.1 in
    let finding = numbered_finding g.F.Address.Key.number c.args.finding in
    let start = finding_start g.F.Address.LineKey.family finding in
    let rest = finding_rest g.F.Address.LineKey.family finding in
    let begun = held_more _ _ _ _ _ [] start c.in_ok-make_room.ensures.text c.put_finding_start.ensures in
    rw p.1 (λ additions. broken_behind _ _ _ _ _ start rest begun (broken_within _ _ _ [] rest c.in_err-make_room-2.ensures.text))

pub returns-clause-text : goal.returns-clause-text
returns-clause-text g c =
    let finding = numbered_finding g.F.Address.Key.number c.args.finding in
    let start = finding_start g.F.Address.LineKey.family finding in
    let rest = finding_rest g.F.Address.LineKey.family finding in
    let begun = held_more _ _ _ _ _ [] start c.in_ok-make_room.ensures.text c.put_finding_start.ensures in
    let ended = held_more _ _ _ _ _ [] rest c.in_ok-make_room-2.ensures.text c.put_finding_rest.ensures in
    λ additions. both_passed _ _ _ _ _ _ start rest begun ended
