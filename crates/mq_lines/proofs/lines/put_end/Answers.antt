use Rattle.mq_lines.proofs.Common.{[], err_from_is_err_and, broken_within}
use Rattle.mq_lines.proofs.lines.put_end.Goals as goal

pub returns-in_err-make_room-clause-text : goal.returns-in_err-make_room-clause-text
returns-in_err-make_room-clause-text g c =
    let p = err_from_is_err_and c.from_residual.result c.from_residual.ensures.1 in
    rw p.1 (broken_within _ _ _ [] _ c.in_err-make_room.ensures.text)
