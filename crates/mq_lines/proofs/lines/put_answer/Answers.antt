use Rattle.mq_lines.proofs.Common.{[], err_from_is_err_and, broken_within}
use Rattle.mq_lines.proofs.lines.put_answer.Goals as goal

pub returns-in_err-make_room-in-Err-clause-text : goal.returns-in_err-make_room-in-Err-clause-text
returns-in_err-make_room-in-Err-clause-text g c =
    let p = err_from_is_err_and c.from_residual-in_err-make_room-in-Err.result c.from_residual-in_err-make_room-in-Err.ensures.1 in
    rw (p.1, c.in-Err.is) (broken_within _ _ _ [] _ c.in_err-make_room-in-Err.ensures.text)
