use Rattle.mq_check.proofs.Common.{err_from_is_err_and}
use Rattle.mq_check.proofs.Tellings.{fields_told, fields_broken, fields_as, broken_as}
use Rattle.mq_check.proofs.judging.tell_fields.Goals as goal

pub returns-in_err-tell_difference : goal.returns-in_err-tell_difference
returns-in_err-tell_difference g c =
    let p = err_from_is_err_and c.from_residual.result c.from_residual.ensures.1 in
    rw p.1 (broken_as _ _ _ _ _ _ _ _ (fields_broken _ _ _ _ _ _ _ _ _ _ _
    (fields_broken _ _ _ _ _ _ _ _ _ _ _ (fields_as _ _ _ _ _ _ _ _ _ _ _ c.suppress_differs.ensures c.in_err-tell_difference.ensures))))

pub returns-in_err-tell_difference-2 : goal.returns-in_err-tell_difference-2
returns-in_err-tell_difference-2 g c =
    let p = err_from_is_err_and c.from_residual-in_err-tell_difference-2.result c.from_residual-in_err-tell_difference-2.ensures.1 in
    rw p.1 (broken_as _ _ _ _ _ _ _ _ (fields_broken _ _ _ _ _ _ _ _ _ _ _
    (fields_told _ _ _ _ _ _ _ _ _ _ _ _ _ _ (fields_as _ _ _ _ _ _ _ _ _ _ _ c.suppress_differs.ensures c.in_ok-tell_difference.ensures)
    (fields_as _ _ _ _ _ _ _ _ _ _ _ c.robustness_differs.ensures c.in_err-tell_difference-2.ensures))))

pub returns : goal.returns
returns g c =
    fields_told _ _ _ _ _ _ _ _ _ _ _ _ _ _
    (fields_told _ _ _ _ _ _ _ _ _ _ _ _ _ _ (fields_as _ _ _ _ _ _ _ _ _ _ _ c.suppress_differs.ensures c.in_ok-tell_difference.ensures)
    (fields_as _ _ _ _ _ _ _ _ _ _ _ c.robustness_differs.ensures c.in_ok-tell_difference-2.ensures))
    (fields_as _ _ _ _ _ _ _ _ _ _ _ c.interval_differs.ensures c.tell_difference-3.ensures)
