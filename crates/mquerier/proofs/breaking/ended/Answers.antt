use Rattle.mquerier.proofs.Common.{refl, ◌∙◌, inl, inr, or-false, or-true, err_from_is_err_and}
use Rattle.mquerier.proofs.breaking.ended.Goals as goal

pub returns-in_err-flush-in-Ok-clause-ended : goal.returns-in_err-flush-in-Ok-clause-ended
returns-in_err-flush-in-Ok-clause-ended g c =
    let p = err_from_is_err_and c.from_residual.result c.from_residual.ensures.1 in
    rw (p.1, p.2, c.in-Ok.is, c.in_err-flush-in-Ok.ensures.write) (inr (refl, c.in_err-flush-in-Ok.ensures.failed ∙ or-true _))

pub returns-in_ok-flush-in-Ok-clause-ended : goal.returns-in_ok-flush-in-Ok-clause-ended
returns-in_ok-flush-in-Ok-clause-ended g c = rw c.in-Ok.is (inl (refl, c.in_ok-flush-in-Ok.ensures.failed ∙ or-false _))

pub returns-in-Err-clause-ended : goal.returns-in-Err-clause-ended
returns-in-Err-clause-ended g c = rw c.in-Err.is (c.broken_off.result, refl, c.broken_off.ensures.failure)
