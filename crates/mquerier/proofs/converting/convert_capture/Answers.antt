use Rattle.mquerier.proofs.Common.{Ok, Err, ◌∙◌, or-false, or-true, err_from_is_err_and}
use Rattle.mquerier.proofs.Conversions.{converted_kept}
use Rattle.mq_convert.specs.declared.fault.ConvertFault.TheVariants as answer
use Rattle.mquerier.proofs.converting.convert_capture.Goals as goal

pub returns-in_ok-flush-in-Ok-clause-works : goal.returns-in_ok-flush-in-Ok-clause-works
returns-in_ok-flush-in-Ok-clause-works g c =
    let kept = converted_kept _ _ _ _ _ _ (Ok c.in-Ok.counts) (λ e. absurd (cc e)) c.in-Ok.ensures.converts c.in_ok-flush-in-Ok.ensures.bytes in
    (c.in_ok-flush-in-Ok.ensures.failed ∙ or-false _ ∙ c.in-Ok.ensures.failed ∙ or-false _, kept)

pub returns-in_err-flush-in-Ok-clause-works : goal.returns-in_err-flush-in-Ok-clause-works
returns-in_err-flush-in-Ok-clause-works g c =
    let p = err_from_is_err_and c.from_residual.result c.from_residual.ensures.1 in
    let r = Ok c.in-Ok.counts in
    let kept = converted_kept _ _ _ _ _ _ r (λ e. absurd (cc e)) c.in-Ok.ensures.converts c.in_err-flush-in-Ok.ensures.bytes in
    rw (p.1, p.2, c.in_err-flush-in-Ok.ensures.write) (c.in_err-flush-in-Ok.ensures.failed ∙ or-true _, r, λ e. absurd (cc e), kept)

pub returns-in_err-flush-in-Err-Read-clause-works : goal.returns-in_err-flush-in-Err-Read-clause-works
returns-in_err-flush-in-Err-Read-clause-works g c =
    let p = err_from_is_err_and c.from_residual-in_err-flush-in-Err-Read.result c.from_residual-in_err-flush-in-Err-Read.ensures.1 in
    let r = Err answer.Read in
    let kept = converted_kept _ _ _ _ _ _ r (λ e. absurd (cc e))
    (rw c.in-Err-Read.field-0-is at c.in-Err-Read.ensures.converts) c.in_err-flush-in-Err-Read.ensures.bytes in
    rw (p.1, p.2, c.in_err-flush-in-Err-Read.ensures.write) (c.in_err-flush-in-Err-Read.ensures.failed ∙ or-true _, r, λ e. absurd (cc e), kept)

pub returns-in_err-flush-in-Err-Block-clause-works : goal.returns-in_err-flush-in-Err-Block-clause-works
returns-in_err-flush-in-Err-Block-clause-works g c =
    let p = err_from_is_err_and c.from_residual-in_err-flush-in-Err-Block.result c.from_residual-in_err-flush-in-Err-Block.ensures.1 in
    let r = Err (answer.Block c.in-Err-Block.number c.in-Err-Block.fault) in
    let kept = converted_kept _ _ _ _ _ _ r (λ e. absurd (cc e))
    (rw c.in-Err-Block.field-0-is at c.in-Err-Block.ensures.converts) c.in_err-flush-in-Err-Block.ensures.bytes in
    rw (p.1, p.2, c.in_err-flush-in-Err-Block.ensures.write) (c.in_err-flush-in-Err-Block.ensures.failed ∙ or-true _, r, λ e. absurd (cc e), kept)
