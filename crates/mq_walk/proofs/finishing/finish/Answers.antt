use Rattle.std.proofs.Common.{refl, sym, ◌∙◌, append-nil, inl, inr}
use Rattle.std.proofs.lemmas.Result.{err_from_is_err_and}
use Rattle.std.proofs.Math.Bool.{or-false, or-true}
use Rattle.mq_walk.proofs.Finished.{flushed_whole}
use Rattle.mq_walk.proofs.finishing.finish.Goals as goal

pub returns-then-is_failed_write : goal.returns-then-is_failed_write
returns-then-is_failed_write g c = rw (sym c.is_failed_write.ensures ∙ c.if-is_failed_write.true) (refl, refl, refl)

pub returns-in_err-flush : goal.returns-in_err-flush
returns-in_err-flush g c =
    let p = err_from_is_err_and c.from_residual.result c.from_residual.ensures.1 in
    let begun = c.in_err-flush.ensures.text in
    rw (p.1, p.2, sym c.is_failed_write.ensures ∙ c.if-is_failed_write.false)
    (inr (refl, c.in_err-flush.ensures.failed ∙ or-true _, rw append-nil at begun))

pub returns : goal.returns
returns g c =
    rw (sym c.is_failed_write.ensures ∙ c.if-is_failed_write.false) (inl (
      refl,
      c.in_ok-flush.ensures.failed ∙ or-false _,
      c.in_ok-flush.ensures.empty,
      flushed_whole _ _ _ _ c.in_ok-flush.ensures.empty c.in_ok-flush.ensures.text,
    ))
