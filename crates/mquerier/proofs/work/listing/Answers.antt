use Rattle.mquerier.proofs.Common.{arith, refl, ◌∙◌, err_from_is_err_and}
use Rattle.mquerier.proofs.Breakings.{end_by, listing_ended, status_end, unflushed_by, unwritten_end}
use Rattle.mquerier.proofs.work.listing.Goals as goal

pub returns-in_err-ended-clause-works : goal.returns-in_err-ended-clause-works
returns-in_err-ended-clause-works g c =
    let p = err_from_is_err_and c.from_residual.result c.from_residual.ensures.1 in
    let it = listing_ended c.args.json _ _ _ _ _ _
    (end_by g.R.Read.remaining g.W.Write.contents _ _ _ _ _ _ _ c.show-answer.ensures.memory c.in_err-ended.ensures.unflushed c.in_err-ended.ensures.ended
    c.show-answer.ensures.failed c.in_err-ended.ensures.bytes) c.show-answer.ensures.shows in
    let one = it.0 in
    rw (p.1, p.2) (λ two. absurd (omega (arith, two, one)), λ e. it.1)

pub returns-clause-works : goal.returns-clause-works
returns-clause-works g c =
    let it = listing_ended c.args.json _ _ _ _ _ _
    (end_by g.R.Read.remaining g.W.Write.contents _ _ _ _ _ _ _ c.show-answer.ensures.memory c.in_ok-ended.ensures.unflushed c.in_ok-ended.ensures.ended
    c.show-answer.ensures.failed c.in_ok-ended.ensures.bytes) c.show-answer.ensures.shows in
    (refl, it.0, _, it.1)

pub returns-in_err-ended-clause-accepted : goal.returns-in_err-ended-clause-accepted
returns-in_err-ended-clause-accepted g c =
    let p = err_from_is_err_and c.from_residual.result c.from_residual.ensures.1 in
    let one = status_end c.show-answer.result _ _ _ c.in_err-ended.ensures.ended in
    rw (p.1, p.2) (λ two. absurd (omega (arith, two, one)))

pub returns-in_err-ended-clause-unwritten : goal.returns-in_err-ended-clause-unwritten
returns-in_err-ended-clause-unwritten g c =
    let p = err_from_is_err_and c.from_residual.result c.from_residual.ensures.1 in
    rw (p.1, p.2) (λ none. let is = unwritten_end c.show-answer.result _ _ _ c.in_err-ended.ensures.ended none in
    c.in_err-ended.ensures.unflushed (unflushed_by c.show-answer.result is) ∙ (c.show-answer.ensures.memory is).1)
