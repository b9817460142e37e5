use Rattle.mquerier.proofs.Common.{ap, sym, Ok, ◌∙◌, inl, inr, arith, [], or-true, err_from_is_err_and}
use Rattle.mq_wire.specs.Family.{Igmp}
use Rattle.mquerier.proofs.Worked.{line_begun, line_written}
use Rattle.mquerier.proofs.work.igmp_message.Goals as goal

pub returns-in_default-clause-works : goal.returns-in_default-clause-works
returns-in_default-clause-works g c =
    let line = line_begun c.args.json _ _ Igmp (λ len. []) _ _ _ (c.in_ok-bytes.ensures ∙ ap Ok (sym c.deref.ensures.value)) c.in_default.ensures.line in
    let no_from = c.is_no_v4.ensures.no c.if-is_no_v4.false in
    let no_to = c.is_no_v4-else-is_no_v4.ensures.no c.if-is_no_v4-2.false in (
      λ e. absurd (omega (arith, e)),
      λ e. (line.0, line.1, (no_from, no_to, line.2), (inr line.3, c.in_default.ensures.failed ∙ or-true _)),
    )

pub returns-in_err-flush-clause-works : goal.returns-in_err-flush-clause-works
returns-in_err-flush-clause-works g c =
    let p = err_from_is_err_and c.from_residual-in_err-flush.result c.from_residual-in_err-flush.ensures.1 in
    let line = line_written c.args.json _ _ _ Igmp (λ len. []) _ _ _ (c.in_ok-bytes.ensures ∙ ap Ok (sym c.deref.ensures.value)) c.in-Ok.ensures.line
    c.in_err-flush.ensures.bytes in
    let no_from = c.is_no_v4.ensures.no c.if-is_no_v4.false in
    let no_to = c.is_no_v4-else-is_no_v4.ensures.no c.if-is_no_v4-2.false in
    rw (p.1, p.2, c.in_err-flush.ensures.write)
    (λ e. absurd (omega (arith, e)), λ e. (c.in-Ok.is_message, line.0, (no_from, no_to, line.1), (inl line.2, c.in_err-flush.ensures.failed ∙ or-true _)))
