use Rattle.mquerier.proofs.Common.{ap, sym, Ok, ◌∙◌, inl, inr, refl, arith, or-true, option_copied, err_from_is_err_and, output_by}
use Rattle.std.proofs.Common.{rules}
use Rattle.mq_wire.specs.{Family.Mld, PseudoHeader.pseudo_header}
use Rattle.mquerier.proofs.Worked.{undecoded, line_written, line_begun}
use Rattle.mquerier.proofs.work.mld_message.Goals as goal

pub returns-in_err-bytes-clause-works : goal.returns-in_err-bytes-clause-works
returns-in_err-bytes-clause-works g c =
    let p = err_from_is_err_and c.from_residual.result c.from_residual.ensures.1 in
    let output = output_by g.W.Write.contents c.args.output.now c.args.output.now in
    rw (p.1, p.2) (undecoded c.args.json _ _ _ _ _ output _ _ _ (ap option_copied c.in-Some.is)
    (ap option_copied c.in-Some-to.is) c.in-Some-read_v6.ensures c.in-Some-read_v6-2.ensures refl c.in_err-bytes.ensures)

pub returns-in_default-mld_line-clause-works : goal.returns-in_default-mld_line-clause-works
returns-in_default-mld_line-clause-works g c =
    let pseudo = pseudo_header c.in-Some-read_v6.source c.in-Some-read_v6-2.destination in
    let line = line_begun c.args.json _ _ Mld pseudo _ _ _ (c.in_ok-bytes.ensures ∙ ap Ok (sym c.deref.ensures.value)) c.in_default-mld_line.ensures.line in
    rw (c.in-Some.is, c.in-Some-to.is) (
      λ e. absurd (omega (arith, e)),
      λ e. (
        line.0,
        line.1,
        (c.in-Some-read_v6.source, c.in-Some-read_v6-2.destination, c.in-Some-read_v6.ensures, c.in-Some-read_v6-2.ensures, line.2),
        (inr line.3, c.in_default-mld_line.ensures.failed ∙ or-true _),
      ),
    )

pub returns-in_err-flush-clause-works : goal.returns-in_err-flush-clause-works
returns-in_err-flush-clause-works g c =
    let p = err_from_is_err_and c.from_residual-in_err-flush.result c.from_residual-in_err-flush.ensures.1 in
    let pseudo = pseudo_header c.in-Some-read_v6.source c.in-Some-read_v6-2.destination in
    let line = line_written c.args.json _ _ _ Mld pseudo _ _ _ (c.in_ok-bytes.ensures ∙ ap Ok (sym c.deref.ensures.value)) c.in-Ok.ensures.line
    c.in_err-flush.ensures.bytes in
    rw (p.1, p.2, c.in_err-flush.ensures.write, c.in-Some.is, c.in-Some-to.is) (
      λ e. absurd (omega (arith, e)),
      λ e. (
        c.in-Ok.is_message,
        line.0,
        (c.in-Some-read_v6.source, c.in-Some-read_v6-2.destination, c.in-Some-read_v6.ensures, c.in-Some-read_v6-2.ensures, line.1),
        (inl line.2, c.in_err-flush.ensures.failed ∙ or-true _),
      ),
    )

pub returns-clause-works : goal.returns-clause-works
returns-clause-works g c =
    let pseudo = pseudo_header c.in-Some-read_v6.source c.in-Some-read_v6-2.destination in
    let line = line_written c.args.json _ _ _ Mld pseudo _ _ _ (c.in_ok-bytes.ensures ∙ ap Ok (sym c.deref.ensures.value)) c.in-Ok.ensures.line
    c.in_ok-flush.ensures.bytes in
    rw (c.in-Some.is, c.in-Some-to.is) (
      line.0,
      (c.in-Some-read_v6.source, c.in-Some-read_v6-2.destination, c.in-Some-read_v6.ensures, c.in-Some-read_v6-2.ensures, line.1),
      (line.2, search rules),
    )
