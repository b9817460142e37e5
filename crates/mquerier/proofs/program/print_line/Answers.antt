use Rattle.mquerier.proofs.Common.{codes, err_from_is_err_and}
use Rattle.mq_text.proofs.Passing.{broken_off}
use Rattle.mquerier.proofs.program.print_line.Goals as goal

pub returns-in_err-print-clause-text : goal.returns-in_err-print-clause-text
returns-in_err-print-clause-text g c =
    let p = err_from_is_err_and c.from_residual.result c.from_residual.ensures.1 in
    rw (p.1, ← c.as_bytes.ensures.value) (broken_off _ _ c.as_bytes.result.now (codes "\n") c.in_err-print.ensures.text)
