use Rattle.mq_convert.proofs.Common.{[], err_from_is_err_and, broken_within}
use Rattle.mq_convert.proofs.Printed.{printed_behind}
use Rattle.mq_convert.proofs.pieces.put_bytes.Goals as goal

pub returns-in_err-flush-clause-text : goal.returns-in_err-flush-clause-text
returns-in_err-flush-clause-text g c =
    let p = err_from_is_err_and c.from_residual.result c.from_residual.ensures.1 in
    rw p.1 (broken_within _ _ _ [] c.args.bytes.now c.in_err-flush.ensures.text)

pub returns-clause-text : goal.returns-clause-text
returns-clause-text g c =
    printed_behind _ _ _ _ _ _ _ _ _ c.in_ok-flush.ensures.empty c.in_ok-flush.ensures.text c.print.ensures.text
