use Rattle.mq_lines.proofs.Common.{err_from_is_err_and}
use Rattle.mq_lines.proofs.Answered.{line_broken, line_printed, text_broken}
use Rattle.mq_lines.proofs.lines.igmp_line.Goals as goal

pub returns-in_err-is_message-clause-line : goal.returns-in_err-is_message-clause-line
returns-in_err-is_message-clause-line g c =
    let p = err_from_is_err_and c.from_residual.result c.from_residual.ensures.1 in
    rw p.1 (text_broken _ _ _ _ _ _ _ _ _ _ c.new-buffer.ensures c.in_err-is_message.ensures.text)

pub returns-in_err-end_line-clause-line : goal.returns-in_err-end_line-clause-line
returns-in_err-end_line-clause-line g c =
    let p = err_from_is_err_and c.from_residual-in_err-end_line.result c.from_residual-in_err-end_line.ensures.1 in
    rw p.1 (line_broken _ _ _ _ _ _ _ _ _ _ _ c.new-buffer.ensures c.in_ok-is_message.ensures.text c.in_err-end_line.ensures.text)

pub returns-clause-line : goal.returns-clause-line
returns-clause-line g c =
    line_printed _ _ _ _ _ _ _ _ _ _ _ c.new-buffer.ensures c.in_ok-end_line.ensures.empty c.in_ok-is_message.ensures.text c.in_ok-end_line.ensures.text
