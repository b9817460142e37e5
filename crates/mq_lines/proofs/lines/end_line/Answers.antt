use Rattle.mq_lines.proofs.Common.{[], codes, then_put}
use Rattle.mq_lines.proofs.lines.end_line.Goals as goal

pub returns-clause-text : goal.returns-clause-text
returns-clause-text g c = then_put _ _ _ _ _ _ (codes "\n") [] _ c.in_ok-put_end.ensures.text c.flush.ensures.text
