-- Six parts of a line.
use Rattle.mq_check.proofs.Common.{codes}
use Rattle.mq_check.{specs.FindingLines.lost_text, specs.FindingLines.querier_text, specs.FindingLines.unseen_text, proofs.Texts.six_parts}
use Rattle.mq_check.proofs.finding_lines.put_querier_line.Goals as goal

pub returns : goal.returns
returns c =
    let it = c.args.basis.now in
    rw (c.put-3.ensures.text, c.put_lost.ensures.text, c.put_unseen.ensures.text, c.put-2.ensures.text, c.put_querier.ensures.text, c.put.ensures.text)
    (six_parts c.args.text.now.items (codes "querier ") (querier_text it.own) (codes " from 0") (unseen_text it) (lost_text it) (codes "\n"))
