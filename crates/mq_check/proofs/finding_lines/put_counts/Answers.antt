-- Three counts, and then the end of the line.
use Rattle.mq_check.proofs.Common.{codes, count_text}
use Rattle.mq_check.proofs.Texts.{four_parts}
use Rattle.mq_check.proofs.finding_lines.put_counts.Goals as goal

pub returns-clause-text : goal.returns-clause-text
returns-clause-text c =
    let it = c.args.totals.now in
    rw (c.put.ensures.text, c.put_count-3.ensures.text, c.put_count-2.ensures.text, c.put_count.ensures.text)
    (four_parts c.args.text.now.items (count_text (codes "checked general ") it.general)
    (count_text (codes " specific ") it.specific) (count_text (codes ": ") it.findings) (codes " findings\n"))
