use Rattle.mq_check.proofs.finding_writer.put_last.Goals as goal

pub returns-then-additions-clause-text : goal.returns-then-additions-clause-text
returns-then-additions-clause-text g c = rw c.if-additions.true c.put_summary.ensures.text

pub returns-clause-text : goal.returns-clause-text
returns-clause-text g c = rw c.if-additions.false c.put_last_lines.ensures.text
