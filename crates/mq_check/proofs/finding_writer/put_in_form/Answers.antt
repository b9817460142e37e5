use Rattle.mq_check.proofs.finding_writer.put_in_form.Goals as goal

pub returns-then-additions-clause-text : goal.returns-then-additions-clause-text
returns-then-additions-clause-text g c = rw c.if-additions.true (c.put_finding_object.ensures.text c.args.additions)

pub returns-clause-text : goal.returns-clause-text
returns-clause-text g c = rw c.if-additions.false c.put_finding_line.ensures.text
