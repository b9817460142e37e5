use Rattle.mq_replay.proofs.change_lines.put_change.Goals as goal

pub returns-then-json-clause-text : goal.returns-then-json-clause-text
returns-then-json-clause-text g c = rw c.if-json.true c.put_state_object.ensures.text

pub returns-clause-text : goal.returns-clause-text
returns-clause-text g c = rw c.if-json.false c.put_change_line.ensures.text
