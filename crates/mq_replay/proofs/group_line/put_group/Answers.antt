use Rattle.mq_replay.proofs.group_line.put_group.Goals as goal

pub returns-then-json-clause-text : goal.returns-then-json-clause-text
returns-then-json-clause-text g c = rw c.if-json.true c.put_state_object.ensures.text

pub returns-clause-text : goal.returns-clause-text
returns-clause-text g c = rw c.if-json.false c.put_group_line.ensures.text
