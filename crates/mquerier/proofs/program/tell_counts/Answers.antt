use Rattle.mquerier.proofs.program.tell_counts.Goals as goal

pub returns-then-json : goal.returns-then-json
returns-then-json g c = rw c.if-json.true c.tell_object.ensures

pub returns : goal.returns
returns g c = rw c.if-json.false c.tell_lines.ensures
