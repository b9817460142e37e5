use Rattle.mq_replay.proofs.Common.{[], err_from_is_err_and, broken_within, held_more}
use Rattle.mq_replay.proofs.replay_lines.put_counts.Goals as goal

pub returns-in_err-make_room-clause-text : goal.returns-in_err-make_room-clause-text
returns-in_err-make_room-clause-text g c =
    let p = err_from_is_err_and c.from_residual.result c.from_residual.ensures.1 in
    rw p.1 (broken_within _ _ _ [] _ c.in_err-make_room.ensures.text)

pub returns-then-json-clause-text : goal.returns-then-json-clause-text
returns-then-json-clause-text g c = rw c.if-json.true (held_more _ _ _ _ _ [] _ c.in_ok-make_room.ensures.text c.put_counts_object.ensures)

pub returns-clause-text : goal.returns-clause-text
returns-clause-text g c = rw c.if-json.false (held_more _ _ _ _ _ [] _ c.in_ok-make_room.ensures.text c.put_counts_line.ensures)
