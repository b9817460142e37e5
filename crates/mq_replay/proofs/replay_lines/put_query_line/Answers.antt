use Rattle.mq_replay.proofs.Common.{[], ◌++◌, codes, err_from_is_err_and, encode_lower, both_passed, broken_behind, broken_within, held_more, then_put}
use Rattle.mq_replay.specs.ReplayLines.{query_line, query_start}
use Rattle.mq_replay.proofs.replay_lines.put_query_line.Goals as goal

pub returns-in_err-make_room-clause-text : goal.returns-in_err-make_room-clause-text
returns-in_err-make_room-clause-text g c =
    let p = err_from_is_err_and c.from_residual.result c.from_residual.ensures.1 in
    let line = query_line g.K.LineKey.family c.args.moment (g.K.Key.number c.args.to) c.args.bytes.now in
    rw p.1 (broken_within _ _ _ [] line c.in_err-make_room.ensures.text)

pub returns-in_err-put_hexadecimal-clause-text : goal.returns-in_err-put_hexadecimal-clause-text
returns-in_err-put_hexadecimal-clause-text g c =
    let p = err_from_is_err_and c.from_residual-in_err-put_hexadecimal.result c.from_residual-in_err-put_hexadecimal.ensures.1 in
    let start = query_start g.K.LineKey.family c.args.moment (g.K.Key.number c.args.to) in
    let bytes = encode_lower c.args.bytes.now in
    let begun = held_more _ _ _ _ _ [] start c.in_ok-make_room.ensures.text c.put_query_start.ensures in
    rw p.1 (broken_within _ _ _ (start ++ bytes) (codes "\n") (broken_behind _ _ _ _ _ start bytes begun c.in_err-put_hexadecimal.ensures.text))

pub returns-clause-text : goal.returns-clause-text
returns-clause-text g c =
    let start = query_start g.K.LineKey.family c.args.moment (g.K.Key.number c.args.to) in
    let bytes = encode_lower c.args.bytes.now in
    let begun = held_more _ _ _ _ _ [] start c.in_ok-make_room.ensures.text c.put_query_start.ensures in
    then_put _ _ _ _ _ _ (start ++ bytes)
    (codes "\n") c.put_end.result (both_passed _ _ _ _ _ _ start bytes begun c.in_ok-put_hexadecimal.ensures.text) c.put_end.ensures.text
