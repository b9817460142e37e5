use Rattle.mq_replay.proofs.Common.{[], ◌++◌, codes, err_from_is_err_and, encode_lower, broken_behind, broken_within, held_more, then_put}
use Rattle.mq_wire.specs.Numbered.{numbered_query}
use Rattle.mq_replay.specs.ReplayObjects.{said_field, send_start}
use Rattle.mq_replay.proofs.sent_object.put_send_object.Goals as goal

pub returns-in_err-make_room-clause-text : goal.returns-in_err-make_room-clause-text
returns-in_err-make_room-clause-text g c =
    let p = err_from_is_err_and c.from_residual.result c.from_residual.ensures.1 in
    rw p.1 (broken_within _ _ _ [] _ c.in_err-make_room.ensures.text)

pub returns-in_err-put_hexadecimal-clause-text : goal.returns-in_err-put_hexadecimal-clause-text
returns-in_err-put_hexadecimal-clause-text g c =
    let p = err_from_is_err_and c.from_residual-in_err-put_hexadecimal.result c.from_residual-in_err-put_hexadecimal.ensures.1 in
    let start = send_start g.K.LineKey.family c.args.moment (g.K.Key.number c.args.to) in
    let bytes = encode_lower c.args.bytes.now in
    let said = said_field g.K.LineKey.family (numbered_query g.K.Key.number c.args.query.now) in
    let begun = held_more _ _ _ _ _ [] start c.in_ok-make_room.ensures.text c.put_send_start.ensures in
    rw p.1 (broken_behind _ _ _ _ _ start (bytes ++ (said ++ codes "}\n")) begun
    (broken_within _ _ _ bytes (said ++ codes "}\n") c.in_err-put_hexadecimal.ensures.text))

pub returns-in_err-put_said-clause-text : goal.returns-in_err-put_said-clause-text
returns-in_err-put_said-clause-text g c =
    let p = err_from_is_err_and c.from_residual-in_err-put_said.result c.from_residual-in_err-put_said.ensures.1 in
    let start = send_start g.K.LineKey.family c.args.moment (g.K.Key.number c.args.to) in
    let bytes = encode_lower c.args.bytes.now in
    let said = said_field g.K.LineKey.family (numbered_query g.K.Key.number c.args.query.now) in
    let begun = held_more _ _ _ _ _ [] start c.in_ok-make_room.ensures.text c.put_send_start.ensures in
    rw p.1 (broken_behind _ _ _ _ _ start (bytes ++ (said ++ codes "}\n")) begun
    (broken_behind _ _ _ _ _ bytes (said ++ codes "}\n") c.in_ok-put_hexadecimal.ensures.text
    (broken_within _ _ _ said (codes "}\n") c.in_err-put_said.ensures.text)))

pub returns-clause-text : goal.returns-clause-text
returns-clause-text g c =
    let start = send_start g.K.LineKey.family c.args.moment (g.K.Key.number c.args.to) in
    let bytes = encode_lower c.args.bytes.now in
    let said = said_field g.K.LineKey.family (numbered_query g.K.Key.number c.args.query.now) in
    let begun = held_more _ _ _ _ _ [] start c.in_ok-make_room.ensures.text c.put_send_start.ensures in
    then_put _ _ _ _ _ _ start (bytes ++ (said ++ codes "}\n")) c.put_end.result begun
    (then_put _ _ _ _ _ _ bytes (said ++ codes "}\n") c.put_end.result c.in_ok-put_hexadecimal.ensures.text
    (then_put _ _ _ _ _ _ said (codes "}\n") c.put_end.result c.in_ok-put_said.ensures.text c.put_end.ensures.text))
