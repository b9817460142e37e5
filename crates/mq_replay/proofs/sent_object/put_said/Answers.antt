use Rattle.mq_replay.proofs.Common.{true, ap, codes, [], err_from_is_err_and, AQuery, broken_within, held_more, put_as, then_put, message_in}
use Rattle.mq_wire.specs.declared.query.Query.{Query}
use Rattle.mq_replay.proofs.sent_object.put_said.Goals as goal

pub returns-in_err-make_room-clause-text : goal.returns-in_err-make_room-clause-text
returns-in_err-make_room-clause-text g c =
    let p = err_from_is_err_and c.from_residual.result c.from_residual.ensures.1 in
    rw p.1 (broken_within _ _ _ [] _ c.in_err-make_room.ensures.text)

pub returns-clause-text : goal.returns-clause-text
returns-clause-text g c =
    let begun = held_more _ _ _ _ _ [] (codes "\",\"message\":") c.in_ok-make_room.ensures.text c.put.ensures.text in
    then_put _ _ _ _ _ _ (codes "\",\"message\":") _ c.put_message.result begun (put_as _ _ _ _ _ _ c.put_message.result
    (ap (λ (q : Query _). message_in true g.K.LineKey.family (AQuery q)) c.query_said.ensures) c.put_message.ensures.text)
