use Rattle.mq_replay.proofs.Common.{ℕ, [], ◌++◌, ap, ◌∙◌, err_from_is_err_and, carried_in, broken_within, held_more, place_in}
use Rattle.mq_replay.proofs.Packets.{some_said, put_as_packet}
use Rattle.mq_replay.proofs.listing.put_packet.Goals as goal

pub returns-in_err-make_room-clause-line : goal.returns-in_err-make_room-clause-line
returns-in_err-make_room-clause-line g c =
    let p = err_from_is_err_and c.from_residual.result c.from_residual.ensures.1 in
    let some = some_said c.args.json (carried_in c.args.packet.now.link c.args.packet.now.frame.now) in
    rw p.1 (record {
      said = some.0;
      is_said = some.1;
      put = broken_within _ _ _ [] (place_in c.args.json c.args.packet.now.number c.args.packet.now.moment ++ some.0) c.in_err-make_room.ensures.text;
    })

pub returns-clause-line : goal.returns-clause-line
returns-clause-line g c =
    let place = place_in c.args.json c.args.packet.now.number c.args.packet.now.moment in
    put_as_packet c.args.json _ _ _ _ _ _ c.args.packet.now.number c.args.packet.now.moment _ _ c.put_said.result c.unwrap_frame-inner.ensures
    (held_more _ _ _ _ _ [] place c.in_ok-make_room.ensures.text
    (c.put_place.ensures.text ∙ ap (λ (m : ℕ). c.make_room.new.buffer.items ++ place_in c.args.json c.args.packet.now.number m) c.ms.ensures))
    c.put_said.ensures.line
