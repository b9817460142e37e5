use Rattle.mq_c.proofs.Common.{ap, sym, arith, copied, Configuration, asked_of}
use Rattle.mq_c.{specs.Sizes.bytes_of_link_lent, proofs.FaultStatuses.not_for_memory, proofs.SizedObjects.has_room_left, proofs.SizedObjects.too_small}
use Rattle.mq_c.proofs.making.link_in.Goals as goal

pub returns-in-Err-clause-granted : goal.returns-in-Err-clause-granted
returns-in-Err-clause-granted g c for_memory =
    let asked = asked_of g.F.Family.FAMILY c.args.settings (g.F.Address.Key.number c.args.own) c.args.source_specific c.args.ranges in
    absurd (not_for_memory asked _ c.in-Err.ensures for_memory)

pub returns-then-not-has_room-clause-granted : goal.returns-then-not-has_room-clause-granted
returns-then-not-has_room-clause-granted g c _ =
    too_small _ _ _ _ (ap (λ (x : Configuration). bytes_of_link_lent (copied 1 g.row.F-Address) x.room) (sym c.in-Ok.ensures.1))
    (λ fits. let has = (c.has_room.ensures _ c.size.ensures).1 fits in absurd (cc (has, c.if-not-has_room.true)))

pub unwrap-link-requires : goal.unwrap-link-requires
unwrap-link-requires g c =
    let fits = (c.has_room.ensures _ c.size.ensures).0 c.if-not-has_room.false in
    c.new_in.ensures.memory.granted (omega (arith, fits))

pub unwrap-requires : goal.unwrap-requires
unwrap-requires g c =
    let fits = (c.has_room.ensures _ c.size.ensures).0 c.if-not-has_room.false in
    c.place.ensures.granted.1 (has_room_left _ _ _ _ fits (c.new_in.ensures.memory.taken (c.new_in.ensures.memory.granted (omega (arith, fits)))))
