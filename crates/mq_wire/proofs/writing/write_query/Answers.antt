use Rattle.mq_wire.proofs.Common.{◌++◌, refl, sym, ◌∙◌, arith, big_bytes, fields_bytes}
use Rattle.mq_wire.proofs.WrittenParts.{length_query, length_with_checksum}
use Rattle.mq_wire.proofs.writing.write_query.Goals as goal

pub returns-then-out-needed : goal.returns-then-out-needed
returns-then-out-needed g c =
    let width = g.K.WireKey.WIDTH in
    let group = g.K.Key.number c.args.group in
    let query = length_query width group c.args.head.now c.args.fields.now in
    let text = c.args.head.now ++ big_bytes width group ++ fields_bytes width c.args.fields.now in
    let same_length = length_with_checksum c.args.pseudo.now text (omega (arith, query, c.requires.header)) in
    (c.query_length-needed.ensures ∙ sym (same_length ∙ query), c.if-out-needed.true, refl)
