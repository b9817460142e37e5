use Rattle.mq_replay.proofs.Common.{codes}
use Rattle.mq_lines.{specs.Objects.address_object, specs.Objects.protocol_text, proofs.Parts.six_parts}
use Rattle.mq_replay.proofs.packet_text.put_addresses.Goals as goal

pub returns-clause-text : goal.returns-clause-text
returns-clause-text g c =
    let family = g.K.LineKey.family in
    rw (
      c.put_address_object-2.ensures.text,
      c.put-4.ensures.text,
      c.put_address_object.ensures.text,
      c.put-3.ensures.text,
      c.put-2.ensures.text,
      c.protocol.ensures.name,
      c.put.ensures.text,
    ) (six_parts c.args.buffer.now.items (codes ",\"family\":\"") (protocol_text family) (codes "\",\"source\":")
    (address_object family (g.K.Key.number c.args.source)) (codes ",\"destination\":") (address_object family (g.K.Key.number c.args.destination)))
