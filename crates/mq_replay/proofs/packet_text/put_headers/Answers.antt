use Rattle.mq_replay.proofs.Common.{codes, ◌++◌, ◌∙◌, append_assoc, truth_object, five_parts}
use Rattle.std.specs.Fmt.{decimal}
use Rattle.mq_replay.specs.Listing.{address_fields, header_fields}
use Rattle.mq_replay.proofs.packet_text.put_headers.Goals as goal

pub returns : goal.returns
returns g c =
    let number = g.K.Key.number in
    let addresses = address_fields g.K.LineKey.family (number c.args.source) (number c.args.destination) in
    let held = c.args.buffer.now.items in
    rw (
      c.if-not-json.false,
      c.put-4.ensures.text,
      c.put_truth.ensures.text,
      c.put-3.ensures.text,
      c.put_decimal.ensures.text,
      c.from.ensures,
      c.put-2.ensures.text,
      c.put_addresses.ensures.text,
    ) (five_parts (held ++ addresses) (codes ",\"ttl\":") (decimal c.args.ttl) (codes ",\"alert\":") (truth_object c.args.alert)
    (codes ",\"message\":") ∙ append_assoc held addresses (header_fields c.args.ttl c.args.alert))
