use Rattle.mq_check.proofs.Common.{append_assoc, codes, address_object}
use Rattle.mq_check.{specs.FindingLines.difference_values, proofs.Texts.four_parts}
use Rattle.mq_check.proofs.finding_objects.put_difference_values.Goals as goal

pub returns-in-Suppress-clause-text : goal.returns-in-Suppress-clause-text
unfolding difference_values
returns-in-Suppress-clause-text g c =
    rw (
      c.in-Suppress.is,
      c.put_truth-in-Suppress.ensures.text,
      c.put-in-Suppress.ensures.text,
      c.put_truth.ensures.text,
      c.put.ensures.text,
    ) (simp append_assoc)

pub returns-in-Destination-clause-text : goal.returns-in-Destination-clause-text
unfolding difference_values
returns-in-Destination-clause-text g c =
    let family = g.K.LineKey.family in
    rw (
      c.in-Destination.is,
      c.put_address_object-in-Destination.ensures.text,
      c.put-in-Destination-2.ensures.text,
      c.put_address_object.ensures.text,
      c.put-in-Destination.ensures.text,
    ) (four_parts c.args.text.now.items (codes ",\"field\":\"destination\",\"seen\":")
    (address_object family (g.K.Key.number c.in-Destination.seen)) (codes ",\"wanted\":")
    (address_object family (g.K.Key.number c.in-Destination.wanted)))
