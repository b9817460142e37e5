use Rattle.mq_check.proofs.Common.{codes, address_object}
use Rattle.mq_check.{specs.FindingLines.asked_fields, proofs.Texts.three_parts}
use Rattle.mq_check.proofs.finding_objects.put_asked_fields.Goals as goal

pub returns-in-AllGroups-clause-text : goal.returns-in-AllGroups-clause-text
unfolding asked_fields
returns-in-AllGroups-clause-text g c =
    rw (
      c.in-AllGroups.is,
      c.put-in-AllGroups.ensures.text,
      c.put_address_object.ensures.text,
      c.unspecified.ensures,
      c.put.ensures.text,
    ) (three_parts c.args.text.now.items (codes ",\"group\":") (address_object g.F.Address.LineKey.family 0) (codes ",\"source\":null"))

pub returns-in-Group-clause-text : goal.returns-in-Group-clause-text
unfolding asked_fields
returns-in-Group-clause-text g c =
    rw (c.in-Group.is, c.put-in-Group-2.ensures.text, c.put_address_object-in-Group.ensures.text, c.put-in-Group.ensures.text)
    (three_parts c.args.text.now.items (codes ",\"group\":") (address_object g.F.Address.LineKey.family (g.F.Address.Key.number c.in-Group.group))
    (codes ",\"source\":null"))
