use Rattle.mq_check.proofs.Common.{append_assoc}
use Rattle.mq_check.proofs.finding_objects.put_finding_rest.Goals as goal

pub returns : goal.returns
returns g c =
    rw (
      c.put-4.ensures.text,
      c.put_section.ensures.text,
      c.put-3.ensures.text,
      c.put_of_family.ensures.text,
      c.put-2.ensures.text,
      c.put_number.ensures.text,
      c.number_of.ensures,
      c.put.ensures.text,
      c.put_finding_values.ensures.text,
    ) (simp append_assoc)
