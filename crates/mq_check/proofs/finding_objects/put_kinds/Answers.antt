use Rattle.mq_check.proofs.Common.{append_assoc}
use Rattle.mq_check.proofs.finding_objects.put_kinds.Goals as goal

pub returns : goal.returns
returns c =
    rw (
      c.put.ensures.text,
      c.put_count-6.ensures.text,
      c.put_count-5.ensures.text,
      c.put_count-4.ensures.text,
      c.put_count-3.ensures.text,
      c.put_count-2.ensures.text,
      c.put_count.ensures.text,
    ) (simp append_assoc)
