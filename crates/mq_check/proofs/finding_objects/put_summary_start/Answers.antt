use Rattle.mq_check.proofs.Common.{append_assoc}
use Rattle.mq_check.proofs.finding_objects.put_summary_start.Goals as goal

pub returns : goal.returns
returns c =
    rw (
      c.put_count-4.ensures.text,
      c.put_count-3.ensures.text,
      c.put_count-2.ensures.text,
      c.put_count.ensures.text,
      c.put_judged.ensures.text,
      c.unjudged.ensures,
    ) (simp append_assoc)
