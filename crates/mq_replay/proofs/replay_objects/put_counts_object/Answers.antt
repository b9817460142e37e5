use Rattle.mq_replay.proofs.Common.{append_assoc}
use Rattle.mq_replay.proofs.replay_objects.put_counts_object.Goals as goal

pub returns : goal.returns
returns c =
    rw (
      c.put.ensures.text,
      c.put_number-7.ensures.text,
      c.unsent.ensures,
      c.put_number-6.ensures.text,
      c.sent.ensures,
      c.put_number-5.ensures.text,
      c.refused.ensures,
      c.put_number-4.ensures.text,
      c.ignored.ensures,
      c.put_number-3.ensures.text,
      c.applied.ensures,
      c.put_number-2.ensures.text,
      c.dropped.ensures,
      c.put_number.ensures.text,
      c.received.ensures,
    ) (simp append_assoc)
