use Rattle.mq_convert.proofs.Common.{append_assoc, record_header}
use Rattle.mq_convert.proofs.records.put_header.Goals as goal

pub returns-clause-text : goal.returns-clause-text
unfolding record_header
returns-clause-text c =
    rw (
      c.put-4.ensures.text,
      c.put-3.ensures.text,
      c.put-2.ensures.text,
      c.put.ensures.text,
      c.to_le_bytes.ensures,
      c.to_le_bytes-2.ensures,
      c.to_le_bytes-3.ensures,
      c.to_le_bytes-4.ensures,
    ) (simp append_assoc)
