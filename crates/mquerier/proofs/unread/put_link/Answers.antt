use Rattle.mquerier.proofs.Common.{append_assoc}
use Rattle.mquerier.proofs.unread.put_link.Goals as goal

pub returns-clause-text : goal.returns-clause-text
returns-clause-text c =
    rw (c.put_decimal-2.ensures.text, c.put-2.ensures.text, c.put_decimal.ensures.text, c.put.ensures.text, c.from.ensures) (simp append_assoc)
