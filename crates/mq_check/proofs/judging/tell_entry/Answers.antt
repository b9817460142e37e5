-- A wanted query that has its partner is not told.
use Rattle.mq_check.proofs.Tellings.{none_told}
use Rattle.mq_check.proofs.judging.tell_entry.Goals as goal

pub returns-then-is_found : goal.returns-then-is_found
returns-then-is_found g c = rw (c.in-Wanted.is, c.if-is_found.true) (none_told _ _ _ _)
