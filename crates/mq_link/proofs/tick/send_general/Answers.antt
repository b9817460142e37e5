use Rattle.std.proofs.Common.{refl}
use Rattle.mq_link.proofs.tick.send_general.Goals as goal

pub returns-then-is_due : goal.returns-then-is_due
returns-then-is_due g c = rw c.if-is_due.true (c.send_general.new.self, c.send_general.ensures, refl)
