use Rattle.mq_check.proofs.Common.{refl}
use Rattle.mq_check.proofs.Earlier.{has_begun}
use Rattle.mq_check.proofs.schedules.Schedules.begin.Goals as goal

pub returns : goal.returns
returns g c = has_begun _ _ _ _ _ _ _ _ _ _ c.self.view_is refl c.due_after-due.ensures c.want.ensures c.drop_next.ensures c.put_next.ensures
