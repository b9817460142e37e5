use Rattle.mq_check.proofs.Scheduling.{wanted_scheduled}
use Rattle.mq_check.proofs.schedules.Schedules.want.Goals as goal

pub returns : goal.returns
returns g c = wanted_scheduled _ _ _ _ _ _ _ _ c.self.view_is c.due_after-due.ensures c.join_any.ensures.joined c.put.ensures
