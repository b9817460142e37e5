use Rattle.mq_check.proofs.Scheduling.{seen_scheduled}
use Rattle.mq_check.proofs.schedules.Schedules.see.Goals as goal

pub returns : goal.returns
returns g c =
    seen_scheduled _ _ _ _ _ _ _ _ _ _ _ _ _ c.self.view_is c.first-before.ensures c.is_next-follows.ensures c.left_after-left.ensures
    c.due_after-due.ensures c.is_any_of-is_scheduled.ensures c.take_before.ensures c.put_scheduled.ensures
