use Rattle.mq_check.proofs.Earlier.{cause_noted}
use Rattle.mq_check.proofs.schedules.Schedules.note_cause.Goals as goal

pub returns : goal.returns
returns g c = cause_noted _ _ _ _ _ _ _ c.self.view_is c.join_any.ensures.joined c.put.ensures
