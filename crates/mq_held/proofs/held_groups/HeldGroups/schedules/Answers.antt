use Rattle.std.proofs.Common.{sym}
use Rattle.mq_held.proofs.Inside.{schedules-held}
use Rattle.mq_held.proofs.held_groups.HeldGroups.schedules.Goals as goal

pub returns : goal.returns
returns g c = sym (schedules-held g.K.Key.number c.self.invariant.0 c.self.view_is)
