use Rattle.std.proofs.Common.{sym, ◌∙◌}
use Rattle.mq_held.proofs.Inside.{len-held}
use Rattle.mq_held.proofs.held_groups.HeldGroups.len.Goals as goal

pub returns : goal.returns
returns g c = c.len.ensures.len ∙ sym (len-held g.K.Key.number c.self.invariant.0 c.self.view_is)
