use Rattle.std.proofs.Common.{sym, ◌∙◌}
use Rattle.mq_held.proofs.Inside.{held-is, len-held}
use Rattle.mq_held.proofs.held_groups.HeldGroups.find.Goals as goal

pub returns-clause-held : goal.returns-clause-held
returns-clause-held g c =
    sym (held-is g.K.Key.number c.self.invariant.0 c.self.view_is (g.K.Key.number c.args.address) ∙ c.find.ensures.member)

pub returns-clause-spent : goal.returns-clause-spent
returns-clause-spent g c = rw (len-held g.K.Key.number c.self.invariant.0 c.self.view_is) c.find.ensures.spent
