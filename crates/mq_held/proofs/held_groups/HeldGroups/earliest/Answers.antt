use Rattle.mq_held.proofs.EarliestHeld.{earliest-held, some-held}
use Rattle.mq_held.proofs.held_groups.HeldGroups.earliest.Goals as goal

pub returns-clause-some : goal.returns-clause-some
returns-clause-some g c =
    some-held g.K.Key.number c.self.invariant.0 c.self.view_is c.earliest.result c.earliest.ensures

pub returns-clause-earliest : goal.returns-clause-earliest
returns-clause-earliest g c n =
    earliest-held g.K.Key.number c.self.invariant.0 c.self.view_is c.earliest.result c.earliest.ensures n
