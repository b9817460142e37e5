use Rattle.mq_link.proofs.StatusSteps.{status_ticked}
use Rattle.mq_link.proofs.status.Status.tick.Goals as goal

pub invariant_of-self : goal.invariant_of-self
invariant_of-self g c =
    let inside = c.self.inside in
    status_ticked g.F.Family.FAMILY inside.config inside.election _ inside.moment c.args.now c.self.invariant c.requires.in_range c.tick.ensures.state
