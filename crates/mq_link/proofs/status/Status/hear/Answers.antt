use Rattle.mq_link.proofs.StatusSteps.{status_heard}
use Rattle.mq_link.proofs.status.Status.hear.Goals as goal

pub invariant_of-self : goal.invariant_of-self
invariant_of-self g c =
    let inside = c.self.inside in
    status_heard g.F.Family.FAMILY inside.config inside.election _ inside.moment (g.F.Address.Key.number c.args.source) c.args.announced
    c.self.invariant c.requires.carried c.hear.ensures.state
