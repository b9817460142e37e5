use Rattle.mq_link.proofs.Common.{ap, arith, LinkValue}
use Rattle.mq_link.proofs.link.Link.changed.Goals as goal

pub returns-clause-few : goal.returns-clause-few
returns-clause-few g c =
    let limits = ap (λ (l : LinkValue). l.config.room.groups) c.self.view_is in
    omega (arith, c.changed.ensures.few, c.self.invariant.1, limits)
