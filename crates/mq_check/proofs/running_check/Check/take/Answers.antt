use Rattle.mq_check.proofs.Common.{sym, ap, ◌∙◌, Configuration, Datagram}
use Rattle.mq_check.proofs.Steppings.{taken_is}
use Rattle.mq_check.proofs.running_check.Check.take.Goals as goal

pub returns-clause-takes : goal.returns-clause-takes
returns-clause-takes g c =
    let is_family = sym c.is_faultless.ensures.family ∙ ap (λ (config : Configuration). config.family) c.config.ensures in
    let datagram : Datagram = record { envelope = g.F.Family.envelope_of c.args.datagram.now.envelope; body = c.args.datagram.now.body.now } in
    taken_is g.F.Family.FAMILY c.args.self.now.terms.within c.args.stamp datagram c.receive-received.result c.args.self.now.link
    c.receive-received.new.self.link c.args.self.now.queries c.receive-received.new.self.queries c.refuse.new.self is_family
    c.receive-received.ensures.receives c.receive-received.ensures.answer c.refuse.ensures
