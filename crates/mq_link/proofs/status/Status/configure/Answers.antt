use Rattle.mq_link.proofs.Common.{◌∙◌, sym, subst, Configuration, IsWithinRoom, Setting}
use Rattle.mq_sched.specs.Election.{reconfigured}
use Rattle.mq_link.specs.Configuring.{config_after}
use Rattle.mq_link.specs.Status.{IsStatus}
use Rattle.mq_link.proofs.StatusSteps.{status_configured}
use Rattle.mq_link.proofs.status.Status.configure.Goals as goal

pub invariant_of-self : goal.invariant_of-self
invariant_of-self g c =
    let inside = c.self.inside in
    let election = inside.election in
    let within = subst (λ (s : Setting). IsWithinRoom (config_after s.config c.args.config)) (sym c.self.view_is) c.requires.within in
    let decided = c.configure.ensures ∙ (λ i. record {
      own = c.own.ensures i;
      configured = c.timing.ensures i;
      state = reconfigured election.configured (c.timing.ensures i) (c.own.ensures i) inside.moment election.state;
    }) in
    let there = status_configured g.F.Family.FAMILY inside.config c.args.config election _ inside.moment c.self.invariant c.is_faultless.ensures.faultless
    c.is_faultless.ensures.family within decided in
    subst (λ (k : Configuration). IsStatus g.F.Family.FAMILY k c.configure.new.self inside.moment)
    (sym (c.with_room-self-inside.ensures ∙ (λ i. record c.args.config { room = c.room.ensures i }))) there
