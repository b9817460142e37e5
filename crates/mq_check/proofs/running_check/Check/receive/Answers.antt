use Rattle.mq_check.proofs.Common.{ℕ, false, not, ap, sym, ◌∙◌, Configuration, receipt_of, Datagram, with_other_querier, causes_in, all_changed, role_changed}
use Rattle.mq_check.proofs.Common.{specific_terms, WantingValue}
use Rattle.mq_check.proofs.{Bases.other_named, Steppings.received_at, Steppings.received_is}
use Rattle.mq_check.specs.Basis as basis
use Rattle.mq_check.proofs.running_check.Check.receive.Goals as goal

pub returns-clause-receives : goal.returns-clause-receives
returns-clause-receives g c =
    let is_family = sym c.is_faultless.ensures.family ∙ ap (λ (config : Configuration). config.family) c.config.ensures in
    let now = c.moment-now.result in
    let datagram : Datagram = record { envelope = g.F.Family.envelope_of c.args.datagram.now.envelope; body = c.args.datagram.now.body.now } in
    let notes = c.change_all.ensures ∙ (λ i. record c.args.self.now.queries {
      checking = all_changed now (specific_terms (c.config-3.ensures i) (c.timing-in_force.ensures i) c.args.self.now.queries.basis.packets)
          (causes_in (is_family i) datagram) c.args.self.now.queries.checking;
    }) in
    let begins = c.begin.ensures ∙
    (λ i. record c.change_all.new.self { moment = now; by_tick = false; is_returning = not (c.is_querier-was_querier.ensures i) }) in
    let receives = c.receive-received.ensures.receives in
    let configured = c.timing-configured.ensures ∙ ap (λ (config : Configuration). config.timing) c.config-2.ensures in
    let role =
    ap (λ (w : WantingValue). w.checking) c.name_other.ensures ∙ ap (λ (w : WantingValue). w.checking) c.change_role.ensures
    ∙ (λ i. role_changed c.args.self.now.terms.within (configured i) (sym c.moment-now.ensures.same i) (c.is_querier-was_querier.ensures i)
    (c.is_querier-stays_querier.ensures i) c.receive-received.new.outlet.checking) in
    let rests =
    ap (λ (w : WantingValue). w.basis) c.name_other.ensures
    ∙ other_named g.F.Family.FAMILY g.F.Address.Key.number c.receive-received.new.self.state.election.role _ c.change_role.new.queries.basis
    c.other_querier.ensures
    ∙ ap (with_other_querier g.F.Family.FAMILY c.receive-received.new.self.state.election.role) (ap (λ (w : WantingValue). w.basis) c.change_role.ensures)
    ∙ (λ i. with_other_querier (is_family i) c.receive-received.new.self.state.election.role
    (basis.role_changed (sym c.moment-now.ensures.same i) (c.is_querier-was_querier.ensures i)
    (c.is_querier-stays_querier.ensures i) c.receive-received.new.outlet.basis)) in
    received_at _ _ _ _ _ _ _ c.moment-now.ensures.same
    (received_is g.F.Family.FAMILY c.args.self.now.terms.within now _ c.args.self.now.link c.receive-received.new.self c.args.self.now.queries
    c.change_all.new.self c.begin.new.self c.receive-received.new.outlet c.name_other.new.self _ _ is_family notes begins
    receives.receives.hands_out receives.handed role rests)

pub returns-clause-answer : goal.returns-clause-answer
returns-clause-answer g c =
    let receives = c.receive-received.ensures.receives in
    receives.receives.answer_is
    ∙ ap (λ (m : ℕ). (receipt_of c.args.self.now.link.config (g.F.Family.envelope_of c.args.datagram.now.envelope) c.args.datagram.now.body.now m
    c.args.self.now.link.state).answer) c.moment-now.ensures.same
