use Rattle.mq_check.proofs.Common.{Bool, true, not, ap, sym, ◌∙◌, is_querier, Configuration, role_after_tick, WantingValue}
use Rattle.mq_check.proofs.Steppings.{ticked_is}
use Rattle.mq_check.specs.Basis as basis
use Rattle.mq_check.proofs.running_check.Check.tick.Goals as goal

pub returns-then-was_querier-clause-ticks : goal.returns-then-was_querier-clause-ticks
returns-then-was_querier-clause-ticks g c =
    let is_family = sym c.is_faultless.ensures.family ∙ ap (λ (config : Configuration). config.family) c.config.ensures in
    let was = sym c.is_querier-was_querier.ensures ∙ c.if-was_querier.true in
    let begins = c.begin.ensures ∙
    (λ i. record c.args.self.now.queries { moment = c.args.now; by_tick = true; is_returning = not (c.is_querier-was_querier.ensures i) }) in
    let ticks = c.tick.ensures.ticks in
    ticked_is g.F.Family.FAMILY c.args.self.now.terms.within c.args.now c.args.self.now.link c.tick.new.self c.args.self.now.queries c.begin.new.self
    c.tick.new.outlet c.tick.new.outlet _ _ is_family begins ticks.ticks ticks.handed
    (ap (λ (b : Bool). role_after_tick c.args.self.now.terms.within c.args.now b (is_querier c.tick.new.self.state.election.role)
    c.tick.new.outlet.checking) (sym was))
    (ap (λ (b : Bool). basis.role_after_tick c.args.now b (is_querier c.tick.new.self.state.election.role) c.tick.new.outlet.basis) (sym was))

pub returns-then-not-is_querier-clause-ticks : goal.returns-then-not-is_querier-clause-ticks
returns-then-not-is_querier-clause-ticks g c =
    let is_family = sym c.is_faultless.ensures.family ∙ ap (λ (config : Configuration). config.family) c.config.ensures in
    let was = sym c.is_querier-was_querier.ensures ∙ c.if-was_querier.false in
    let is = sym c.is_querier.ensures ∙ c.if-not-is_querier.true in
    let begins = c.begin.ensures ∙
    (λ i. record c.args.self.now.queries { moment = c.args.now; by_tick = true; is_returning = not (c.is_querier-was_querier.ensures i) }) in
    let ticks = c.tick.ensures.ticks in
    ticked_is g.F.Family.FAMILY c.args.self.now.terms.within c.args.now c.args.self.now.link c.tick.new.self c.args.self.now.queries c.begin.new.self
    c.tick.new.outlet c.tick.new.outlet _ _ is_family begins ticks.ticks ticks.handed
    (λ i. role_after_tick c.args.self.now.terms.within c.args.now (sym was i) (sym is i) c.tick.new.outlet.checking)
    (λ i. basis.role_after_tick c.args.now (sym was i) (sym is i) c.tick.new.outlet.basis)

pub returns-clause-ticks : goal.returns-clause-ticks
returns-clause-ticks g c =
    let is_family = sym c.is_faultless.ensures.family ∙ ap (λ (config : Configuration). config.family) c.config.ensures in
    let was = sym c.is_querier-was_querier.ensures ∙ c.if-was_querier.false in
    let is = sym c.is_querier.ensures ∙ c.if-not-is_querier.false in
    let begins = c.begin.ensures ∙
    (λ i. record c.args.self.now.queries { moment = c.args.now; by_tick = true; is_returning = not (c.is_querier-was_querier.ensures i) }) in
    let ticks = c.tick.ensures.ticks in
    ticked_is g.F.Family.FAMILY c.args.self.now.terms.within c.args.now c.args.self.now.link c.tick.new.self c.args.self.now.queries c.begin.new.self
    c.tick.new.outlet c.return_role.new.self _ _ is_family begins ticks.ticks ticks.handed
    (ap (λ (w : WantingValue). w.checking) c.return_role.ensures ∙
    (λ i. role_after_tick c.args.self.now.terms.within c.args.now (sym was i) (sym is i) c.tick.new.outlet.checking))
    (ap (λ (w : WantingValue). w.basis) c.return_role.ensures ∙ (λ i. basis.role_after_tick c.args.now (sym was i) (sym is i) c.tick.new.outlet.basis))
