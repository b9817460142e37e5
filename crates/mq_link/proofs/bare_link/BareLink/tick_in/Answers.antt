use Rattle.mq_link.proofs.Common.{◌≡◌, ◌<◌, true, ap, ◌∙◌, sym, subst, rules, AreThose, changed_by_tick, HasTicked, LinkValue, RouterValue, link_of, LinkState}
use Rattle.mq_link.proofs.Common.{next_of, tick_of, TickCosts}
use Rattle.mq_link.proofs.{HandedOut.with_answers, HandedOver.same_outlet, LinkTicked.has_ticked}
use Rattle.mq_link.proofs.bare_link.BareLink.tick_in.Given.{Over}
use Rattle.mq_link.proofs.bare_link.BareLink.tick_in.Goals as goal
use Rattle.mq_link.proofs.bare_link.BareLink.tick_in.Goals.{After-count_answers}

-- the answers are those that the sender has counted
counted : (g : Over) (c : After-count_answers g) →
    c.count_answers.new.self
    ≡ record c.come_to.new.self { counters = with_answers c.come_to.new.self.counters c.come_to.new.sender.sent c.come_to.new.sender.unsent }
counted g c =
    c.count_answers.ensures
    ∙ (λ i. record c.come_to.new.self { counters = with_answers c.come_to.new.self.counters (c.sent.ensures i) (c.unsent.ensures i) })

ticks : (g : Over) (c : After-count_answers g) →
    HasTicked g.O.QueryOutlet.takes c.args.now (link_of c.self.inside.router) (link_of c.count_answers.new.self) c.new-sender.result.outlet.now
    c.come_to.new.sender.outlet.now
ticks g c = has_ticked g.O.QueryOutlet.takes g.F.Family.FAMILY c.args.now c.self.inside.router c.come_to.new.self c.count_answers.new.self
    c.new-sender.result c.come_to.new.sender c.lemma_is_stored.ensures.family c.come_to.ensures.step (counted g c)

pub returns-clause-later : goal.returns-clause-later
returns-clause-later g c =
    let now = c.args.now in
    let later = subst (λ (v : LinkValue). now < next_of (tick_of v.config now v.state).state) (sym c.self.view_is) (c.is_well_formed.ensures.later now) in
    subst (λ (s : LinkState). now < next_of s) (sym (ticks g c.before).ticks.leaves) later

pub returns-clause-config : goal.returns-clause-config
returns-clause-config g c = ap (λ (r : RouterValue). r.at.config) (counted g c.before) ∙ c.come_to.ensures.step.leaves.config ∙
    ap (λ (v : LinkValue). v.config) c.self.view_is

pub returns-clause-costs : goal.returns-clause-costs
returns-clause-costs g c =
    let before = c.self.inside.router in
    let costs = c.come_to.ensures.costs in
    subst (λ (v : LinkValue). TickCosts true c.args.now v (link_of c.count_answers.new.self)) c.self.view_is
    (subst (λ (r : RouterValue). TickCosts true c.args.now (link_of before) (link_of r)) (sym (counted g c.before))
    (record { spent = costs.spent; least = costs.least; bounded = costs.bounded; moved = costs.moved; quiet = costs.quiet; still = costs.still }))

pub returns-clause-changed : goal.returns-clause-changed
returns-clause-changed g c =
    subst (λ (v : LinkValue). AreThose (changed_by_tick v.config c.args.now v.state) c.come_to.new.work.changed) c.self.view_is c.come_to.ensures.changed

pub returns-clause-ticks : goal.returns-clause-ticks
returns-clause-ticks g c =
    let outlet = same_outlet _ _ _ _ _ c.come_to.ensures.step.sent in
    let there = subst (λ (v : LinkValue). HasTicked g.O.QueryOutlet.takes c.args.now v (link_of c.count_answers.new.self) c.new-sender.result.outlet.now
    c.come_to.new.sender.outlet.now) c.self.view_is (ticks g c.before) in
    search (rules, there, outlet)
