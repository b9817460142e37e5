use Rattle.mq_link.proofs.Common.{◌≡◌, ◌+◌, ◌||◌, max, true, length, refl, ap, ◌∙◌, sym, subst, arith, Spends, Spends-within, ticked, Configuration, cost_of}
use Rattle.mq_link.proofs.Common.{changed_by_read, changed_by_tick, least_after, drop_reason, setting_of, Setting, ReceiveCosts, RouterValue, link_of, state_of}
use Rattle.mq_link.proofs.Common.{LinkState, held_of, tick_of, suffices, with_changed}
use Rattle.mq_link.proofs.{HandedOut.with_answers, HandedOver.same_outlet, LinkReceived.has_received, LinkReceived.read_in, ListedGroups.those_so}
use Rattle.mq_link.proofs.{TickedSizes.received_within, TickedSizes.moved_within, TickedSizes.least_after_tick}
use Rattle.mq_link.proofs.router.Router.receive.Given.{Over}
use Rattle.mq_link.proofs.router.Router.receive.Goals as goal

-- the answers are those that the sender has counted
counted : (g : Over) (c : goal.After-count_answers g) →
    (let left = c.take_in-received.new in c.count_answers.new.self
    ≡ record left.self { counters = with_answers left.self.counters left.sender.sent left.sender.unsent })
counted g c =
    let left = c.take_in-received.new in
    c.count_answers.ensures ∙ (λ i. record left.self { counters = with_answers left.self.counters (c.sent.ensures i) (c.unsent.ensures i) })

pub returns-clause-config : goal.returns-clause-config
returns-clause-config g c = ap (λ (r : RouterValue). r.at.config) (counted g c) ∙ c.take_in-received.ensures.receipt.step.leaves.config ∙
    c.come_to.ensures.step.leaves.config

pub returns-clause-receives : goal.returns-clause-receives
returns-clause-receives g c =
    has_received g.O.QueryOutlet.takes g.F.Family.FAMILY (g.F.Family.envelope_of c.args.envelope.now) c.args.body.now c.args.now c.args.self.now
    c.come_to.new.self c.take_in-received.new.self c.count_answers.new.self c.take_in-received.result c.args.sender.now c.come_to.new.sender
    c.take_in-received.new.sender c.lemma_is_stored.ensures.family c.come_to.ensures.step c.take_in-received.ensures.receipt (counted g c)

pub returns-clause-same_outlet : goal.returns-clause-same_outlet
returns-clause-same_outlet g c = same_outlet _ _ _ _ _ c.take_in-received.ensures.receipt.step.sent ∙ same_outlet _ _ _ _ _ c.come_to.ensures.step.sent

pub returns-clause-costs : goal.returns-clause-costs
returns-clause-costs g c =
    let family = g.F.Family.FAMILY in
    let before = c.args.self.now in
    let between = c.come_to.new.self in
    let left = c.take_in-received.new.self in
    let config = before.at.config in
    let envelope = g.F.Family.envelope_of c.args.envelope.now in
    let moment = max before.at.now c.args.now in
    let timing = (ticked config.timing moment before.at.election).timing in
    let leaves = c.come_to.ensures.step.leaves in
    let groups = ap (λ (s : LinkState). s.groups) leaves.state_is in
    let most = cost_of (length c.args.body.now) (held_of (state_of before)) in
    let spent = received_within timing moment before.groups between.groups (length c.args.body.now) _ _ _ _ _ groups c.come_to.ensures.few
    (Spends-within _ _ (c.come_to.ensures.costs.least refl) (omega arith) (omega arith)) c.take_in-received.ensures.spent in
    let least = (λ i. let at : Setting = record { config = leaves.config i; election = between.at.election; now = between.at.now } in
    least_after at envelope (read_in family envelope c.args.body.now) between.groups)
    ∙ least_after_tick family config envelope c.args.body.now c.args.now moment (state_of before)
    (state_of between) c.lemma_is_stored.ensures.family refl leaves.state_is
    in
    let moved = moved_within timing moment before.groups between.groups (length c.args.body.now) _ _ _ _ _ _ groups c.lemma_is_stored.ensures.put_by
    c.come_to.ensures.paid c.take_in-received.ensures.moved in
    let enough = subst (λ n. Spends (2 + n) most before.spent left.spent) least spent in
    subst (λ (r : RouterValue). ReceiveCosts true envelope c.args.body.now c.args.now (link_of before) (link_of r)) (sym (counted g c))
    (record { spent = Spends-within 0 most enough (omega arith) (omega arith); least = λ _. enough; moved = moved })

pub take_in-received-requires-clause-enough : goal.take_in-received-requires-clause-enough
take_in-received-requires-clause-enough g c =
    (λ i. suffices (c.come_to.ensures.step.leaves.config i).room (c.come_to.ensures.workspace i)) ∙ c.requires.enough

pub take_in-received-requires-clause-few_changed : goal.take_in-received-requires-clause-few_changed
take_in-received-requires-clause-few_changed g c =
    let limits = ap (λ (k : Configuration). k.room.groups) c.come_to.ensures.step.leaves.config in
    omega (arith, limits, c.come_to.ensures.few, c.lemma_is_stored.ensures.sound.within.group_count, c.lemma_is_stored.ensures.within.groups)

pub returns-clause-workspace : goal.returns-clause-workspace
returns-clause-workspace g c =
    c.take_in-received.ensures.workspace ∙ (λ i. with_changed (c.come_to.ensures.workspace i) c.take_in-received.new.work.changed)

pub returns-clause-changed : goal.returns-clause-changed
returns-clause-changed g c =
    let config = c.args.self.now.at.config in
    let around = g.F.Family.envelope_of c.args.envelope.now in
    let bytes = c.args.body.now in
    let by_tick = changed_by_tick config c.args.now (state_of c.args.self.now) in
    let leaves = c.come_to.ensures.step.leaves in
    let family = sym c.lemma_is_stored.ensures.family in
    let at_is : c.come_to.new.self.at ≡ setting_of config (tick_of config c.args.now (state_of c.args.self.now)).state =
    (λ i. record { config = leaves.config i; election = (leaves.state_is i).election; now = (leaves.state_is i).last })
    in
    those_so (λ address. λ i. by_tick address || changed_by_read (at_is i) (read_in (family i) around bytes)
    (drop_reason (leaves.config i) around (read_in (family i) around bytes)) (leaves.state_is i).groups address)
    (c.take_in-received.ensures.changed by_tick c.come_to.ensures.changed)
