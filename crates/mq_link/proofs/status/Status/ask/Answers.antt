use Rattle.mq_link.proofs.Common.{ℕ, ◌+◌, ◌-◌, ◌*◌, ◌≤◌, Bool, cond, true, false, [], ◌∷◌, refl, sym, ap, ◌∙◌, subst, arith, Spends-within, set_of, bitlen}
use Rattle.mq_link.proofs.Common.{bitlen-mono, acted, after_round, messages_due, Sends, quiet_is_silent, same_round, group_at, running_in, sources_of}
use Rattle.mq_link.proofs.Common.{HeldState, insert-same, QuerierContext, Storage, per_query, few-running, common_steps}
use Rattle.std.specs.FinMap as map
use Rattle.mq_held.proofs.Inside.{some-address}
use Rattle.mq_link.proofs.{KeptGroups.group_found, Moved.spends_none}
use Rattle.mq_link.proofs.status.Status.ask.Goals as goal

-- a router that isn't querier asks for nothing; a querier asks
pub returns-then-at-clause-groups : goal.returns-then-at-clause-groups
returns-then-at-clause-groups g c address has =
    let at = c.args.self.now in
    let groups = c.args.storage.now.held.groups in
    let in_force = c.in_force-at.ensures.in_force in
    let asks = sym (ap (λ (f : QuerierContext). f.is_querier) in_force) ∙ c.if-at.true in
    let asked = set_of (λ s. s) (g.F.Address.Key.number c.args.source ∷ []) in
    c.ask.ensures.groups address has
    ∙ (λ i. let s : HeldState =
    record c.args.storage.now.held {
      groups = map.insert groups address
          (after_round (in_force i).timing (in_force i).moment
          (acted (sym asks i) (in_force i).timing (in_force i).moment false asked (group_at groups address)));
    } in s)

pub returns-then-at-clause-sent : goal.returns-then-at-clause-sent
returns-then-at-clause-sent g c address has =
    let groups = c.args.storage.now.held.groups in
    let in_force = c.in_force-at.ensures.in_force in
    let asks = sym (ap (λ (f : QuerierContext). f.is_querier) in_force) ∙ c.if-at.true in
    let per = c.PER_QUERY.ensures ∙ g.met.F.Family.per_query ∙ ap per_query (sym c.lemma_is_sound.ensures.family) in
    let asked = set_of (λ s. s) (g.F.Address.Key.number c.args.source ∷ []) in
    subst (λ queries. Sends g.S.Sink.takes c.args.sink.now queries c.ask.new.sink)
    (λ i. messages_due (per i) (in_force i).timing (in_force i).moment address
    (acted (sym asks i) (in_force i).timing (in_force i).moment false asked (group_at groups address))) (c.ask.ensures.sent address has)

pub returns-then-at-clause-absent : goal.returns-then-at-clause-absent
returns-then-at-clause-absent g c absent =
    let found = some-address c.args.storage.now.held c.args.number c.requires.number in
    let size = sources_of (group_at c.args.storage.now.held.groups found.0) in
    let still = c.ask.ensures.absent absent in
    let unmoved = spends_none (c.ask.ensures.moved found.0 found.1)
    (ap (λ b. cond b (size + 2 + bitlen (running_in c.args.storage.now.held.groups - 1)) 0) absent) in
    λ i. let s : Storage _ _ = record { held = still i; meter = c.ask.new.m; moves = unmoved i } in s

pub returns-then-at-clause-spent : goal.returns-then-at-clause-spent
returns-then-at-clause-spent g c address has =
    let groups = c.args.storage.now.held.groups in
    let all = few-running groups in
    let digits = bitlen-mono (running_in groups - 1) (map.len groups) (omega (arith, all)) in
    let size = sources_of (group_at groups address) in
    Spends-within _ _ (c.ask.ensures.spent address has) (omega arith) (wider c.ask.result size digits)
  where
    wider : (b : Bool) (size : ℕ) {others all : ℕ} → others ≤ all → bitlen size + cond b (3 * size + 5 + others) 0 ≤ bitlen size + cond b (3 * size + 5 + all) 0
    wider true size few = omega (arith, few)
    wider false size few = omega arith

pub returns-then-at-clause-moved : goal.returns-then-at-clause-moved
returns-then-at-clause-moved g c address has =
    let groups = c.args.storage.now.held.groups in
    let all = few-running groups in
    let digits = bitlen-mono (running_in groups - 1) (map.len groups) (omega (arith, all)) in
    Spends-within _ _ (c.ask.ensures.moved address has) (omega arith) (wider c.ask.result (sources_of (group_at groups address)) digits)
  where
    wider : (b : Bool) (size : ℕ) {others all : ℕ} → others ≤ all → cond b (size + 2 + others) 0 ≤ size + 2 + all
    wider true size few = omega (arith, few)
    wider false size few = omega arith

pub returns-else-at-clause-groups : goal.returns-else-at-clause-groups
returns-else-at-clause-groups g c address has =
    let at = c.args.self.now in
    let groups = c.args.storage.now.held.groups in
    let e = group_at groups address in
    let asks = sym (ap (λ (f : QuerierContext). f.is_querier) c.in_force-at.ensures.in_force) ∙ c.if-at.false in
    let asked = set_of (λ s. s) (g.F.Address.Key.number c.args.source ∷ []) in
    let stays = ap (λ b. after_round at.election.timing at.now (acted b at.election.timing at.now false asked e)) asks ∙
    same_round at.election.timing at.now e (c.requires.quiet address has) in
    let same = sym (insert-same groups address e (group_found groups address (c.lemma_is_numbered.ensures.of_one address c.args.number has))) ∙
    ap (map.insert groups address) (sym stays) in
    λ i. let s : HeldState = record c.args.storage.now.held { groups = same i } in s

pub returns-else-at-clause-sent : goal.returns-else-at-clause-sent
returns-else-at-clause-sent g c address has =
    let at = c.args.self.now in
    let e = group_at c.args.storage.now.held.groups address in
    let asks = sym (ap (λ (f : QuerierContext). f.is_querier) c.in_force-at.ensures.in_force) ∙ c.if-at.false in
    let asked = set_of (λ s. s) (g.F.Address.Key.number c.args.source ∷ []) in
    let silent = ap (λ b. messages_due (per_query at.config.family) at.election.timing at.now address
    (acted b at.election.timing at.now false asked e)) asks ∙ quiet_is_silent (per_query at.config.family) at.election.timing at.now address e
    (c.requires.quiet address has) in
    subst (λ queries. Sends g.S.Sink.takes c.args.sink.now queries c.args.sink.now) (sym silent) refl

pub returns-else-at-clause-spent : goal.returns-else-at-clause-spent
returns-else-at-clause-spent g c = grind (arith, common_steps)

pub returns-else-at-clause-there : goal.returns-else-at-clause-there
returns-else-at-clause-there g c = grind (arith, common_steps)
