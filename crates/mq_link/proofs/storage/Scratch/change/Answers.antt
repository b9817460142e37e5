use Rattle.mq_link.proofs.Common.{◌≡◌, ◌+◌, ◌≤◌, false, true, [], Some, min, length, sym, ap, ◌∙◌, subst, arith, Spends, bitlen, SetState, LooksByHalves}
use Rattle.mq_link.proofs.Common.{hosts_of, with_sources, named_in, size_of, len-timers_in, statement_of, acts_as, StatementKind, Record, Scratch, group_stored}
use Rattle.mq_link.proofs.Common.{least_merge, most_changed, restarts}
use Rattle.mq_link.proofs.ChangedRecords.{changed_by_older}
use Rattle.mq_link.proofs.RefreshedCosts.{BlocksSo, asks_by, block_acts, blocks_is, merge_by, none_taken_keeps}
use Rattle.mq_link.proofs.RefreshedGroups.{none_listed, restarts-unasked, restarts-unasked_sources}
use Rattle.mq_link.proofs.storage.Scratch.change.Given.{Over}
use Rattle.mq_link.proofs.storage.Scratch.change.Goals as goal
use Rattle.mq_link.proofs.storage.Scratch.change.Goals.{After-load_changed-loaded, then-is_emptied, else-is_emptied}

-- a BLOCK acts as one, of all sources that it names
blocked : (g : Over) (c : After-load_changed-loaded g) →
    BlocksSo c.args.said c.in_ok-kind.kind c.in_ok-kind.is_emptied (named_in g.K.Key.number c.args.self.now.named.members)
blocked g c k said is =
    let named = named_in g.K.Key.number c.args.self.now.named.members in
    let hosts = hosts_of (group_stored g.K.Key.number c.args.stored.now) c.args.at.now.moment in
    block_acts c.args.muting.v1_mutes_leave c.args.muting.is_muted hosts named c.in_ok-kind.kind c.in_ok-kind.is_emptied
    (subst (λ (said : StatementKind). acts_as c.args.muting.v1_mutes_leave c.args.muting.is_muted hosts (statement_of said named)
    ≡ with_sources named (Some (c.in_ok-kind.kind, c.in_ok-kind.is_emptied))) (said ∙ ap Record (blocks_is k is)) (c.in_ok-kind.ensures.acts named))

-- the comparisons of the change, whatever it does for an older host
merged : (g : Over) (c : After-load_changed-loaded g) →
    (let acts = acts_as c.args.muting.v1_mutes_leave c.args.muting.is_muted
    (hosts_of (group_stored g.K.Key.number c.args.stored.now) c.args.at.now.moment)
    (statement_of c.args.said (named_in g.K.Key.number c.args.self.now.named.members)) in
    Spends (least_merge (size_of (group_stored g.K.Key.number c.args.stored.now)) acts)
    (most_changed c.args.said (size_of (group_stored g.K.Key.number c.args.stored.now)) (length c.args.self.now.named.members)) c.args.m.now
    c.load_changed-loaded.new.m)
unfolding LooksByHalves
merged g c =
    let row = c.args.stored.now.sources.now in
    let size = len-timers_in g.K.Key.number row c.requires.ascending in
    let same : c.in_ok-kind.is_emptied ≡ false → c.if-is_emptied.self.named.members ≡ c.args.self.now.named.members = elim c.if-is_emptied.branch [
      | then-is_emptied w ↦ λ kept. cc
      | else-is_emptied w ↦ λ kept. ap (λ (s : Scratch _ _). s.named.members) w.self-is
    ] in
    let fewer : length c.if-is_emptied.self.named.members ≤ length c.args.self.now.named.members = elim c.if-is_emptied.branch [
      | then-is_emptied w ↦ omega (arith, ap (λ (s : Scratch _ _). length s.named.members) w.self-is, ap (λ (s : SetState _). length s.members) w.clear.ensures)
      | else-is_emptied w ↦ omega (arith, ap (λ (s : Scratch _ _). length s.named.members) w.self-is)
    ] in
    merge_by g.K.Key.number (size_of (group_stored g.K.Key.number c.args.stored.now)) c.args.said c.in_ok-kind.kind c.in_ok-kind.is_emptied
    c.args.self.now.named.members c.if-is_emptied.self.named.members
    (acts_as c.args.muting.v1_mutes_leave c.args.muting.is_muted (hosts_of (group_stored g.K.Key.number c.args.stored.now) c.args.at.now.moment)
    (statement_of c.args.said (named_in g.K.Key.number c.args.self.now.named.members))) c.args.m.now c.acted_as.new.m c.load_changed-loaded.new.m
    (c.in_ok-kind.ensures.acts (named_in g.K.Key.number c.args.self.now.named.members)) same fewer c.in_ok-kind.ensures.restarts
    (blocked g c) c.acted_as.ensures.spent
    (subst (λ n. Spends (min n (length c.if-is_emptied.self.named.members))
    (n + length c.if-is_emptied.self.named.members) c.acted_as.new.m c.load_changed-loaded.new.m) (sym size) c.load_changed-loaded.ensures.spent)
    (λ takes_none one. subst (λ n. Spends 0 (bitlen n) c.acted_as.new.m c.load_changed-loaded.new.m) (sym size)
    (c.load_changed-loaded.ensures.by_halves one (none_taken_keeps c.in_ok-kind.kind c.args.stored.now.mode row takes_none c.requires.running)))

pub returns-in-OlderJoin-clause-spent : goal.returns-in-OlderJoin-clause-spent
returns-in-OlderJoin-clause-spent g c = merged g c.before.before.before.before

pub returns-in_default-clause-spent : goal.returns-in_default-clause-spent
returns-in_default-clause-spent g c = merged g c.before

-- a record that is heard again asks for nothing
nothing_asked : (g : Over) (c : After-load_changed-loaded g) → restarts c.in_ok-kind.kind ≡ true → (c.load_changed-loaded.result.asks_group ≡ false) ×
    (c.load_changed-loaded.new.asked.items ≡ [])
nothing_asked g c is =
    let before = group_stored g.K.Key.number c.args.stored.now in
    let named = named_in g.K.Key.number c.if-is_emptied.self.named.members in (
      c.load_changed-loaded.ensures.query_group ∙ restarts-unasked c.args.at.now.timing c.args.at.now.moment before c.in_ok-kind.kind named is,
      none_listed g.K.Key.number c.load_changed-loaded.new.asked.items (λ s. c.load_changed-loaded.ensures.query s ∙
          restarts-unasked_sources c.args.at.now.timing c.args.at.now.moment before c.in_ok-kind.kind named s is),
    )

pub returns-in-OlderJoin-clause-asks : goal.returns-in-OlderJoin-clause-asks
returns-in-OlderJoin-clause-asks g c =
    asks_by c.args.said c.in_ok-kind.kind c.in_ok-kind.is_emptied c.in_ok-kind.ensures.restarts (nothing_asked g c.before.before.before.before)

pub returns-in_default-clause-asks : goal.returns-in_default-clause-asks
returns-in_default-clause-asks g c =
    asks_by c.args.said c.in_ok-kind.kind c.in_ok-kind.is_emptied c.in_ok-kind.ensures.restarts (nothing_asked g c.before)

-- older hosts have no part in what is forwarded
pub returns-in-OlderJoin-clause-changes_filter : goal.returns-in-OlderJoin-clause-changes_filter
returns-in-OlderJoin-clause-changes_filter g c =
    changed_by_older c.in-OlderJoin.version c.args.at.now.timing c.args.at.now.moment (group_stored g.K.Key.number c.args.stored.now)
    c.load_changed-loaded.new.self.state c.older.new.self.state _ c.load_changed-loaded.ensures.changes_filter c.older.ensures.state
