use Rattle.mq_link.proofs.Common.{length, arith, Spends-within}
use Rattle.std.specs.FinMap as map
use Rattle.mq_held.specs.Groups.{group_at, sources_of}
use Rattle.mq_link.proofs.{RefreshedCosts.blocked_few, RefreshedCosts.set_few, RefreshedStates.match_map}
use Rattle.mq_link.proofs.status.Status.apply_in_place.Goals as goal

pub returns-in-Some-Restart-clause-spent : goal.returns-in-Some-Restart-clause-spent
returns-in-Some-Restart-clause-spent g c =
    let groups = c.args.storage.now.held.groups in
    let size = sources_of (group_at groups (g.F.Address.Key.number c.args.lookup.address)) in
    match_map c.refresh.result c.refresh.ensures.spent (λ tried. Spends-within _ _ tried (omega arith) (omega arith))
    (λ done. Spends-within _ _ done (omega arith) (omega (arith, set_few size (length c.args.named.now) (map.len groups))))

pub returns-then-block-clause-left : goal.returns-then-block-clause-left
returns-then-block-clause-left g c = c.block.ensures.left c.if-block.true

pub returns-then-block-clause-spent : goal.returns-then-block-clause-spent
returns-then-block-clause-spent g c =
    let groups = c.args.storage.now.held.groups in
    let size = sources_of (group_at groups (g.F.Address.Key.number c.args.lookup.address)) in
    let count = length c.args.named.now in
    let blocked = rw c.if-block.true at c.block.ensures.spent in
    Spends-within _ _ blocked (omega arith) (omega (arith, blocked_few c.args.said size count (map.len groups)))
