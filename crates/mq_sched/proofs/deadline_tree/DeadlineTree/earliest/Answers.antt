use Rattle.mq_sched.proofs.Common.{◌<◌, arith, ap, length, get_or_read, TreeState}
use Rattle.mq_sched.proofs.DeadlineTree.{top_is_earliest}
use Rattle.mq_sched.proofs.deadline_tree.DeadlineTree.earliest.Goals as goal

pub returns : goal.returns
returns g c =
    let nodes = ap (λ (s : TreeState). s.nodes) c.self.view_is in
    let count = ap (λ (s : TreeState). s.count) c.self.view_is in
    let known = c.self.invariant.0 in
    let some : 0 < length c.self.inside.lefts.items = omega (arith, c.if-len-eq0.false, c.len.ensures, c.self.inside.lefts.ok.0) in
    let read = get_or_read c.self.inside.nodes.items 1 c.index.result.now (omega (arith, known.size, some)) c.index.ensures 0 in
    rw (← nodes, ← count, read) (top_is_earliest c.self.inside.nodes.items c.self.inside.lefts.items known some)
