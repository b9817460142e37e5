use Rattle.mq_sched.proofs.Common.{ap, DeadlinesState}
use Rattle.mq_sched.proofs.NumbersAtLeaves.{earliest_of_numbers}
use Rattle.mq_sched.proofs.deadlines.Deadlines.earliest.Goals as goal

pub returns : goal.returns
returns g c =
    let nodes = c.self.inside.tree.nodes in
    let leaves = c.self.inside.leaves.items in
    let numbers = c.self.inside.numbers.items in
    let count = c.self.inside.tree.count in
    let known = c.self.invariant.0 in
    let counted = c.self.invariant.1 in
    let moments = ap (λ (s : DeadlinesState). s.moments) c.self.view_is in
    rw (← moments) (earliest_of_numbers nodes leaves numbers count known c.earliest.result counted c.earliest.ensures)
