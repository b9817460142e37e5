use Rattle.mq_sched.proofs.Common.{◌+◌, ◌*◌, ◌/◌, arith, ap, Spends-join_within, bitlen-mono, TreeState, common_steps}
use Rattle.mq_sched.proofs.WrittenAbove.{written-few}
use Rattle.mq_sched.proofs.deadline_tree.DeadlineTree.grow.Goals as goal

pub returns-clause-moves : goal.returns-clause-moves
returns-clause-moves g c =
    let count = ap (λ (s : TreeState). s.count) c.self.view_is in
    let few = written-few c.deref_mut-2.result.now c.repair_above.new.lefts (2 * c.len-count.result + 1) in
    Spends-join_within _ _ c.count.ensures c.repair_above.ensures.moves (omega arith)
    (omega (
      arith,
      few,
      bitlen-mono ((2 * c.len-count.result + 1) / 2) c.args.self.now.count
          (omega (arith, count, c.len-count.ensures, c.self.inside.lefts.ok.0)),
    ))

pub returns-clause-others : goal.returns-clause-others
returns-clause-others g c = grind (arith, common_steps)

pub invariant_of-self : goal.invariant_of-self
invariant_of-self g c = grind (arith, common_steps)

pub repair_above-requires-clause-kept : goal.repair_above-requires-clause-kept
repair_above-requires-clause-kept g c = grind (arith, common_steps)

pub returns-clause-count : goal.returns-clause-count
returns-clause-count g c = grind (arith, common_steps)

pub returns-clause-last : goal.returns-clause-last
returns-clause-last g c = grind (arith, common_steps)
