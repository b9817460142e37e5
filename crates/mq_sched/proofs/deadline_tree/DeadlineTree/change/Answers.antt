use Rattle.mq_sched.proofs.Common.{◌-◌, ◌/◌, arith, Spends-within, Spends-join_within, bitlen-mono, common_steps}
use Rattle.mq_sched.proofs.WrittenAbove.{written-few}
use Rattle.mq_sched.proofs.deadline_tree.DeadlineTree.change.Goals as goal

pub returns-clause-spent : goal.returns-clause-spent
returns-clause-spent g c =
    Spends-within _ _ c.repair_above.ensures.spent (omega (arith, c.requires.leaf))
    (bitlen-mono (c.args.leaf / 2) (c.args.self.now.count - 1) (omega (arith, c.requires.within)))

pub returns-clause-moves : goal.returns-clause-moves
returns-clause-moves g c =
    let few = written-few c.deref_mut-2.result.now c.repair_above.new.lefts c.args.leaf in
    Spends-join_within _ _ c.count.ensures c.repair_above.ensures.moves (omega arith)
    (omega (arith, few, bitlen-mono (c.args.leaf / 2) (c.args.self.now.count - 1) (omega (arith, c.requires.within))))

pub returns-clause-others : goal.returns-clause-others
returns-clause-others g c = grind (arith, common_steps)

pub invariant_of-self : goal.invariant_of-self
invariant_of-self g c = grind (arith, common_steps)

pub returns-clause-count : goal.returns-clause-count
returns-clause-count g c = grind (arith, common_steps)
