use Rattle.mq_link.proofs.Common.{arith, common_steps}
use Rattle.mq_link.proofs.ListedNumbers.{all_cleared}
use Rattle.mq_link.proofs.record_counts.set_to_zero.Goals as goal

pub returns-clause-none : goal.returns-clause-none
returns-clause-none g c = all_cleared c.loop-number.counts.items c.args.numbers.now c.loop-number.number-index c.loop-number-test.false
    c.loop-number.invariant.0

pub loop-number-preserved : goal.loop-number-preserved
loop-number-preserved g c = grind (arith, common_steps)
