use Rattle.mq_sched.proofs.Common.{arith}
use Rattle.mq_sched.proofs.leaf_numbers.write_numbers.Goals as goal

pub bounds-numbers-leaf : goal.bounds-numbers-leaf
bounds-numbers-leaf c =
    let k = c.loop-leaf.leaf-index in
    omega (arith, c.loop-leaf.invariant.rest k (omega arith), c.requires k 0 (omega (arith, c.loop-leaf.auto.leaves)))
