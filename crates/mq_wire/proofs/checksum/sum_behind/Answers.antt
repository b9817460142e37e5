use Rattle.mq_wire.proofs.Sums.{sum_of_parts}
use Rattle.mq_wire.proofs.checksum.sum_behind.Goals as goal

pub returns : goal.returns
returns c =
    sum_of_parts c.args.before.now c.args.message.now c.sum_of.result c.sum_of-2.result c.add.result c.requires c.sum_of.ensures c.sum_of-2.ensures
    c.add.ensures
