use Rattle.mq_wire.proofs.Common.{ℕ, ◌-◌, ap, with_field}
use Rattle.mq_wire.proofs.Sums.{sum_of_parts}
use Rattle.mq_wire.proofs.checksum.checksum_behind.Goals as goal

pub returns : goal.returns
returns c =
    ap (λ (sum : ℕ). 65535 - sum)
    (sum_of_parts c.args.before.now (with_field 0 0 c.args.message.now) c.sum_of.result c.sum_without_field.result c.add.result c.requires
    c.sum_of.ensures c.sum_without_field.ensures c.add.ensures)
