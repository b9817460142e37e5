use Rattle.mq_link.proofs.Common.{[], Igmp}
use Rattle.mq_link.proofs.Numbered.{read_as}
use Rattle.mq_link.proofs.igmp.IgmpFamily.read.Goals as goal

pub returns : goal.returns
returns c =
    read_as Igmp [] c.args.body.now c.read_igmp.result c.read_igmp.ensures.message c.read_igmp.ensures.fault
