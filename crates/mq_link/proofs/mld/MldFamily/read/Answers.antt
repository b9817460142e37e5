use Rattle.mq_link.proofs.Common.{length, Mld}
use Rattle.mq_wire.specs.PseudoHeader.{pseudo_header}
use Rattle.mq_link.proofs.Numbered.{read_as}
use Rattle.mq_link.proofs.mld.MldFamily.read.Goals as goal

pub returns : goal.returns
returns c =
    let body = c.args.body.now in
    let envelope = c.args.envelope.now in
    read_as Mld (pseudo_header envelope.source envelope.destination (length body)) body c.read_mld.result
    c.read_mld.ensures.message c.read_mld.ensures.fault
