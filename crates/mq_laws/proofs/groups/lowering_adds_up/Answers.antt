use Rattle.mq_laws.proofs.Common.{lowered_both}
use Rattle.mq_laws.proofs.groups.lowering_adds_up.Goals as goal

pub returns : goal.returns
returns c = lowered_both
