use Rattle.mq_laws.proofs.Common.{lowered_to}
use Rattle.mq_laws.proofs.Lowered.{group_no_later, sources_no_later}
use Rattle.mq_laws.proofs.groups.lowering_never_lengthens.Goals as goal

pub returns-clause-group : goal.returns-clause-group
returns-clause-group c timing now g = group_no_later (lowered_to timing now) g.mode

pub returns-clause-sources : goal.returns-clause-sources
returns-clause-sources c = sources_no_later
