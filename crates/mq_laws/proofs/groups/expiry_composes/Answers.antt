use Rattle.mq_laws.proofs.Common.{expired-expired}
use Rattle.mq_laws.proofs.groups.expiry_composes.Goals as goal

pub returns : goal.returns
returns c = expired-expired
