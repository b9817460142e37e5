use Rattle.mq_laws.proofs.Lost.{nothing_lost_lem}
use Rattle.mq_laws.proofs.conversions.nothing_lost.Goals as goal

pub returns : goal.returns
returns c = nothing_lost_lem
