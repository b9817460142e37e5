use Rattle.mq_laws.proofs.Common.{[]}
use Rattle.mq_laws.proofs.Sifted.{once_enough}
use Rattle.mq_laws.proofs.conversions.once_is_enough.Goals as goal

pub returns : goal.returns
returns c = λ choice packets. once_enough choice [] packets
