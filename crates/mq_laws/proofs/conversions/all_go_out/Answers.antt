use Rattle.mq_laws.proofs.Common.{[]}
use Rattle.mq_laws.proofs.Sifted.{all_go_out}
use Rattle.mq_laws.proofs.conversions.all_go_out.Goals as goal

pub returns : goal.returns
returns c = λ choice packets is. all_go_out choice [] packets is
