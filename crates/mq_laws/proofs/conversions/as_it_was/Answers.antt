use Rattle.mq_laws.proofs.AsItWas.{as_it_was_lem}
use Rattle.mq_laws.proofs.conversions.as_it_was.Goals as goal

pub returns : goal.returns
returns c = as_it_was_lem
