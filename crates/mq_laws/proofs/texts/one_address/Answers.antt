use Rattle.mq_laws.proofs.OneAddress.{one_address}
use Rattle.mq_laws.proofs.texts.one_address.Goals as goal

pub returns : goal.returns
returns c = one_address
