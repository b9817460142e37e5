use Rattle.mq_laws.proofs.WrittenAddresses.{written}
use Rattle.mq_laws.proofs.texts.written_is_spelled.Goals as goal

pub returns : goal.returns
returns c = written
