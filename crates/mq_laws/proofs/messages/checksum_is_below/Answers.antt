use Rattle.mq_laws.proofs.WrittenQueries.{below}
use Rattle.mq_laws.proofs.messages.checksum_is_below.Goals as goal

pub returns : goal.returns
returns c = below
