use Rattle.mq_laws.proofs.WrittenQueries.{reads_back}
use Rattle.mq_laws.proofs.messages.written_is_read.Goals as goal

pub returns : goal.returns
returns c = reads_back
