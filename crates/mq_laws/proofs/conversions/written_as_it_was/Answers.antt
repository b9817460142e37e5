use Rattle.mq_laws.proofs.WholeFiles.{written_lem}
use Rattle.mq_laws.proofs.conversions.written_as_it_was.Goals as goal

pub returns : goal.returns
returns c = written_lem
