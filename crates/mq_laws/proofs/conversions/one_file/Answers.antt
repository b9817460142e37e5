use Rattle.mq_laws.proofs.OneFile.{one_file_lem}
use Rattle.mq_laws.proofs.conversions.one_file.Goals as goal

pub returns : goal.returns
returns c = one_file_lem
