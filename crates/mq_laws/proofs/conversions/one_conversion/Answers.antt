use Rattle.mq_laws.proofs.WholeFiles.{one_conversion_lem}
use Rattle.mq_laws.proofs.conversions.one_conversion.Goals as goal

pub returns : goal.returns
returns c = one_conversion_lem
