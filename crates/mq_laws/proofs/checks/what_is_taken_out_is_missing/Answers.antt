use Rattle.mq_laws.proofs.Laws.{taken_are_missing}
use Rattle.mq_laws.proofs.checks.what_is_taken_out_is_missing.Goals as goal

pub returns : goal.returns
returns c = taken_are_missing
