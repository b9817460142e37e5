use Rattle.mq_laws.proofs.Found.{found_is}
use Rattle.mq_laws.proofs.checks.what_was_left_out_is_missing.Goals as goal

pub returns : goal.returns
returns c = found_is
