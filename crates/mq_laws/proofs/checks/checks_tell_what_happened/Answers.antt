use Rattle.mq_laws.proofs.Told.{tells_what_happened}
use Rattle.mq_laws.proofs.checks.checks_tell_what_happened.Goals as goal

pub returns : goal.returns
returns c = tells_what_happened
