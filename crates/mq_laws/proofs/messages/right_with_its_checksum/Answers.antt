use Rattle.mq_laws.proofs.CompletedSums.{completed_is_right}
use Rattle.mq_laws.proofs.messages.right_with_its_checksum.Goals as goal

pub returns : goal.returns
returns c = completed_is_right
