use Rattle.mq_examples.proofs.Common.{refl}
use Rattle.mq_examples.proofs.Worked.{becomes}
use Rattle.mq_examples.proofs.links.records.a_sending_names_those_that_wait.Goals as goal

pub returns : goal.returns
returns c = becomes _ _ _ _ _ _ refl refl refl
