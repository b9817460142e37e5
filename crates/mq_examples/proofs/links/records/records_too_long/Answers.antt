use Rattle.mq_examples.proofs.Common.{refl}
use Rattle.mq_examples.proofs.Worked.{becomes}
use Rattle.mq_examples.proofs.links.records.records_too_long.Goals as goal

pub returns-clause-long : goal.returns-clause-long
returns-clause-long c = becomes _ _ _ _ _ _ refl refl refl

pub returns-clause-repeats : goal.returns-clause-repeats
returns-clause-repeats c = becomes _ _ _ _ _ _ refl refl refl

pub returns-clause-at_the_limit : goal.returns-clause-at_the_limit
returns-clause-at_the_limit c = becomes _ _ _ _ _ _ refl refl refl
