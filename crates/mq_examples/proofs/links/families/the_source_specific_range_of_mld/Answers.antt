use Rattle.mq_examples.proofs.Common.{refl}
use Rattle.mq_examples.proofs.Worked.{becomes}
use Rattle.mq_examples.proofs.links.families.the_source_specific_range_of_mld.Goals as goal

pub returns-clause-ignored : goal.returns-clause-ignored
returns-clause-ignored c = becomes _ _ _ _ _ _ refl refl refl

pub returns-clause-applied : goal.returns-clause-applied
returns-clause-applied c = becomes _ _ _ _ _ _ refl refl refl

pub returns-clause-long : goal.returns-clause-long
returns-clause-long c = becomes _ _ _ _ _ _ refl refl refl
