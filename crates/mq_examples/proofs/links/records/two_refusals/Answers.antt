use Rattle.mq_examples.proofs.Common.{refl}
use Rattle.mq_examples.proofs.Worked.{becomes, become_all}
use Rattle.mq_examples.proofs.links.records.two_refusals.Goals as goal

pub returns-clause-long_and_groups : goal.returns-clause-long_and_groups
returns-clause-long_and_groups c = becomes _ _ _ _ _ _ refl refl refl

pub returns-clause-long_and_repeated : goal.returns-clause-long_and_repeated
returns-clause-long_and_repeated c = become_all _ _ _ _ _ _ refl refl refl

pub returns-clause-repeated_and_group_sources : goal.returns-clause-repeated_and_group_sources
returns-clause-repeated_and_group_sources c = become_all _ _ _ _ _ _ refl refl refl
