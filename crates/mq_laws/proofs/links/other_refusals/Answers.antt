use Rattle.mq_laws.proofs.Common.{refl, Memory}
use Rattle.mq_laws.proofs.Named.{denied_so, unknown_ignored, unadmitted_ignored, too_long, repeats, never_memory, stated_names}
use Rattle.mq_link.proofs.StatedAlone.{alone_denied}
use Rattle.mq_laws.proofs.links.other_refusals.Goals as goal

pub returns-clause-unknown : goal.returns-clause-unknown
returns-clause-unknown c = unknown_ignored

pub returns-clause-not_admitted : goal.returns-clause-not_admitted
returns-clause-not_admitted c = unadmitted_ignored

pub returns-clause-denied : goal.returns-clause-denied
returns-clause-denied c = denied_so

pub returns-clause-denied_alone : goal.returns-clause-denied_alone
returns-clause-denied_alone c = alone_denied

pub returns-clause-long : goal.returns-clause-long
returns-clause-long c = too_long

pub returns-clause-repeated : goal.returns-clause-repeated
returns-clause-repeated c = repeats

pub returns-clause-memory : goal.returns-clause-memory
returns-clause-memory c at group statement groups h = (stated_names at group statement groups Memory h).2 refl

pub returns-clause-no_memory : goal.returns-clause-no_memory
returns-clause-no_memory c = never_memory
