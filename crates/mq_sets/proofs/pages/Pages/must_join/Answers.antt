use Rattle.mq_sets.proofs.Common.{arith, common_steps}
use Rattle.mq_sets.proofs.pages.Pages.must_join.Goals as goal

pub returns-else-second-eq0-clause-no : goal.returns-else-second-eq0-clause-no
returns-else-second-eq0-clause-no g c = grind (arith, common_steps)
