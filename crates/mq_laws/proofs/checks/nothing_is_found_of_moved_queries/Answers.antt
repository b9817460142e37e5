use Rattle.mq_laws.proofs.Laws.{none_of_moved}
use Rattle.mq_laws.proofs.checks.nothing_is_found_of_moved_queries.Goals as goal

pub returns : goal.returns
returns c = none_of_moved
