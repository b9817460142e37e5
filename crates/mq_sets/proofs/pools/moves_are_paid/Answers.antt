use Rattle.mq_sets.proofs.RowEdits.{moves-paid}
use Rattle.mq_sets.proofs.pools.moves_are_paid.Goals as goal

pub returns : goal.returns
returns g c = moves-paid
