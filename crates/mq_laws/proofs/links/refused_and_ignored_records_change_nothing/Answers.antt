use Rattle.mq_laws.proofs.Unchanged.{unapplied_alone, unapplied_judged}
use Rattle.mq_laws.proofs.links.refused_and_ignored_records_change_nothing.Goals as goal

pub returns-clause-record_of : goal.returns-clause-record_of
returns-clause-record_of c = unapplied_judged

pub returns-clause-statement : goal.returns-clause-statement
returns-clause-statement c = unapplied_alone
