use Rattle.mq_laws.proofs.Unchanged.{others_judged, others_stated, others_heard, others_after_loss}
use Rattle.mq_laws.proofs.links.other_groups_stay.Goals as goal

pub returns-clause-record_of : goal.returns-clause-record_of
returns-clause-record_of c = others_judged

pub returns-clause-statement : goal.returns-clause-statement
returns-clause-statement c = others_stated

pub returns-clause-query : goal.returns-clause-query
returns-clause-query c = others_heard

pub returns-clause-role_lost : goal.returns-clause-role_lost
returns-clause-role_lost c = others_after_loss
