use Rattle.mq_laws.proofs.Common.{asked_in-messages_due, counted_down, others_stay, deadlines_stay}
use Rattle.mq_laws.proofs.schedules.a_round_counts_its_sources_down.Goals as goal

pub returns-clause-asked : goal.returns-clause-asked
returns-clause-asked c r = asked_in-messages_due r.per_query r.timing r.now r.address r.before

pub returns-clause-fewer : goal.returns-clause-fewer
returns-clause-fewer c r = counted_down r.per_query r.timing r.now r.address r.before

pub returns-clause-others : goal.returns-clause-others
returns-clause-others c r = others_stay r.per_query r.timing r.now r.address r.before

pub returns-clause-deadlines : goal.returns-clause-deadlines
returns-clause-deadlines c r = deadlines_stay r.timing r.now r.before
