use Rattle.mq_laws.proofs.Common.{asks_group-messages_due, group_counted_down, group_stays}
use Rattle.mq_laws.proofs.schedules.a_round_counts_its_group_query_down.Goals as goal

pub returns-clause-asked : goal.returns-clause-asked
returns-clause-asked c r = asks_group-messages_due r.per_query r.timing r.now r.address r.before

pub returns-clause-fewer : goal.returns-clause-fewer
returns-clause-fewer c r = group_counted_down r.per_query r.timing r.now r.address r.before

pub returns-clause-other : goal.returns-clause-other
returns-clause-other c r = group_stays r.per_query r.timing r.now r.address r.before
