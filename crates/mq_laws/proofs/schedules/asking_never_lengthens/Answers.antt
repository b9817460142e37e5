use Rattle.mq_laws.proofs.AskedLater.{acted_group_no_later, acted_sources_no_later}
use Rattle.mq_laws.proofs.schedules.asking_never_lengthens.Goals as goal

pub returns-clause-group : goal.returns-clause-group
returns-clause-group c r = acted_group_no_later r.is_querier r.timing r.now r.query_group r.query r.before

pub returns-clause-sources : goal.returns-clause-sources
returns-clause-sources c r = acted_sources_no_later r.is_querier r.timing r.now r.query_group r.query r.before
