use Rattle.mq_sched.proofs.StayHeld.{held_acted, held_after_round, held_cleared}
use Rattle.mq_laws.proofs.schedules.groups_stay_held.Goals as goal

pub returns-clause-asked : goal.returns-clause-asked
returns-clause-asked c r = held_acted r.is_querier r.timing r.now r.query_group r.query r.before

pub returns-clause-round_sent : goal.returns-clause-round_sent
returns-clause-round_sent c r = held_after_round r.timing r.now r.before

pub returns-clause-all_dropped : goal.returns-clause-all_dropped
returns-clause-all_dropped c = held_cleared
