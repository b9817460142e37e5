use Rattle.mq_sched.proofs.FittingRounds.{all_fit}
use Rattle.mq_laws.proofs.PortionsOfRounds.{set_together, clear_together, set_full, clear_full}
use Rattle.mq_laws.proofs.schedules.a_round_is_in_portions.Goals as goal

pub returns-clause-set : goal.returns-clause-set
returns-clause-set c = set_together

pub returns-clause-clear : goal.returns-clause-clear
returns-clause-clear c = clear_together

pub returns-clause-set_full : goal.returns-clause-set_full
returns-clause-set_full c = set_full

pub returns-clause-clear_full : goal.returns-clause-clear_full
returns-clause-clear_full c = clear_full

pub returns-clause-fit : goal.returns-clause-fit
returns-clause-fit c r = all_fit r.per_query r.timing r.now r.address r.before
