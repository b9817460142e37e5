use Rattle.mq_laws.proofs.Common.{refl, link_at}
use Rattle.mq_laws.proofs.Outlets.{same_step, runs_alike}
use Rattle.mq_laws.proofs.links.outlets_decide_nothing_else.Goals as goal

pub returns-clause-runs : goal.returns-clause-runs
returns-clause-runs c config start a b = runs_alike config (link_at config start) (link_at config start) a b (record { state = refl; together = refl })

pub returns-clause-state : goal.returns-clause-state
returns-clause-state c config event a b is = (same_step config event a b is).state

pub returns-clause-queries : goal.returns-clause-queries
returns-clause-queries c config event a b is = (same_step config event a b is).queries

pub returns-clause-timing : goal.returns-clause-timing
returns-clause-timing c config event a b is = (same_step config event a b is).timing

pub returns-clause-answer : goal.returns-clause-answer
returns-clause-answer c config event a b is = (same_step config event a b is).answer
