use Rattle.mq_check.proofs.Common.{both, neither, refused}
use Rattle.mq_check.proofs.schedules.Schedules.new.Goals as goal

pub returns-in_err-sent-clause-memory : goal.returns-in_err-sent-clause-memory
returns-in_err-sent-clause-memory g c =
    refused c.from_residual.result c.from_residual.ensures.0 (neither {between = 0} _ (neither _ c.in_err-sent.ensures.memory))

pub returns-in_err-causes-clause-memory : goal.returns-in_err-causes-clause-memory
returns-in_err-causes-clause-memory g c =
    refused c.from_residual-in_err-causes.result c.from_residual-in_err-causes.ensures.0
    (neither _ (both c.in_ok-sent.ensures.memory c.in_err-causes.ensures.memory))

pub returns-in_err-next-clause-memory : goal.returns-in_err-next-clause-memory
returns-in_err-next-clause-memory g c =
    refused c.from_residual-in_err-next.result c.from_residual-in_err-next.ensures.0
    (both (both c.in_ok-sent.ensures.memory c.in_ok-causes.ensures.memory) c.in_err-next.ensures.memory)

pub returns-clause-memory : goal.returns-clause-memory
returns-clause-memory g c = both (both c.in_ok-sent.ensures.memory c.in_ok-causes.ensures.memory) c.in_ok-next.ensures.memory
