use Rattle.mq_check.proofs.Common.{both, neither, refused}
use Rattle.mq_check.proofs.checking.Checking.new.Goals as goal

pub returns-in_err-waiting-clause-memory : goal.returns-in_err-waiting-clause-memory
returns-in_err-waiting-clause-memory g c =
    refused c.from_residual.result c.from_residual.ensures.0 (neither {between = 0} _ (neither {between = 0} _ (neither _ c.in_err-waiting.ensures.memory)))

pub returns-in_err-unmuted-clause-memory : goal.returns-in_err-unmuted-clause-memory
returns-in_err-unmuted-clause-memory g c =
    refused c.from_residual-in_err-unmuted.result c.from_residual-in_err-unmuted.ensures.0
    (neither {between = 0} _ (neither _ (both c.in_ok-waiting.ensures.memory c.in_err-unmuted.ensures.memory)))

pub returns-in_err-schedules-clause-memory : goal.returns-in_err-schedules-clause-memory
returns-in_err-schedules-clause-memory g c =
    refused c.from_residual-in_err-schedules.result c.from_residual-in_err-schedules.ensures.0
    (neither _ (both (both c.in_ok-waiting.ensures.memory c.in_ok-unmuted.ensures.memory) c.in_err-schedules.ensures.memory))

pub returns-in_err-refused-clause-memory : goal.returns-in_err-refused-clause-memory
returns-in_err-refused-clause-memory g c =
    refused c.from_residual-in_err-refused.result c.from_residual-in_err-refused.ensures.0
    (both (both (both c.in_ok-waiting.ensures.memory c.in_ok-unmuted.ensures.memory) c.in_ok-schedules.ensures.memory) c.in_err-refused.ensures.memory)

pub returns-clause-memory : goal.returns-clause-memory
returns-clause-memory g c =
    both (both (both c.in_ok-waiting.ensures.memory c.in_ok-unmuted.ensures.memory) c.in_ok-schedules.ensures.memory) c.in_ok-refused.ensures.memory
