use Rattle.mq_check.proofs.Entering.{returned}
use Rattle.mq_check.proofs.checking.Checking.return_role.Goals as goal

pub returns : goal.returns
returns g c = returned _ _ _ _ _ c.self.view_is c.phase_again-self-inside.ensures
