use Rattle.mq_laws.proofs.OneCapture.{faults_stay_lem}
use Rattle.mq_laws.proofs.captures.faults_stay.Goals as goal

pub returns : goal.returns
returns c = faults_stay_lem
