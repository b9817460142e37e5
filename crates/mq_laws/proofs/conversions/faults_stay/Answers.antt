use Rattle.mq_laws.proofs.FaultsStay.{faults_stay_lem}
use Rattle.mq_laws.proofs.conversions.faults_stay.Goals as goal

pub returns : goal.returns
returns c = faults_stay_lem
