use Rattle.mq_laws.proofs.OneCapture.{one_capture_lem}
use Rattle.mq_laws.proofs.captures.one_capture.Goals as goal

pub returns : goal.returns
returns c = one_capture_lem
