use Rattle.mq_link.proofs.ByDefault.{no_fault_by_default}
use Rattle.mq_link.proofs.config.defaults_have_no_fault.Goals as goal

pub returns : goal.returns
returns c = no_fault_by_default
