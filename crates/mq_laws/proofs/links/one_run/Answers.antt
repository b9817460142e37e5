use Rattle.mq_laws.proofs.Common.{link_at}
use Rattle.mq_link.proofs.Runs.{one_run}
use Rattle.mq_laws.proofs.links.one_run.Goals as goal

pub returns : goal.returns
returns c config start a b = one_run config (link_at config start) a b
