use Rattle.mq_link.proofs.Common.{count_verdict, verdict_of}
use Rattle.mq_link.proofs.RouterSteps.{recounted_by}
use Rattle.mq_link.proofs.router.Router.count_verdict.Goals as goal

pub returns : goal.returns
returns g c = recounted_by (count_verdict (verdict_of c.args.verdict)) _ _ _ c.self.view_is c.count_verdict.ensures
