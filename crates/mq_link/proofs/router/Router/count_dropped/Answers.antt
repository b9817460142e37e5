use Rattle.mq_link.specs.Counters.{count_dropped}
use Rattle.mq_link.proofs.RouterSteps.{recounted_by}
use Rattle.mq_link.proofs.router.Router.count_dropped.Goals as goal

pub returns : goal.returns
returns g c = recounted_by (count_dropped c.args.reason) _ _ _ c.self.view_is c.count_dropped.ensures
