use Rattle.mq_link.proofs.Common.{numbered_read, count_read}
use Rattle.mq_link.proofs.RouterSteps.{recounted_by}
use Rattle.mq_link.proofs.router.Router.count_read.Goals as goal

pub returns : goal.returns
returns g c = recounted_by (count_read (numbered_read g.F.Address.Key.number c.args.read.now)) _ _ _ c.self.view_is c.count_read.ensures
