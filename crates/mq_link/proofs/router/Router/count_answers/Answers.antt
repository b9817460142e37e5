use Rattle.mq_link.proofs.{HandedOut.with_answers, RouterSteps.recounted_by}
use Rattle.mq_link.proofs.router.Router.count_answers.Goals as goal

pub returns : goal.returns
returns g c = recounted_by (λ k. with_answers k c.args.sent c.args.unsent) _ _ _ c.self.view_is c.count_answers.ensures
