use Rattle.mq_check.proofs.Common.{◌+◌, err_from_is_err_and, Totals, checked_in, ended_behind}
use Rattle.mq_walk.proofs.ReportedOver.{gap_put}
use Rattle.mq_check.proofs.running_check.Check.rest.Goals as goal

pub returns-in_err-end-clause-rest : goal.returns-in_err-end-clause-rest
returns-in_err-end-clause-rest g c =
    let p = err_from_is_err_and c.from_residual.result c.from_residual.ensures.1 in
    let number = c.args.walked.packets + 1 in
    rw (p.1, p.2) (gap_put {T = Totals} (λ end. ended_behind c.args.self.now.link.config c.args.self.now.terms.within c.args.self.now.told end number
    (checked_in c.args.self.now.link c.args.self.now.queries)) c.args.self.now.terms.until c.args.walked.last number _ _ _ c.in_err-end.ensures)
