use Rattle.mq_check.proofs.Common.{ap, err_from_is_err_and, CheckTerms}
use Rattle.mq_check.proofs.Steppings.{purges_at, purges_broken}
use Rattle.mq_check.proofs.running_check.Check.purge_through.Goals as goal

pub returns-in_err-tick_through-clause-comes : goal.returns-in_err-tick_through-clause-comes
returns-in_err-tick_through-clause-comes g c =
    let p = err_from_is_err_and c.from_residual.result c.from_residual.ensures.1 in
    rw p.1 (purges_broken _ _ _ _ c.args.self.now.link c.tick_through.new.self.link c.args.self.now.queries c.tick_through.new.self.queries _ _ _ _ _
    _ c.moment-now.ensures.same c.in_err-tick_through.ensures.comes)

pub returns-clause-comes : goal.returns-clause-comes
returns-clause-comes g c =
    purges_at _ c.args.self.now.terms.within c.tick_through.new.self.terms.within _ _ _ _ c.args.self.now.queries c.tick_through.new.self.queries
    c.judge.new.self c.purge.new.self _ _ _ _ _ _ _
    (ap (λ (t : CheckTerms). t.within) c.in_ok-tick_through.ensures.terms) c.moment-now.ensures.same c.in_ok-tick_through.ensures.comes
    c.judge.ensures c.purge.ensures.purged c.purge.ensures.basis c.purge.ensures.tells
