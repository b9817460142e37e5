use Rattle.mquerier.proofs.Common.{◌∙◌}
use Rattle.mquerier.proofs.{Breakings.end_by, Breakings.unflushed_by, Breakings.unwritten_end, Checkings.check_ended, Checkings.until_in_range}
use Rattle.mquerier.proofs.checking.check_at.Goals as goal

pub check-answer-requires : goal.check-answer-requires
check-answer-requires g c = until_in_range c.args.options.now.terms.until c.in_ok-_end.ensures.1

pub returns-clause-works : goal.returns-clause-works
returns-clause-works g c =
    check_ended g.F.Family.FAMILY (g.F.Address.Key.number c.args.querier) c.args.options.now.settings c.args.options.now.terms _ _ _ _ _ _ _
    (end_by g.R.Read.remaining g.W.Write.contents _ _ _ _ _ _ _ c.check-answer.ensures.memory c.ended.ensures.unflushed c.ended.ensures.ended
    c.check-answer.ensures.failed c.ended.ensures.bytes) c.in_ok-_end.ensures.1 c.in_ok-config.ensures c.check-answer.ensures.checks

pub returns-clause-unread : goal.returns-clause-unread
returns-clause-unread g c =
    λ none. (c.check-answer.ensures.memory (unwritten_end c.check-answer.result c.ended.result _ _ c.ended.ensures.ended none)).0

pub returns-clause-unwritten : goal.returns-clause-unwritten
returns-clause-unwritten g c =
    λ none. let is = unwritten_end c.check-answer.result c.ended.result _ _ c.ended.ensures.ended none in
    c.ended.ensures.unflushed (unflushed_by c.check-answer.result is) ∙ (c.check-answer.ensures.memory is).1
