use Rattle.mquerier.proofs.Common.{arith, refl, ◌∙◌, err_from_is_err_and}
use Rattle.mquerier.proofs.{Breakings.end_by, Breakings.unflushed_by, Breakings.unwritten_end, Checkings.until_in_range, Replayed.replay_ended}
use Rattle.mquerier.proofs.replaying.replay_at.Goals as goal

pub replay-answer-requires : goal.replay-answer-requires
replay-answer-requires g c = until_in_range c.args.options.now.asked.until c.in_ok-_end.ensures.1

pub returns-in_err-ended-clause-works : goal.returns-in_err-ended-clause-works
returns-in_err-ended-clause-works g c =
    let p = err_from_is_err_and c.from_residual-in_err-ended.result c.from_residual-in_err-ended.ensures.1 in
    let it = replay_ended g.F.Family.FAMILY (g.F.Address.Key.number c.args.own) c.args.options.now.settings c.args.options.now.asked _ _ _ _ _ _ _
    (end_by g.R.Read.remaining g.W.Write.contents _ _ _ _ _ _ _ c.replay-answer.ensures.memory c.in_err-ended.ensures.unflushed c.in_err-ended.ensures.ended
    c.replay-answer.ensures.failed c.in_err-ended.ensures.bytes) c.in_ok-config.ensures c.replay-answer.ensures.replays in
    let one = it.0 in
    rw (p.1, p.2) (λ two. absurd (omega (arith, two, one)), λ e. ((c.in_ok-_end.ensures.1, c.in_ok-config.ensures.0), it.1))

pub returns-clause-works : goal.returns-clause-works
returns-clause-works g c =
    let it = replay_ended g.F.Family.FAMILY (g.F.Address.Key.number c.args.own) c.args.options.now.settings c.args.options.now.asked _ _ _ _ _ _ _
    (end_by g.R.Read.remaining g.W.Write.contents _ _ _ _ _ _ _ c.replay-answer.ensures.memory c.in_ok-ended.ensures.unflushed c.in_ok-ended.ensures.ended
    c.replay-answer.ensures.failed c.in_ok-ended.ensures.bytes) c.in_ok-config.ensures c.replay-answer.ensures.replays in
    ((c.in_ok-_end.ensures.1, c.in_ok-config.ensures.0), refl, it.0, _, it.1)

pub returns-in_err-ended-clause-unread : goal.returns-in_err-ended-clause-unread
returns-in_err-ended-clause-unread g c =
    let p = err_from_is_err_and c.from_residual-in_err-ended.result c.from_residual-in_err-ended.ensures.1 in
    rw (p.1, p.2) (λ none. (c.replay-answer.ensures.memory (unwritten_end c.replay-answer.result _ _ _ c.in_err-ended.ensures.ended none)).0)

pub returns-in_err-ended-clause-unwritten : goal.returns-in_err-ended-clause-unwritten
returns-in_err-ended-clause-unwritten g c =
    let p = err_from_is_err_and c.from_residual-in_err-ended.result c.from_residual-in_err-ended.ensures.1 in
    rw (p.1, p.2) (λ none. let is = unwritten_end c.replay-answer.result _ _ _ c.in_err-ended.ensures.ended none in
    c.in_err-ended.ensures.unflushed (unflushed_by c.replay-answer.result is) ∙ (c.replay-answer.ensures.memory is).1)
