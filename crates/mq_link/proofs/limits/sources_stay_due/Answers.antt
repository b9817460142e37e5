use Rattle.mq_link.proofs.Common.{◌≡◌, true, sym, ◌∙◌, arith, nat_tests, is_due}
use Rattle.mq_link.proofs.MadeEntries.{some_after_count, due_again}
use Rattle.mq_link.proofs.limits.sources_stay_due.Goals as goal

pub returns-else-not-reached-clause-stay : goal.returns-else-not-reached-clause-stay
returns-else-not-reached-clause-stay g c timing =
    let some = some_after_count g.K.Key.number c.args.group.now.state c.sources.result.now c.sources.ensures.ascending c.sources.ensures.timers in
    let due : is_due c.args.now c.args.schedule.now.sources_due ≡ true = rw (← c.sources_due.ensures, c.in-Some.is)
    (grind (arith, nat_tests, c.reached.ensures.answer, c.if-not-reached.false)) in
    due_again timing c.args.now c.args.group.now.state _ c.any_has_more.result due (some ∙ sym c.any_has_more.ensures)
