use Rattle.mq_count.proofs.Common.{◌+◌, sym, ap, ◌∙◌, arith, compared}
use Rattle.mq_count.proofs.TimedMoments.{compared-here, compared-past, exactly}
use Rattle.mq_count.proofs.metering.Meter.count_ahead.Goals as goal

pub returns-in-Some-2-clause-spent : goal.returns-in-Some-2-clause-spent
returns-in-Some-2-clause-spent g c =
    let ahead = c.loop-ahead.ahead in
    let at = compared-here g.T.Timed.moment_of c.args.items.now ahead c.index-items-ahead.result c.loop-ahead-test.true c.index-items-ahead.is in
    let one = at ∙ ap compared (sym c.moment.ensures ∙ c.in-Some-2.is) in
    exactly _ _ _ _ _ c.count_comparisons.ensures c.loop-ahead.invariant.meter (ap (λ n. ahead + n) (sym one))

pub returns-in-None-clause-spent : goal.returns-in-None-clause-spent
returns-in-None-clause-spent g c =
    let ahead = c.loop-ahead.ahead in
    let at = compared-here g.T.Timed.moment_of c.args.items.now ahead c.index-items-ahead.result c.loop-ahead-test.true c.index-items-ahead.is in
    let none = at ∙ ap compared (sym c.moment.ensures ∙ c.in-None.is) in
    exactly _ _ _ _ _ c.count_comparisons-in-None.ensures c.loop-ahead.invariant.meter (omega (arith, none))

pub returns-clause-spent : goal.returns-clause-spent
returns-clause-spent g c =
    let none = compared-past g.T.Timed.moment_of c.args.items.now c.loop-ahead.ahead (omega (arith, c.loop-ahead-test.false)) in
    exactly _ _ _ _ _ c.count_comparisons-2.ensures c.loop-ahead.invariant.meter (omega (arith, none))
