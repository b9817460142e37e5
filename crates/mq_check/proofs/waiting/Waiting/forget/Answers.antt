use Rattle.mq_check.proofs.Common.{sym, ◌∙◌, arith}
use Rattle.mq_check.proofs.waiting.Waiting.forget.Goals as goal

pub loop-entry-preserved : goal.loop-entry-preserved
loop-entry-preserved g c = c.loop-entry.invariant ∙ c.in-Some.ensures.some.purged

pub loop-entry-smaller : goal.loop-entry-smaller
loop-entry-smaller g c = omega (arith, c.in-Some.ensures.some.fewer)

pub returns : goal.returns
returns g c = c.in_default.ensures.none ∙ sym c.in_default.ensures.none_over.purged ∙ sym c.loop-entry.invariant
