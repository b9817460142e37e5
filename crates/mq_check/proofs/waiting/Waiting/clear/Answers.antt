use Rattle.mq_check.proofs.Common.{[], length, ap, sym, ◌∙◌, arith}
use Rattle.mq_check.proofs.waiting.Waiting.clear.Goals as goal

pub loop-entry-preserved : goal.loop-entry-preserved
loop-entry-preserved g c = c.loop-entry.invariant ∙ (λ i. record { entries = []; is_full = sym c.in-Some.ensures.full i })

pub loop-entry-smaller : goal.loop-entry-smaller
loop-entry-smaller g c = omega (arith, ap length c.in-Some.ensures.some)

pub returns : goal.returns
returns g c =
    c.in_default.ensures.same ∙ (λ i. record { entries = c.in_default.ensures.none i; is_full = c.loop-entry.self.is_full }) ∙ sym c.loop-entry.invariant
