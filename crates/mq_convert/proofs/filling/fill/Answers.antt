use Rattle.mq_convert.proofs.Common.{◌∙◌, ℕ, ap, arith, nat_tests, counted_on, Takes, input_of}
use Rattle.mq_convert.proofs.Filled.{filled_none, filled_more}
use Rattle.mq_convert.proofs.filling.fill.Goals as goal

pub loop-count-init : goal.loop-count-init
loop-count-init g c = filled_none _ _ _ _ c.requires.order

pub loop-count-preserved : goal.loop-count-preserved
loop-count-preserved g c =
    let ensures = c.in-Ok.ensures in
    let takes : Takes (input_of g.R.Read.remaining c.loop-count.reader) (input_of g.R.Read.remaining c.read.new.self) _ = record {
      ahead = ensures.bytes.0;
      taken = ensures.taken ∙ ap (λ (n : ℕ). counted_on c.loop-count.reader.taken n) ensures.bound.1;
    } in
    filled_more _ _ _ _ _ _ _ _ _ _ c.requires.room c.read.auto.buf ensures.bound.0 c.loop-count.invariant takes (grind (arith, nat_tests, ensures.failed))
