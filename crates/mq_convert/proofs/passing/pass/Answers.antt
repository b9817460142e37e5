use Rattle.mq_convert.proofs.Common.{◌∙◌, ◌+◌, ◌≤◌, ℕ, ap, arith, nat_tests, length-take, counted_on, Takes, input_of}
use Rattle.mq_convert.proofs.Passed.{passed_more}
use Rattle.mq_convert.proofs.passing.pass.Goals as goal

pub loop-count-preserved : goal.loop-count-preserved
loop-count-preserved g c =
    let ensures = c.in-Ok.ensures in
    let takes : Takes (input_of g.R.Read.remaining c.loop-count.reader) (input_of g.R.Read.remaining c.read.new.self) _ = record {
      ahead = ensures.bytes.0;
      taken = ensures.taken ∙ ap (λ (n : ℕ). counted_on c.loop-count.reader.taken n) ensures.bound.1;
    } in
    let fits : c.loop-count.count + c.in-Ok.more ≤ c.args.to =
    omega (arith, ensures.bound.0, c.read.auto.buf, c.min-most.ensures, length-take c.min-most.result c.loop-count.piece) in
    passed_more _ _ _ _ _ _ _ _ ensures.bound.1 fits c.loop-count.invariant takes (grind (arith, nat_tests, ensures.failed))
