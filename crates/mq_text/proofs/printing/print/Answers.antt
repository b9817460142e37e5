use Rattle.std.proofs.{Common.◌++◌, Common.take, Common.arith, KnownBytes.Appends-trans, lemmas.Bool.Decides.nat_tests, lemmas.Grind.common_steps}
use Rattle.mq_text.proofs.printing.print.Goals as goal

pub loop-rest-preserved : goal.loop-rest-preserved
loop-rest-preserved g c =
    let before = c.loop-rest.invariant in
    let written = before.grows.0 ++ take c.in-Ok.count c.loop-rest.rest.now in
    record {
      grows = (written, grind (arith, common_steps, before.grows.1), Appends-trans _ _ _ _ _ before.grows.2 c.in-Ok.ensures.bytes);
      same = grind (arith, nat_tests, c.in-Ok.ensures.failed, before.same);
    }
