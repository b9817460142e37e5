use Rattle.std.proofs.{Common.◌∙◌, Common.ℕ, Common.ap, Common.arith, lemmas.Bool.Decides.nat_tests}
use Rattle.mq_count.specs.Streams.{counted_on}
use Rattle.mq_pcap.{specs.Filling.Takes, specs.Filling.input_of, proofs.Filled.filled_none, proofs.Filled.filled_more}
use Rattle.mq_pcap.proofs.filling.fill.Goals as goal

pub loop-count-init : goal.loop-count-init
loop-count-init g c = filled_none _ _

pub loop-count-preserved : goal.loop-count-preserved
loop-count-preserved g c =
    let ensures = c.in-Ok.ensures in
    let takes : Takes (input_of g.R.Read.remaining c.loop-count.reader) (input_of g.R.Read.remaining c.read.new.self) _ = record {
      ahead = ensures.bytes.0;
      taken = ensures.taken ∙ ap (λ (n : ℕ). counted_on c.loop-count.reader.taken n) ensures.bound.1;
    } in
    filled_more _ _ _ _ _ _ _ c.read.auto.buf ensures.bound.0 c.loop-count.invariant takes (grind (arith, nat_tests, ensures.failed))
