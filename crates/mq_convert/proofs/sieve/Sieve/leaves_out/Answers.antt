use Rattle.mq_convert.proofs.Common.{◌≡◌, ◌∙◌, ap, sym, false, captured_of, SieveState}
use Rattle.mq_convert.proofs.Sieved.{sifted_none}
use Rattle.mq_convert.proofs.sieve.Sieve.leaves_out.Goals as goal

pub returns-then-not-self : goal.returns-then-not-self
returns-then-not-self g c =
    let again : c.args.self.now.choice.once ≡ false = sym (ap (λ (s : SieveState). s.choice.once) c.self.view_is) ∙ c.if-not-self.true in
    sifted_none c.args.self.now (captured_of c.args.block.now c.args.packet) again
