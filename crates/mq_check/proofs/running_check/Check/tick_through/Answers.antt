use Rattle.mq_check.proofs.Common.{◌≡◌, ◌+◌, ap, ◌∙◌, arith, output_of, checked_in}
use Rattle.mq_check.proofs.{Steppings.comes_as, TickedChecks.rest_of, TickedChecks.ticks_come}
use Rattle.mq_check.proofs.running_check.Check.tick_through.Goals as goal

pub returns : goal.returns
returns g c =
    let limit : c.after.result ≡ c.args.moment + 1 = c.after.ensures.later ∙ ap (λ n. c.args.moment + n) c.from_ms.ensures in
    let all = ticks_come g.F.Address.LineKey.family (λ x. record {
      link = x.0.link;
      queries = x.0.queries;
      terms = x.0.terms;
      told = x.0.told;
      output = output_of g.W.Write.contents x.1;
    }) c.after.result _ c.after.result _ _ _ (omega arith) c.tick_before.ensures.1 in
    let start = checked_in c.args.self.now.link c.args.self.now.queries in
    record {
      terms = all.same_terms;
      comes = comes_as _ _ _ _ _ _ _ _ _ _ _ (ap (λ n. rest_of n c.args.self.now.link.config c.args.self.now.terms.within n start) limit) all.comes;
    }
