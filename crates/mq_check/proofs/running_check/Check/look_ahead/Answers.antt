use Rattle.mq_check.proofs.Common.{◌∙◌, ticked_through, checked_in}
use Rattle.mq_check.{specs.Checking.with_all_excused, proofs.Steppings.comes_as}
use Rattle.mq_check.proofs.running_check.Check.look_ahead.Goals as goal

pub returns-clause-comes : goal.returns-clause-comes
returns-clause-comes g c =
    let latest = c.moment-2.ensures.same ∙ c.latest_partner-latest.ensures in
    let excuses = c.excuse_all.ensures ∙ (λ i. record c.args.self.now.queries
    { checking = with_all_excused c.args.self.now.terms.within (c.moment.ensures.same i) c.args.self.now.queries.checking }) in
    comes_as _ _ _ _ _ _ _ _ _ _ _ (λ i. ticked_through c.args.self.now.link.config c.args.self.now.terms.within (latest i)
    (checked_in c.args.self.now.link (excuses i))) c.tick_through.ensures.comes
