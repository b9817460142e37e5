use Rattle.mq_check.proofs.Common.{refl, ap, sym, ◌∙◌, Family, Configuration, general_terms, terms_of}
use Rattle.mq_wire.specs.Numbered.{numbered_query}
use Rattle.mq_check.proofs.Entering.{general_counted, specific_counted}
use Rattle.mq_check.proofs.SeenQueries.{general_came, specific_came}
use Rattle.mq_check.proofs.checking.Checking.query_seen.Goals as goal

pub returns-then-is_general : goal.returns-then-is_general
returns-then-is_general g c =
    let is_config = c.config-config.ensures in
    let family = sym c.is_faultless.ensures.family ∙ ap (λ (k : Configuration). k.family) is_config in
    let terms = c.terms_of-terms.ensures ∙ ap (λ (f : Family). terms_of f c.args.packet.number (g.F.Address.Key.number c.args.packet.to)
    (numbered_query g.F.Address.Key.number c.args.query.now)) family in
    let wanted = c.general_terms-wanted.ensures ∙ (λ i. general_terms (is_config i) (c.timing-in_force.ensures i)) in
    let configured = c.timing-configured.ensures ∙ ap (λ (k : Configuration). k.timing) is_config in
    general_came _ _ _ _ _ _ _ _ _ _ _ _ (sym c.is_general.ensures ∙ c.if-is_general.true) terms wanted configured
    (general_counted _ _ _ _ _ c.self.view_is c.compare_general.ensures c.saturating_add-self-inside.ensures)

pub returns : goal.returns
returns g c =
    let is_config = c.config-config.ensures in
    let family = sym c.is_faultless.ensures.family ∙ ap (λ (k : Configuration). k.family) is_config in
    let terms = c.terms_of-terms.ensures ∙ ap (λ (f : Family). terms_of f c.args.packet.number (g.F.Address.Key.number c.args.packet.to)
    (numbered_query g.F.Address.Key.number c.args.query.now)) family in
    specific_came _ _ _ _ _ _ _ _ _ _ _ _ (sym c.is_general.ensures ∙ c.if-is_general.false) family terms refl
    (specific_counted _ _ _ _ c.self-2.view_is c.see_all.ensures c.saturating_add-self-inside-2.ensures)
