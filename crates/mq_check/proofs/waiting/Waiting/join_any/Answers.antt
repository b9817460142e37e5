use Rattle.mq_check.proofs.Common.{ℕ, ap, ◌∙◌, first_terms, numbered_asked, numbered_terms, is_free, with_partner}
use Rattle.mq_check.proofs.waiting.Waiting.join_any.Goals as goal

pub returns-clause-terms : goal.returns-clause-terms
returns-clause-terms g c =
    let asked = numbered_asked g.F.Address.Key.number c.args.asked in
    c.join.ensures.terms ∙ ap (λ (from : ℕ). first_terms (is_free c.args.side asked from) c.args.self.now.entries) c.start.ensures

pub returns-clause-joined : goal.returns-clause-joined
returns-clause-joined g c =
    let number = g.F.Address.Key.number in
    c.join.ensures.joined ∙
    ap (λ (from : ℕ). with_partner c.args.side (numbered_asked number c.args.asked) from (numbered_terms number c.args.other) c.args.self.now) c.start.ensures
