use Rattle.mq_check.proofs.Common.{ap, sym, ◌∙◌, is_some, terms_in, numbered_entry, WaitingValue}
use Rattle.mq_check.proofs.{Entering.has_terms, Waits.made_at}
use Rattle.mq_check.proofs.waiting.Waiting.has_free.Goals as goal

pub returns-in-Some : goal.returns-in-Some
returns-in-Some g c =
    let f = numbered_entry g.F.Address.Key.number in
    let made = ap (λ (w : WaitingValue). w.entries) c.self.view_is in
    let here = made_at f _ _ c.in-Some.place _ made c.index.ensures in
    c.is_some.ensures ∙ sym (has_terms g.F.Address.Key.number c.terms.result) ∙
    ap is_some (c.terms.ensures ∙ ap terms_in here ∙ sym (c.in-Some.ensures.some.terms (f c.index.result.now)))

pub returns-in-None : goal.returns-in-None
returns-in-None g c = ap is_some (sym c.in-None.ensures.none.terms)
