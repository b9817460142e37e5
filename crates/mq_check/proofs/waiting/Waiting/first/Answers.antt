use Rattle.mq_check.proofs.Common.{ℕ, ap, sym, ◌∙◌, Some, first_entry, numbered_asked, numbered_entry, WaitingValue, is_free}
use Rattle.mq_check.proofs.Waits.{made_at}
use Rattle.mq_check.proofs.waiting.Waiting.first.Goals as goal

pub returns-in-Some : goal.returns-in-Some
returns-in-Some g c =
    let f = numbered_entry g.F.Address.Key.number in
    let made = ap (λ (w : WaitingValue). w.entries) c.self.view_is in
    let here = made_at f _ _ c.in-Some.place _ made c.index.ensures in
    ap Some here ∙ sym (c.in-Some.ensures.some.entry (f c.index.result.now)) ∙
    ap (λ (from : ℕ). first_entry (is_free c.args.side (numbered_asked g.F.Address.Key.number c.args.asked) from) c.args.self.now.entries) c.start.ensures

pub returns-in-None : goal.returns-in-None
returns-in-None g c =
    sym c.in-None.ensures.none.entry ∙
    ap (λ (from : ℕ). first_entry (is_free c.args.side (numbered_asked g.F.Address.Key.number c.args.asked) from) c.args.self.now.entries) c.start.ensures
