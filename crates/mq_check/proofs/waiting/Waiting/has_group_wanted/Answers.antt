use Rattle.mq_check.proofs.Common.{◌<◌, ℕ, List, length, ap, sym, subst, ◌∙◌, arith, get_or_read, ltb-true, Entry, numbered_entry, AreBounded, WaitingValue}
use Rattle.mq_check.proofs.{MarkedEntries.none_wanted, MarkedEntries.one_wanted, Waits.made_at, Waits.made_long}
use Rattle.mq_check.proofs.waiting.Waiting.has_group_wanted.Goals as goal

pub returns-then-is_before : goal.returns-then-is_before
returns-then-is_before g c =
    let made = ap (λ (w : WaitingValue). w.entries) c.self.view_is in
    let within : c.slot_of-slot.result < length c.self.inside.latest.items = omega (arith, c.slot_of-slot.ensures.within, c.self.invariant.3) in
    sym (none_wanted _ _ _ _ c.self.inside.latest.items c.slot_of-slot.result c.index.result.now
    (subst (λ (es : List (Entry ℕ)). AreBounded g.F.Address.WireKey.WIDTH es c.self.inside.latest.items) made c.self.invariant.2) c.slot_of-slot.ensures.slot
    (get_or_read c.self.inside.latest.items c.slot_of-slot.result c.index.result.now within c.index.ensures 0)
    (ltb-true _ _ (sym c.is_before.ensures ∙ c.if-is_before.true)))

pub returns-then-is_group_wanted : goal.returns-then-is_group_wanted
returns-then-is_group_wanted g c =
    let f = numbered_entry g.F.Address.Key.number in
    let made = ap (λ (w : WaitingValue). w.entries) c.self.view_is in
    let within : c.place-last.result < length c.args.self.now.entries = omega (arith, made_long f _ _ made, c.self.inside.entries.ok.0) in
    sym (one_wanted _ _ c.place-last.result _ within (made_at f _ _ _ _ made c.index-then-last-len.ensures)
    (sym c.is_group_wanted.ensures ∙ c.if-is_group_wanted.true))
