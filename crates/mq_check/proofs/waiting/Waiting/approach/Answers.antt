use Rattle.mq_check.proofs.Common.{◌≤◌, ℕ, List, ap, sym, subst, arith, list_map, nat_tests, Entry, numbered_entry, AreMarked, AreNoneOf, WaitingValue}
use Rattle.mq_check.proofs.MarkedEntries.{marked_near}
use Rattle.mq_check.proofs.waiting.Waiting.approach.Goals as goal

pub invariant_of-self : goal.invariant_of-self
invariant_of-self g c =
    let are = c.self.invariant in
    let made = ap (λ (w : WaitingValue). w.entries) c.self.view_is in
    let later : c.self.inside.horizon ≤ c.args.from.now = grind (arith, nat_tests, c.is_by.ensures, c.if-is_by.true) in
    let none = subst (λ (es : List (Entry ℕ)). AreNoneOf g.F.Address.WireKey.WIDTH c.slot_of-slot.result c.args.from.now es c.near_place-place.result)
    (sym {A = List (Entry ℕ)} made) c.near_place-place.ensures in
    let near = marked_near _ _ _ _ _ _ _ _ are.1 later none c.come_near.ensures.slots c.come_near.ensures.others c.come_near.ensures.nears in
    let items = list_map (numbered_entry g.F.Address.Key.number) c.self.inside.entries.items in (
      are.0,
      subst (λ (from : ℕ). AreMarked g.F.Address.WireKey.WIDTH from items c.come_near.new.self) (sym c.copied-self-inside.ensures) near,
      are.2,
      are.3,
      are.4,
    )
