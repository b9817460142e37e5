use Rattle.mq_check.proofs.Common.{ℕ, List, length, ap, subst, sym, ◌∙◌, arith, Entry, AreMarked, AreBounded, numbered_entry}
use Rattle.mq_check.proofs.{Alike.bounded_alike, Alike.marked_alike, Excusing.excused_are_alike, Excusing.excused_view, JudgedEntries.judged_excused}
use Rattle.mq_check.proofs.waiting.Waiting.excuse.Goals as goal

pub returns : goal.returns
returns g c = excused_view _ _ _ (numbered_entry g.F.Address.Key.number) _ _ _ _ c.self.view_is c.excuse_each.ensures.entries

pub invariant_of-self : goal.invariant_of-self
invariant_of-self g c =
    let are = c.self.invariant in
    let width = g.F.Address.WireKey.WIDTH in
    let alike = excused_are_alike c.args.within c.args.end c.args.sent.now _ in (
      omega (arith, are.0, c.excuse_each.ensures.capacity),
      subst (λ (es : List (Entry ℕ)). AreMarked width c.self.inside.horizon es c.self.inside.trails)
          (sym {A = List (Entry ℕ)} c.excuse_each.ensures.entries) (marked_alike width c.self.inside.horizon _ _ _ alike are.1),
      subst (λ (es : List (Entry ℕ)). AreBounded width es c.self.inside.latest.items) (sym {A = List (Entry ℕ)} c.excuse_each.ensures.entries)
          (bounded_alike width _ _ _ alike are.2),
      are.3,
      judged_excused _ c.args.within c.args.end c.args.sent.now _ _ are.4 c.excuse_each.ensures.entries (ap length c.excuse_each.ensures.entries ∙ alike.long),
    )
