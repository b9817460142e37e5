use Rattle.mq_check.proofs.Common.{ℕ, List, subst, sym, arith, Entry, AreMarked, AreBounded, numbered_entry, is_set}
use Rattle.mq_check.proofs.{Alike.bounded_alike, Alike.marked_alike, JudgedEntries.judged_are_alike, JudgedEntries.judged_view}
use Rattle.mq_check.proofs.waiting.Waiting.judge.Goals as goal

pub returns : goal.returns
returns g c = judged_view _ _ _ (numbered_entry g.F.Address.Key.number) _ _ _ _ c.self.view_is c.judge_from-self-inside.ensures.entries

pub invariant_of-self : goal.invariant_of-self
invariant_of-self g c =
    let are = c.self.invariant in
    let width = g.F.Address.WireKey.WIDTH in
    let alike = judged_are_alike c.args.beside c.args.now.now (is_set c.args.link.now.state.groups) _ in (
      omega (arith, are.0, c.judge_from-self-inside.ensures.capacity),
      subst (λ (es : List (Entry ℕ)). AreMarked width c.self.inside.horizon es c.self.inside.trails)
          (sym {A = List (Entry ℕ)} c.judge_from-self-inside.ensures.entries) (marked_alike width c.self.inside.horizon _ _ _ alike are.1),
      subst (λ (es : List (Entry ℕ)). AreBounded width es c.self.inside.latest.items) (sym {A = List (Entry ℕ)} c.judge_from-self-inside.ensures.entries)
          (bounded_alike width _ _ _ alike are.2),
      are.3,
      c.judge_from-self-inside.ensures.judged,
    )
