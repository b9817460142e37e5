use Rattle.mq_check.proofs.Common.{◌≤◌, ℕ, List, ap, subst, arith, nat_tests, Entry, AreNoneOf, WaitingValue}
use Rattle.mq_check.proofs.MarkedEntries.{none_of_near, none_of_start}
use Rattle.mq_check.proofs.waiting.Waiting.start.Goals as goal

pub returns-then-is_by : goal.returns-then-is_by
returns-then-is_by g c =
    let made = ap (λ (w : WaitingValue). w.entries) c.self.view_is in
    let later : c.self.inside.horizon ≤ c.args.from.now = grind (arith, nat_tests, c.is_by.ensures, c.if-is_by.true) in
    subst (λ (es : List (Entry ℕ)). AreNoneOf g.F.Address.WireKey.WIDTH c.args.slot c.args.from.now es c.near_start.result) made
    (none_of_near _ _ _ _ _ _ _ c.self.invariant.1 later c.near_start.ensures)

pub returns-else-is_by : goal.returns-else-is_by
returns-else-is_by g c =
    let made = ap (λ (w : WaitingValue). w.entries) c.self.view_is in
    subst (λ (es : List (Entry ℕ)). AreNoneOf g.F.Address.WireKey.WIDTH c.args.slot c.args.from.now es c.start.result) made
    (none_of_start _ _ _ _ _ _ _ c.self.invariant.1 c.start.ensures)
