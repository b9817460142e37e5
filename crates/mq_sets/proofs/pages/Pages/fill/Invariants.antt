use Rattle.mq_sets.proofs.Common.{◌≡◌, ◌+◌, ◌-◌, length, Spends}
use Rattle.mq_sets.proofs.PagesFilled.{IsFilling}
use Rattle.mq_sets.proofs.pages.Pages.fill.Given as goal

abbrev pub invariant-loop-done : goal.invariant-loop-done
invariant-loop-done g l =
    let moved = length l.fn.self.pages + l.done + length l.self.pages in
    IsFilling l.numbers l.self.pages l.done × (l.self.limit ≡ l.fn.self.limit) × Spends moved moved l.fn.moves l.moves

abbrev pub decreases-loop-done : goal.decreases-loop-done
decreases-loop-done g l = length l.numbers - l.done
