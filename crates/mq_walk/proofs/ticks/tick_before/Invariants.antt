use Rattle.std.proofs.Common.{◌≡◌, ℕ, ◌-◌, Result}
use Rattle.mq_text.specs.declared.printing.LineFault.{LineFault}
use Rattle.mq_walk.specs.Ticks.{TicksBefore, TicksInTurn}
use Rattle.mq_walk.proofs.ticks.tick_before.Given as goal

-- whatever ticks are still to come, they and those so far are all
abbrev pub invariant-loop-limit : goal.invariant-loop-limit
invariant-loop-limit g l =
    record {
      ticked : (count : ℕ) (end : g.row.T.Denot × g.row.O.Denot) (r : Result Unit LineFault)
          → TicksInTurn (λ x. g.T.TickStep.next x.0) g.T.TickStep.ticks l.fn.limit count (l.steps, l.output) end r
          → TicksBefore (λ x. g.T.TickStep.next x.0) g.T.TickStep.ticks l.fn.limit (l.fn.steps, l.fn.output) end r;
      next : l.next ≡ g.T.TickStep.next l.steps;
    }

abbrev pub decreases-loop-limit : goal.decreases-loop-limit
decreases-loop-limit g l = l.limit - l.next
