use Rattle.std.proofs.Common.{◌≤◌, ◌^◌, All}
use Rattle.mq_link.specs.Events.{moment_at}
use Rattle.mq_rows.proofs.given.events_of.Given as goal

-- the events so far are in range
abbrev pub invariant-loop-it : goal.invariant-loop-it
invariant-loop-it g l = record { in_range : All (λ event. moment_at event ≤ 2 ^ 53) l.events.items }
