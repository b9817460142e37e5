use Rattle.std.proofs.Common.{◌≤◌, ◌^◌}
use Rattle.std.proofs.lemmas.List.Elements.{All-push}
use Rattle.mq_link.specs.Events.{moment_at}
use Rattle.mq_rows.proofs.given.events_of.Goals as goal

pub loop-it-preserved : goal.loop-it-preserved
loop-it-preserved g c =
    record {
      in_range = rw c.in_ok-push.ensures.items
          (All-push (λ event. moment_at event ≤ 2 ^ 53) c.loop-it.events.items c.event.result c.loop-it.invariant.in_range c.event.ensures);
    }

pub returns : goal.returns
returns g c = c.loop-it.invariant.in_range
