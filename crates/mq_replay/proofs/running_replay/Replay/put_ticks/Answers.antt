use Rattle.mq_replay.proofs.Common.{arith, output_of}
use Rattle.mq_replay.proofs.TickedReplays.{ticks_put}
use Rattle.mq_replay.proofs.running_replay.Replay.put_ticks.Goals as goal

pub returns : goal.returns
returns g c =
    let all = ticks_put (λ x. record { link = x.0.link; asked = x.0.asked; held = x.0.buffer.items; output = output_of g.W.Write.contents x.1 }) c.args.limit
    _ c.args.limit _ _ _ (omega arith) c.tick_before.ensures.1 in
    record { asked = all.same_asked; puts = all.puts; failed = all.failed }
