use Rattle.mq_replay.proofs.Common.{◌≡◌, take, flat_map, inner_of, has_failed, Passes, timer_text}
use Rattle.mq_replay.proofs.group_line.put_timers.Given as goal

-- the sources so far were put
abbrev pub invariant-loop-source : goal.invariant-loop-source
invariant-loop-source g l =
    record {
      put : Passes (g.W.Write.contents (inner_of l.fn.writer)) (g.W.Write.contents (inner_of l.writer)) l.fn.buffer.items l.buffer.items
          (flat_map (λ x. timer_text g.K.LineKey.family (g.K.Key.number x.address) x.timer) (take l.source-index l.sources));
      same : has_failed l.writer ≡ has_failed l.fn.writer;
    }
