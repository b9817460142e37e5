use Rattle.mq_replay.proofs.Common.{◌≡◌, take, flat_map, inner_of, has_failed, Passes}
use Rattle.mq_replay.proofs.EndLines.{entry_event}
use Rattle.std.specs.FinMap as map
use Rattle.mq_replay.proofs.ending.put_groups.Given as goal

-- the events of the groups so far were put
abbrev pub invariant-loop-place : goal.invariant-loop-place
invariant-loop-place g l =
    record {
      put : Passes (g.W.Write.contents (inner_of l.fn.writer)) (g.W.Write.contents (inner_of l.writer)) l.fn.buffer.items l.buffer.items
          (flat_map (entry_event l.fn.json g.F.Family.FAMILY l.fn.moment) (take l.place (map.entries l.link.state.groups)));
      same : has_failed l.writer ≡ has_failed l.fn.writer;
    }
