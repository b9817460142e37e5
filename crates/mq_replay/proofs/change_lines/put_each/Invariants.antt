use Rattle.mq_replay.proofs.Common.{◌≡◌, take, flat_map, inner_of, has_failed, group_at, Passes, Changes, event_in}
use Rattle.mq_replay.proofs.change_lines.put_each.Given as goal

-- the groups so far were put
abbrev pub invariant-loop-address : goal.invariant-loop-address
invariant-loop-address g l =
    let number = g.F.Address.Key.number in
    record {
      put : Passes (g.W.Write.contents (inner_of l.fn.writer)) (g.W.Write.contents (inner_of l.writer)) l.fn.buffer.items l.buffer.items
          (flat_map (λ x. event_in l.fn.json g.F.Address.LineKey.family l.fn.moment (Changes (number x) (group_at l.fn.link.state.groups (number x)).group))
          (take l.address-index l.address-items));
      same : has_failed l.writer ≡ has_failed l.fn.writer;
    }
