use Rattle.mq_replay.proofs.Common.{◌≡◌, ℕ, List, ◌++◌, true, drop, list_map, inner_of, has_failed, Passes, items_from, timer_item}
use Rattle.mq_replay.proofs.state_object.put_timer_items.Given as goal

-- the text so far and that of the sources left are the whole text
abbrev pub invariant-loop-source : goal.invariant-loop-source
invariant-loop-source g l =
    let number = g.K.Key.number in
    record {
      put : (done : List ℕ) × (items_from (timer_item g.K.LineKey.family) true (list_map (λ x. (number x.address, x.timer)) l.fn.sources)
          ≡ done ++ items_from (timer_item g.K.LineKey.family) l.is_first (list_map (λ x. (number x.address, x.timer)) (drop l.source-index l.sources)))
          × Passes (g.W.Write.contents (inner_of l.fn.writer)) (g.W.Write.contents (inner_of l.writer)) l.fn.buffer.items l.buffer.items done;
      same : has_failed l.writer ≡ has_failed l.fn.writer;
    }
