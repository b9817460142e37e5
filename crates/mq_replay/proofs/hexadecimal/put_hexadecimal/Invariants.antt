use Rattle.mq_replay.proofs.Common.{◌≡◌, ◌-◌, ◌≤◌, length, take, flat_map, inner_of, has_failed, Passes}
use Rattle.mq_replay.proofs.ReplayTexts.{byte_text}
use Rattle.mq_replay.proofs.hexadecimal.put_hexadecimal.Given as goal

-- the bytes so far were put
abbrev pub invariant-loop-done : goal.invariant-loop-done
invariant-loop-done g l =
    record {
      put : Passes (g.W.Write.contents (inner_of l.fn.writer)) (g.W.Write.contents (inner_of l.writer)) l.fn.buffer.items l.buffer.items
          (flat_map byte_text (take l.done l.bytes));
      within : l.done ≤ length l.bytes;
      same : has_failed l.writer ≡ has_failed l.fn.writer;
    }

-- the bytes that are left
abbrev pub decreases-loop-done : goal.decreases-loop-done
decreases-loop-done g l = length l.bytes - l.done
