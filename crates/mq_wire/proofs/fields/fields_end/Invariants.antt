use Rattle.mq_wire.proofs.Common.{◌≡◌, ◌+◌, ◌≤◌, drop, length, sum, first_cut}
use Rattle.mq_wire.proofs.fields.fields_end.Given as goal

-- a fact about all fields holds if it holds for those left
abbrev pub invariant-loop-width : goal.invariant-loop-width
invariant-loop-width l =
    record {
      cut : first_cut (length l.bytes) l.place l.widths ≡ first_cut (length l.bytes) l.end (drop l.width-index l.widths);
      total : l.place + sum l.widths ≡ l.end + sum (drop l.width-index l.widths);
      within : l.end ≤ length l.bytes;
    }
