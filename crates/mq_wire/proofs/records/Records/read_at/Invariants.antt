use Rattle.mq_wire.proofs.Common.{◌≡◌, ◌≤◌, ◌-◌, length, first_cut, spans_of_records}
use Rattle.mq_wire.proofs.records.Records.read_at.Given as goal

-- all records are whole where those that are left are
abbrev pub invariant-loop : goal.invariant-loop
invariant-loop g l =
    record {
      cut : first_cut (length l.bytes) l.place (spans_of_records g.K.WireKey.WIDTH l.count l.place l.bytes) ≡
          first_cut (length l.bytes) l.end (spans_of_records g.K.WireKey.WIDTH (l.count - l.counter) l.end l.bytes);
      within : l.end ≤ length l.bytes;
    }
