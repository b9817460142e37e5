use Rattle.mq_sets.proofs.Common.{◌≤◌, take, vec_capacity}
use Rattle.mq_sets.proofs.PackedRows.{IsPackedBy}
use Rattle.mq_sets.proofs.packing.pack_named.Given as goal

abbrev pub invariant-loop-number : goal.invariant-loop-number
invariant-loop-number g l =
    record {
      packed : IsPackedBy l.cells l.packed.items l.initial.extents l.extents (take l.number-index l.numbers);
      capacity : vec_capacity l.initial.packed ≤ vec_capacity l.packed;
    }
