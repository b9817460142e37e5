use Rattle.mq_sets.proofs.Common.{◌+◌, ◌-◌, ◌/◌, ◌≡◌, arith, refl, replicate, length-replicate}
use Rattle.mq_sets.proofs.{PackedRows.none, RowEdits.IsStored-none, RowEdits.IsPlaced-none, RowEdits.rows_of-none}
use Rattle.mq_sets.proofs.pools.Pool.new.Goals as goal

pub invariant_of-result : goal.invariant_of-result
invariant_of-result g c =
    let rows = c.args.rows in
    let all : c.in_ok-filled.field-0.items ≡ replicate rows none = c.in_ok-filled.ensures.items in
    let count = length-replicate rows none in
    rw (all, c.in_ok-with_capacity.ensures.room.0) (
      IsStored-none rows c.args.cells,
      IsPlaced-none rows,
      c.in_ok-with_capacity-2.ensures.room.0,
      omega (arith, count, c.in_ok-with_capacity.ensures.room.1),
      omega (arith, count, c.in_ok-with_capacity-2.ensures.room.1),
      omega arith,
      omega (arith, count, c.requires.counted),
    )

pub returns-clause-rows : goal.returns-clause-rows
returns-clause-rows g c =
    let rows = c.args.rows in
    let all : c.in_ok-filled.field-0.items ≡ replicate rows none = c.in_ok-filled.ensures.items in
    let full : (c.args.cells + c.args.cells / 4 + rows) - 0 ≡ c.args.cells + c.args.cells / 4 + rows = omega arith in
    rw (all, c.in_ok-with_capacity.ensures.room.0, rows_of-none rows, length-replicate rows none, full) refl
