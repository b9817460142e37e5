use Rattle.mq_sets.proofs.Common.{arith, ap, cells_in, PoolState}
use Rattle.mq_sets.proofs.Stored.{cells_in-rows_of}
use Rattle.mq_sets.proofs.pools.Pool.room.Goals as goal

pub returns : goal.returns
returns g c =
    let rows = ap (λ (s : PoolState _). cells_in s.rows) c.self.view_is in
    let limit = ap (λ (s : PoolState _). s.cell_limit) c.self.view_is in
    let stored = c.self.invariant.0 in
    omega (arith, rows, limit, stored.used_is, stored.cells_fit, cells_in-rows_of c.self.inside.cells.items c.self.inside.extents.items stored.within)
