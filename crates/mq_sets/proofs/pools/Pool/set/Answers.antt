use Rattle.mq_sets.proofs.Common.{◌+◌, ◌∙◌, ap, arith, set, get_or, [], length-set, PoolState}
use Rattle.mq_sets.proofs.{OneCell.rows-one_cell, RowEdits.with_parts, Stored.shows}
use Rattle.mq_sets.proofs.pools.Pool.set.Goals as goal

pub returns-clause-rows : goal.returns-clause-rows
returns-clause-rows g c =
    let cells = c.self.inside.cells.items in
    let extents = c.self.inside.extents.items in
    let number = c.args.number in
    let place = c.args.place in
    let d = c.index.result.now in
    let stored = c.self.invariant.0 in
    let is = shows cells extents number d c.self.view_is stored c.requires.number c.index.ensures in
    let changed = rows-one_cell cells extents number d place (d.start + place) c.args.cell is.in_list c.index.ensures stored.within stored.apart
    (omega (arith, is.size, c.requires.place)) (omega arith) in
    let was = ap (λ (s : PoolState _). set s.rows number (set (get_or s.rows number []) place c.args.cell)) c.self.view_is in
    with_parts c.args.self.now _ _ _ _ _ _ _ c.self.view_is (changed ∙ was) (omega (arith, is.ahead_is, length-set cells (d.start + place) c.args.cell))
