use Rattle.mq_sets.proofs.Common.{◌∙◌, ap, arith, set, [], length-set, PoolState}
use Rattle.mq_sets.proofs.{RowEdits.IsEmptied, RowEdits.IsStored-emptied, RowEdits.emptied-placed, RowEdits.emptied-rows, RowEdits.with_parts, Stored.shows}
use Rattle.mq_sets.proofs.pools.Pool.remove_row.Given.{Over}
use Rattle.mq_sets.proofs.pools.Pool.remove_row.Goals as goal
use Rattle.mq_sets.proofs.pools.Pool.remove_row.Goals.{After-extent_at}

-- the row's extent then, which has no cells
emptied_so : (g : Over) (c : After-extent_at g) → IsEmptied c.self.inside.extents.items c.args.number c.index-before.result.now c.extent_at.result
emptied_so g c =
    let here = c.index-before.ensures in
    let cells = c.self.inside.cells.items in
    let is = shows cells c.self.inside.extents.items c.args.number c.index-before.result.now c.self.view_is c.self.invariant.0 c.requires.number here in
    record { in_list = is.in_list; here = here; no_cells = c.extent_at.ensures.length; at_first = c.extent_at.ensures.placed c.extent_at.ensures.length }

pub invariant_of-self : goal.invariant_of-self
invariant_of-self g c =
    let at = emptied_so g (goal.at.invariant_of-self g c).After-extent_at in
    let same = length-set c.self.inside.extents.items c.args.number c.extent_at.result in
    let known = c.self.invariant in (
      IsStored-emptied at c.self.inside.cells.items known.0,
      emptied-placed at known.1,
      known.2,
      omega (arith, same, known.3),
      omega (arith, same, known.4),
      omega (arith, same, known.5),
      omega (arith, same, known.6),
    )

pub returns : goal.returns
returns g c =
    let at = emptied_so g (goal.at.returns g c).After-extent_at in
    let same = length-set c.self.inside.extents.items c.args.number c.extent_at.result in
    let was = ap (λ (s : PoolState _). set s.rows c.args.number []) c.self.view_is in
    let ahead = ap (λ (s : PoolState _). s.ahead) c.self.view_is in
    with_parts c.args.self.now _ _ _ _ _ _ _ c.self.view_is (emptied-rows at c.self.inside.cells.items ∙ was) (omega (arith, ahead, same))
