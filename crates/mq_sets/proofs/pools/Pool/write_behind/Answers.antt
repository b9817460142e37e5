use Rattle.mq_sets.proofs.Common.{ℕ, ◌+◌, ◌-◌, ◌/◌, ◌<◌, ◌≤◌, ◌≡◌, ◌∙◌, ap, arith, subst, sym, length, length-append, map, set, length-map}
use Rattle.mq_sets.proofs.Common.{length-set, All-set, Spends, Spends-join, PoolState, IsPlaced}
use Rattle.mq_sets.proofs.Common.{cells_reserved, Extent, common_steps}
use Rattle.mq_sets.proofs.RowEdits.{IsEmptied, emptied-apart, emptied-named, emptied-said, sizes-rows_of}
use Rattle.mq_sets.proofs.{Stored.IsAppended, Stored.IsStored-appended, Stored.Shows, Stored.shows}
use Rattle.mq_sets.proofs.WrittenBehind.{count-appended, moved-behind, state-behind}
use Rattle.mq_sets.proofs.pools.Pool.write_behind.Given.{Over}
use Rattle.mq_sets.proofs.pools.Pool.write_behind.Goals as goal
use Rattle.mq_sets.proofs.pools.Pool.write_behind.Goals.{After-count, After-extent_at}

-- the row at the number, and that it fits
shown_so : (g : Over) (c : After-extent_at g) → (let i = c.self.inside in let extents = i.extents.items in
    Shows c.args.self.now extents i.cell_limit (cells_reserved (length extents) i.cell_limit - length i.cells.items) c.args.number c.index.result.now)
shown_so g c =
    let i = c.self.inside in
    shows i.cells.items i.extents.items c.args.number c.index.result.now c.self.view_is c.self.invariant.0 c.requires.number c.index.ensures

fits_so : (g : Over) (c : After-extent_at g) → c.self.inside.used + length c.args.row.now ≤ c.self.inside.cell_limit + c.index.result.now.length
fits_so g c =
    let is = shown_so g c in
    omega (arith, is.used, is.limit_is, is.size, c.self.invariant.0.used_is, c.requires.fits)

-- its extent has no cells then
emptied_so : (g : Over) (c : After-extent_at g) → IsEmptied c.self.inside.extents.items c.args.number c.index.result.now c.extent_at.result
emptied_so g c = record {
  in_list = (shown_so g c).in_list;
  here = c.index.ensures;
  no_cells = c.extent_at.ensures.length;
  at_first = c.extent_at.ensures.placed c.extent_at.ensures.length;
}

pub make_space_for-requires-clause-apart : goal.make_space_for-requires-clause-apart
make_space_for-requires-clause-apart g c =
    emptied-apart (emptied_so g (goal.at.make_space_for-requires-clause-apart g c).After-extent_at) c.self.invariant.0.apart

pub make_space_for-requires-clause-named : goal.make_space_for-requires-clause-named
make_space_for-requires-clause-named g c =
    let sizes = ap (λ (s : PoolState _). map length s.rows) c.self.view_is in
    let named = rw (← sizes, sizes-rows_of c.self.inside.cells.items c.self.inside.extents.items c.self.invariant.0.within) at c.requires.named in
    emptied-named (emptied_so g (goal.at.make_space_for-requires-clause-named g c).After-extent_at) c.args.in_use.now named

pub make_space_for-requires-clause-space : goal.make_space_for-requires-clause-space
make_space_for-requires-clause-space g c =
    let at = (goal.at.make_space_for-requires-clause-space g c).After-extent_at in
    let stored = c.self.invariant.0 in
    let count : c.len.result ≡ length c.self.inside.extents.items = omega (arith, c.len.ensures, c.self.inside.extents.ok.0) in
    omega (arith, fits_so g at, (shown_so g at).limit_is, count, stored.used_is, c.requires.fits, emptied-said (emptied_so g at))

pub index_mut-requires-2 : goal.index_mut-requires-2
index_mut-requires-2 g c =
    let extents = c.self.inside.extents.items in
    let l : Extent → ℕ = λ e. e.length in
    let then = set extents c.args.number c.extent_at.result in
    let kept = c.make_space_for.new.extents.items in
    let sizes = sym (length-map kept l) ∙ ap length c.make_space_for.ensures.lengths ∙ length-map then l in
    let same : length kept ≡ length extents = sizes ∙ length-set extents c.args.number c.extent_at.result in
    omega (arith, same, (emptied_so g (goal.at.index_mut-requires-2 g c).After-extent_at).in_list, c.make_space_for.new.extents.ok.0)

pub unwrap-requires : goal.unwrap-requires
unwrap-requires g c =
    let space = c.make_space_for.ensures in
    c.extend_from_slice.ensures.succeeds (omega (arith, space.space, space.capacity, c.make_space_for.new.cells.ok.0))

-- the row stands behind the last cell then
appended_so : (g : Over) (c : After-count g) → IsEmptied c.self.inside.extents.items c.args.number c.index.result.now c.extent_at.result
    → IsAppended c.self.inside.cells.items c.make_space_for.new.cells.items c.args.row.now c.self.inside.extents.items c.make_space_for.new.extents.items
    c.args.number c.extent_at.result c.extent_at-2.result c.index.result.now
appended_so g c e =
    let space = c.make_space_for.ensures in
    let some : 0 < length c.args.row.now = omega (arith, c.requires.longer) in
    record {
      in_list = e.in_list;
      here = e.here;
      same_rows = space.rows;
      same_lengths = space.lengths;
      within = space.within;
      apart = space.apart;
      start = omega (arith, c.extent_at-2.ensures.start some, c.len-2.ensures, c.make_space_for.new.cells.ok.0);
      size = c.extent_at-2.ensures.length;
      full = c.extent_at-2.ensures.free;
    }

pub invariant_of-self : goal.invariant_of-self
invariant_of-self g c =
    let known = c.self.invariant in
    let space = c.make_space_for.ensures in
    let kept = c.make_space_for.new.extents.items in
    let y = c.extent_at-2.result in
    let at = goal.at.invariant_of-self g c in
    let now = appended_so g at.After-count (emptied_so g at.After-extent_at) in
    let count : c.len.result ≡ length c.self.inside.extents.items = omega (arith, c.len.ensures, c.self.inside.extents.ok.0) in
    let items = rw c.unwrap.ensures at c.extend_from_slice.ensures.items in (
      rw items (IsStored-appended now (fits_so g at.After-extent_at) known.0),
      All-set IsPlaced kept c.args.number y c.extent_at-2.ensures.placed space.placed,
      c.clear.ensures.items,
      omega (arith, count-appended now, count, space.capacity, c.extend_from_slice.ensures.capacity),
      omega (arith, count-appended now, count, space.spare_capacity, c.clear.ensures.capacity),
      rw items (omega (arith, count-appended now, count, space.space, length-append c.make_space_for.new.cells.items c.args.row.now)),
      omega (arith, count-appended now, known.6),
    )

pub returns : goal.returns
returns g c =
    let at = goal.at.returns g c in
    let i = c.self.inside in
    let e = emptied_so g at.After-extent_at in
    let now = appended_so g at.After-count e in
    let space = c.make_space_for.ensures in
    let count : c.len.result ≡ length i.extents.items = omega (arith, c.len.ensures, i.extents.ok.0) in
    let size : i.cell_limit + i.cell_limit / 4 + c.len.result ≡ cells_reserved (length i.extents.items) i.cell_limit = omega (arith, count) in
    let known = c.self.invariant in
    let items = rw c.unwrap.ensures at c.extend_from_slice.ensures.items in
    record {
      rows = rw items (state-behind now e c.self.view_is known.0 c.requires.number c.requires.longer known.5 size space.filled);
      moves =
          let moved = moved-behind now e c.self.view_is known.0 c.requires.number c.requires.longer known.5 size (length c.args.in_use.now) in
          subst (λ (n : ℕ). Spends n n c.args.moves.now c.count.new.self) moved (Spends-join space.moves c.count.ensures);
    }

pub overflow_sub-self : goal.overflow_sub-self
overflow_sub-self g c = grind (arith, common_steps)
