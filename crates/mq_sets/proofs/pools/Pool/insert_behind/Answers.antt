use Rattle.mq_sets.proofs.Common.{ℕ, ◌+◌, ◌-◌, ◌/◌, ◌<◌, ◌≤◌, ◌≡◌, ◌++◌, ◌∙◌, ap, arith, subst, sym, length, length-append, map, get_or}
use Rattle.mq_sets.proofs.Common.{List, [], insert, length-insert, get_or-map, All-set, Spends, Spends-join}
use Rattle.mq_sets.proofs.Common.{cells_of, PoolState, IsPlaced, cells_reserved, size_at}
use Rattle.mq_sets.proofs.RowEdits.{IsEmptied, emptied-apart, emptied-named, emptied-said, sizes-rows_of}
use Rattle.mq_sets.proofs.{Stored.IsAppended, Stored.IsStored-appended, Stored.Shows, Stored.shows}
use Rattle.mq_sets.proofs.WrittenBehind.{count-appended, moved-behind, state-behind}
use Rattle.mq_sets.proofs.pools.Pool.insert_behind.Given.{Over}
use Rattle.mq_sets.proofs.pools.Pool.insert_behind.Goals as goal
use Rattle.mq_sets.proofs.pools.Pool.insert_behind.Goals.{After-count, After-extent_at}

-- the row at the number
shown_so : (g : Over) (c : After-extent_at g) → (let i = c.self.inside in let extents = i.extents.items in
    Shows c.args.self.now extents i.cell_limit (cells_reserved (length extents) i.cell_limit - length i.cells.items) c.args.number c.index-before.result.now)
shown_so g c =
    let i = c.self.inside in
    shows i.cells.items i.extents.items c.args.number c.index-before.result.now c.self.view_is c.self.invariant.0 c.requires.number c.index-before.ensures

-- its extent has no cells then
emptied_so : (g : Over) (c : After-extent_at g) → IsEmptied c.self.inside.extents.items c.args.number c.index-before.result.now c.extent_at.result
emptied_so g c = record {
  in_list = (shown_so g c).in_list;
  here = c.index-before.ensures;
  no_cells = c.extent_at.ensures.length;
  at_first = c.extent_at.ensures.placed c.extent_at.ensures.length;
}

-- the row with one cell more
abbrev row_of : (g : Over) (c : After-extent_at g) → List g.row.T.Denot
row_of g c = insert (get_or c.args.self.now.rows c.args.number []) c.args.place c.args.cell

long_so : (g : Over) (c : After-extent_at g) → length (row_of g c) ≡ c.index-before.result.now.length + 1
long_so g c =
    let row = get_or c.args.self.now.rows c.args.number [] in
    omega (arith, length-insert row c.args.place c.args.cell c.requires.place, (shown_so g c).size)

pub make_space_for-is_packed-requires-clause-apart : goal.make_space_for-is_packed-requires-clause-apart
make_space_for-is_packed-requires-clause-apart g c =
    emptied-apart (emptied_so g (goal.at.make_space_for-is_packed-requires-clause-apart g c).After-extent_at) c.self.invariant.0.apart

pub make_space_for-is_packed-requires-clause-named : goal.make_space_for-is_packed-requires-clause-named
make_space_for-is_packed-requires-clause-named g c =
    let sizes = ap (λ (s : PoolState _). map length s.rows) c.self.view_is in
    let named = rw (← sizes, sizes-rows_of c.self.inside.cells.items c.self.inside.extents.items c.self.invariant.0.within) at c.requires.named in
    emptied-named (emptied_so g (goal.at.make_space_for-is_packed-requires-clause-named g c).After-extent_at) c.args.in_use.now named

-- the cells then
items_so : (g : Over) (c : After-count g) → IsEmptied c.self.inside.extents.items c.args.number c.index-before.result.now c.extent_at.result
    → (let row = insert (get_or c.args.self.now.rows c.args.number []) c.args.place c.args.cell in
    c.append_longer.new.cells.items ≡ c.make_space_for-is_packed.new.cells.items ++ row)
items_so g c e =
    let d = c.index-before.result.now in
    let cells = c.self.inside.cells.items in
    let extents = c.self.inside.extents.items in
    let own = sym (get_or-map (cells_of cells) extents c.args.number d [] e.in_list ∙ ap (cells_of cells) (sym e.here))
    ∙ ap (λ (s : PoolState _). get_or s.rows c.args.number []) c.self.view_is in
    let items = rw c.make_space_for-is_packed.ensures.before at c.append_longer.ensures.items in
    items ∙ ap (λ xs. c.make_space_for-is_packed.new.cells.items ++ insert xs c.args.place c.args.cell) own

-- the row stands behind the last cell then
appended_so : (g : Over) (c : After-count g) → IsEmptied c.self.inside.extents.items c.args.number c.index-before.result.now c.extent_at.result
    → length (insert (get_or c.args.self.now.rows c.args.number []) c.args.place c.args.cell) ≡ c.index-before.result.now.length + 1
    → IsAppended c.self.inside.cells.items c.make_space_for-is_packed.new.cells.items
    (insert (get_or c.args.self.now.rows c.args.number []) c.args.place c.args.cell) c.self.inside.extents.items
    c.make_space_for-is_packed.new.extents.items c.args.number c.extent_at.result c.extent_at-2.result c.index-before.result.now
appended_so g c e long =
    let space = c.make_space_for-is_packed.ensures in
    record {
      in_list = e.in_list;
      here = e.here;
      same_rows = space.rows;
      same_lengths = space.lengths;
      within = space.within;
      apart = space.apart;
      start = omega (arith, c.extent_at-2.ensures.start (omega arith), c.len-2.ensures, c.make_space_for-is_packed.new.cells.ok.0);
      size = c.extent_at-2.ensures.length ∙ sym long;
      full = c.extent_at-2.ensures.free;
    }

-- there is space for one cell more
fits_so : (g : Over) (c : After-extent_at g) → c.self.inside.used + 1 ≤ c.self.inside.cell_limit
fits_so g c =
    let is = shown_so g c in
    omega (arith, is.used, is.limit_is, c.self.invariant.0.used_is, c.requires.fits)

pub invariant_of-self : goal.invariant_of-self
invariant_of-self g c =
    let known = c.self.invariant in
    let space = c.make_space_for-is_packed.ensures in
    let kept = c.make_space_for-is_packed.new.extents.items in
    let y = c.extent_at-2.result in
    let d = c.index-before.result.now in
    let at = goal.at.invariant_of-self g c in
    let e = emptied_so g at.After-extent_at in
    let long = long_so g at.After-extent_at in
    let row = row_of g at.After-extent_at in
    let now = appended_so g at.After-count e long in
    let used : c.self.inside.used - d.length + length row ≡ c.self.inside.used + 1 = omega (arith, emptied-said e, long, known.0.used_is) in
    let stored = IsStored-appended now (omega (arith, fits_so g at.After-extent_at, long)) known.0 in
    let count : c.len.result ≡ length c.self.inside.extents.items = omega (arith, c.len.ensures, c.self.inside.extents.ok.0) in
    rw (items_so g at.After-count e) (
      rw used at stored,
      All-set IsPlaced kept c.args.number y c.extent_at-2.ensures.placed space.placed,
      c.clear.ensures.items,
      omega (arith, count-appended now, count, space.capacity, c.append_longer.ensures.capacity),
      omega (arith, count-appended now, count, space.spare_capacity, c.append_longer.ensures.spare_capacity, c.clear.ensures.capacity),
      omega (arith, count-appended now, count, space.space, long, length-append c.make_space_for-is_packed.new.cells.items row),
      omega (arith, count-appended now, known.6),
    )

pub returns : goal.returns
returns g c =
    let at = goal.at.returns g c in
    let i = c.self.inside in
    let e = emptied_so g at.After-extent_at in
    let long = long_so g at.After-extent_at in
    let now = appended_so g at.After-count e long in
    let space = c.make_space_for-is_packed.ensures in
    let count : c.len.result ≡ length i.extents.items = omega (arith, c.len.ensures, i.extents.ok.0) in
    let size : i.cell_limit + i.cell_limit / 4 + c.len.result ≡ cells_reserved (length i.extents.items) i.cell_limit = omega (arith, count) in
    let known = c.self.invariant in
    let longer : size_at c.args.self.now c.args.number < length (row_of g at.After-extent_at) = omega (arith, long, (shown_so g at.After-extent_at).size) in
    record {
      rows = rw (items_so g at.After-count e)
          (state-behind now e c.self.view_is known.0 c.requires.number longer known.5 size (rw (← long) at space.filled));
      moves =
          let moved = moved-behind now e c.self.view_is known.0 c.requires.number longer known.5 size (length c.args.in_use.now) in
          let copied = rw (← long) at space.moves in
          let own = rw (← long) at c.count.ensures in
          subst (λ (n : ℕ). Spends n n c.args.moves.now c.count.new.self) moved (Spends-join copied own);
    }
