use Rattle.mq_sets.proofs.Common.{◌+◌, ◌-◌, refl, ap, ◌∙◌, subst, sym, arith, insert, map-set, slice_set, cells_of, rows_of, IsWithin, Extent}
use Rattle.mq_sets.proofs.{Apart.apart-shorter, Lengthened.item-inserted, Lengthened.length-insert-part, WrittenOver.rows-written}
use Rattle.mq_sets.proofs.extents.insert_over.Goals as goal

-- the extent then
abbrev y_of : Extent → Extent
y_of before = record { start = before.start; length = before.length + 1; free = before.free - 1 }

pub returns-clause-rows : goal.returns-clause-rows
returns-clause-rows g c =
    let before = c.args.before in
    let cells = c.args.cells.now in
    let extents = c.args.extents.now in
    let row = insert (cells_of cells before) c.args.at c.args.cell in
    let inside = subst (IsWithin cells) (sym c.requires.here) (c.requires.within c.args.place before c.requires.place) in
    let size = length-insert-part cells before.start before.length c.args.at c.args.cell c.requires.at (omega (arith, inside)) in
    let same = item-inserted cells c.put_first.new.items before.start before.length c.args.at c.args.cell c.requires.at
    (omega (arith, inside, c.requires.free)) c.put_first.ensures.items in
    ap (λ xs. rows_of xs (slice_set extents c.args.place (y_of before))) same
    ∙ rows-written cells row before (y_of before) refl (sym size) (omega (arith, size, c.requires.free)) inside extents c.args.place c.requires.place
    c.requires.here c.requires.apart

pub returns-clause-apart : goal.returns-clause-apart
returns-clause-apart g c =
    apart-shorter c.args.extents.now c.args.place c.args.before (y_of c.args.before) c.requires.place c.requires.here refl (omega (arith, c.requires.free))
    c.requires.apart

pub returns-clause-lengths : goal.returns-clause-lengths
returns-clause-lengths g c = map-set (λ (e : Extent). e.length) c.args.extents.now c.args.place (y_of c.args.before)
