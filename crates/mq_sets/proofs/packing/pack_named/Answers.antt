use Rattle.mq_sets.proofs.Common.{◌+◌, ◌-◌, ◌<◌, ◌≡◌, arith, rules, get_or, length, take, get_or_default, length-map, take_more, take_all, Spends-join}
use Rattle.mq_sets.proofs.Common.{cells_said, Extent, common_steps}
use Rattle.mq_sets.proofs.PackedRows.{none, IsNext, IsNext-named, IsPackedBy-more, packed-rows, packed-within, packed-apart, named-all}
use Rattle.mq_sets.proofs.packing.pack_named.Given.{Over}
use Rattle.mq_sets.proofs.packing.pack_named.Goals as goal
use Rattle.mq_sets.proofs.packing.pack_named.Goals.{In-loop-number}

-- the number that comes next is in the list
counted : (g : Over) (c : In-loop-number g) → c.loop-number.number-index < length c.args.numbers.now
counted g c = omega arith

-- the row of the number that comes next
next : (g : Over) (c : In-loop-number g) → IsNext c.args.cells.now c.loop-number.packed.items c.args.extents.now
    (take c.loop-number.number-index c.args.numbers.now) (get_or c.args.numbers.now c.loop-number.number-index 0)
    (get_or c.loop-number.extents (get_or c.args.numbers.now c.loop-number.number-index 0) none)
next g c =
    let numbers = c.args.numbers.now in
    let k = c.loop-number.number-index in
    let x = get_or numbers k 0 in
    let extents = c.loop-number.extents in
    let known = c.loop-number.invariant.packed in
    let below : x < length extents =
    omega (arith, c.requires.named.within k 0 (counted g c), known.size, length-map c.args.extents.now (λ (z : Extent). z.length)) in
    IsNext-named c.args.cells.now c.loop-number.packed.items c.args.extents.now extents numbers k x (get_or extents x none) (counted g c)
    (get_or_default numbers k 0 x (counted g c)) (get_or_default extents x none (get_or extents x none) below) c.requires.within c.requires.named known

pub offset_bounds-cells-first : goal.offset_bounds-cells-first
offset_bounds-cells-first g c = let next = next g (goal.at.offset_bounds-cells-first g c).In-loop-number in omega (arith, next.inside)

pub slice_bounds-row-end : goal.slice_bounds-row-end
slice_bounds-row-end g c = let inside = (next g (goal.at.slice_bounds-row-end g c).In-loop-number).inside in search rules

pub unwrap-requires : goal.unwrap-requires
unwrap-requires g c =
    let next = next g (goal.at.unwrap-requires g c).In-loop-number in
    c.extend_from_slice.ensures.succeeds (omega (arith, next.fits, next.inside, c.loop-number.invariant.capacity, c.loop-number.packed.ok.0))

pub extent_at-requires-clause-start : goal.extent_at-requires-clause-start
extent_at-requires-clause-start g c =
    let next = next g (goal.at.extent_at-requires-clause-start g c).In-loop-number in
    omega (arith, next.fits, c.len-start.ensures, c.loop-number.packed.ok.0)

pub bounds-extents-place : goal.bounds-extents-place
bounds-extents-place g c =
    let next = next g (goal.at.bounds-extents-place g c).In-loop-number in omega (arith, next.in_list, c.loop-number.auto.extents)

pub loop-number-preserved : goal.loop-number-preserved
loop-number-preserved g c =
    let k = c.loop-number.number-index in
    let numbers = c.args.numbers.now in
    let x = get_or numbers k 0 in
    let in_list : k < length numbers = omega arith in
    let next = next g (goal.at.loop-number-preserved g c).In-loop-number in
    let e = get_or c.loop-number.extents x none in
    let below : x < length c.loop-number.extents = omega (arith, next.in_list, c.loop-number.auto.extents) in
    let items = rw c.unwrap.ensures at c.extend_from_slice.ensures.items in
    let span : (e.start + e.length) - e.start ≡ e.length = omega arith in
    let y = c.extent_at.result in
    let size : y.length ≡ e.length = omega (arith, c.extent_at.ensures.length) in
    record {
      packed =
          rw (items, span, take_more numbers k 0 in_list)
          (IsPackedBy-more c.args.cells.now c.args.extents.now c.loop-number.packed.items c.loop-number.extents
          (take k numbers) x e y next.in_list next.absent (get_or_default c.loop-number.extents x none e below) c.requires.within size
          c.extent_at.ensures.free
          (λ some. omega (arith, c.extent_at.ensures.start (omega (arith, some, size)), c.len-start.ensures, c.loop-number.packed.ok.0))
          c.extent_at.ensures.placed c.loop-number.invariant.packed);
      capacity = omega (arith, c.extend_from_slice.ensures.capacity, c.loop-number.invariant.capacity);
    }

pub returns : goal.returns
returns g c =
    let numbers = c.args.numbers.now in
    let k = c.loop-number.number-index in
    let known = rw (take_all k numbers (omega arith)) at c.loop-number.invariant.packed in
    record {
      rows = packed-rows c.args.cells.now c.args.extents.now c.loop-number.packed.items c.loop-number.extents numbers c.requires.within c.requires.named known;
      within = packed-within c.args.cells.now c.args.extents.now c.loop-number.packed.items c.loop-number.extents numbers c.requires.within
          c.requires.named known;
      apart = packed-apart c.args.cells.now c.args.extents.now c.loop-number.packed.items c.loop-number.extents numbers c.requires.within
          c.requires.named known;
      filled = omega (arith, known.filled, named-all c.args.cells.now c.args.extents.now numbers c.requires.named);
      moves =
          let all = named-all c.args.cells.now c.args.extents.now numbers c.requires.named in
          let size : c.len.result ≡ cells_said c.args.extents.now = omega (arith, known.filled, all, c.len.ensures, c.loop-number.packed.ok.0) in
          let first = rw size at c.count.ensures in
          Spends-join first c.count-2.ensures;
      placed = search rules;
      lengths = search rules;
      capacity = search rules;
    }

pub slice_copy_out-extent : goal.slice_copy_out-extent
slice_copy_out-extent g c = grind (arith, common_steps)
