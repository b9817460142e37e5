use Rattle.mq_sets.proofs.Common.{ℕ, ◌+◌, ◌-◌, ◌≡◌, sym, arith, ap, ◌∙◌, subst, inl, length, map, set, get_or, [], insert, get_or-map, length-map, length-set}
use Rattle.mq_sets.proofs.Common.{cells_of, get_or-le-sum_by, common_steps, Extent, IsStored, PoolState}
use Rattle.mq_sets.proofs.Stored.{IsStored-over, shows, whole_again}
use Rattle.mq_sets.proofs.pools.Pool.insert.Goals as goal

pub invariant_of-self : goal.invariant_of-self
invariant_of-self g c =
    let l : Extent → ℕ = λ e. e.length in
    let over = c.insert_over.ensures in
    let cells = c.self.inside.cells.items in
    let extents = c.self.inside.extents.items in
    let d = c.index-before.result.now in
    let known = c.self.invariant in
    let stored = known.0 in
    let here = c.index-before.ensures in
    let is = shows cells extents c.args.number _ c.self.view_is stored c.requires.number here in
    let lengths = over.lengths ∙ ap (λ (es : _). set (map l es) c.args.number (d.length + 1)) c.deref_mut.ensures.value in
    let placed = rw c.deref_mut.ensures.value at over.placed in
    let kept_cells : length c.insert_over.new.cells ≡ length cells = over.len ∙ ap length c.deref_mut-then-before-gt0.ensures.value in
    let kept_rows : length c.insert_over.new.extents ≡ length extents = sym (length-map c.insert_over.new.extents l) ∙ ap length lengths ∙
    length-set (map l extents) c.args.number (d.length + 1) ∙ length-map extents l in
    let all_rows = whole_again extents c.insert_over.new.extents c.self.inside.extents.len kept_rows (omega (arith, c.self.inside.extents.ok.0)) in
    let all_cells = whole_again cells c.insert_over.new.cells c.self.inside.cells.len kept_cells (omega (arith, c.self.inside.cells.ok.0)) in
    let part = get_or-le-sum_by l extents c.args.number d is.in_list in
    let size_then = ap l here in
    let used : c.self.inside.used - d.length + (d.length + 1) ≡ c.self.inside.used + 1 = omega (arith, part, size_then, stored.used_is) in
    rw (all_rows, all_cells) (
      subst (λ n. IsStored c.insert_over.new.extents c.insert_over.new.cells n c.self.inside.cell_limit) used
          (IsStored-over cells c.insert_over.new.cells (d.length + 1) extents c.insert_over.new.extents c.args.number d is.in_list here over.within over.apart
          lengths (omega (arith, is.used, is.limit_is, is.size, stored.used_is, c.requires.fits)) stored),
      placed known.1,
      c.insert_over.ensures.empty,
      omega (arith, kept_rows, known.3),
      omega (arith, kept_rows, known.4, c.insert_over.ensures.capacity),
      omega (arith, kept_rows, kept_cells, known.5),
      omega (arith, kept_rows, known.6),
    )

pub returns-then-before-gt0 : goal.returns-then-before-gt0
returns-then-before-gt0 g c =
    let cells = c.self.inside.cells.items in
    let extents = c.self.inside.extents.items in
    let number = c.args.number in
    let d = c.index-before.result.now in
    let is = shows cells extents number _ c.self.view_is c.self.invariant.0 c.requires.number c.index-before.ensures in
    let own = get_or-map (cells_of cells) extents number d [] is.in_list ∙ ap (cells_of cells) (sym c.index-before.ensures) in
    let was = ap (λ (s : PoolState _). set s.rows number (insert (get_or s.rows number []) c.args.place c.args.cell)) c.self.view_is in (
      d.length - c.args.place + 1,
      record {
        rows = grind (arith, common_steps);
        limit = ap (λ (s : PoolState _). s.cell_limit) c.self.view_is;
        how = inl (grind (arith, common_steps), omega (arith, is.size));
      },
      c.count.ensures,
    )
