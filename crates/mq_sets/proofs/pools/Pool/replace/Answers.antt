use Rattle.mq_sets.proofs.Common.{ℕ, ◌≡◌, sym, ◌<◌, ◌≤◌, arith, ap, ◌∙◌, length, map, set, ⊎_elim, cases_lt, false≢true, eq-eqb, length-map, length-set, Extent}
use Rattle.mq_sets.proofs.Common.{common_steps, inl, refl, PoolState}
use Rattle.mq_sets.proofs.Stored.{IsStored-over, shows, whole_again}
use Rattle.mq_sets.proofs.pools.Pool.replace.Goals as goal

pub invariant_of-self : goal.invariant_of-self
invariant_of-self g c =
    let l : Extent → ℕ = λ e. e.length in
    let over = c.write_over.ensures in
    let cells = c.self.inside.cells.items in
    let extents = c.self.inside.extents.items in
    let row = c.args.row.now in
    let known = c.self.invariant in
    let stored = known.0 in
    let here = c.index-before.ensures in
    let some : 0 < length row = ⊎_elim (λ (some : 0 < length row). some)
    (λ (none : length row ≤ 0). absurd (false≢true (sym c.if-is_empty.false ∙ c.is_empty.ensures ∙ eq-eqb (length row) 0 (omega (arith, none)))))
    (cases_lt 0 (length row)) in
    let is = shows cells extents c.args.number _ c.self.view_is stored c.requires.number here in
    let lengths = over.lengths ∙ ap (λ (es : _). set (map l es) c.args.number (length row)) c.deref_mut.ensures.value in
    let placed = rw c.deref_mut.ensures.value at over.placed in
    let kept_cells : length c.write_over.new.cells ≡ length cells = over.len ∙ ap length c.deref_mut-then-row-before.ensures.value in
    let kept_rows : length c.write_over.new.extents ≡ length extents = sym (length-map c.write_over.new.extents l) ∙ ap length lengths ∙
    length-set (map l extents) c.args.number (length row) ∙ length-map extents l in
    let all_rows = whole_again extents c.write_over.new.extents c.self.inside.extents.len kept_rows (omega (arith, c.self.inside.extents.ok.0)) in
    let all_cells = whole_again cells c.write_over.new.cells c.self.inside.cells.len kept_cells (omega (arith, c.self.inside.cells.ok.0)) in
    rw (all_rows, all_cells) (
      IsStored-over cells c.write_over.new.cells (length row) extents c.write_over.new.extents c.args.number _ is.in_list here over.within over.apart
          lengths (omega (arith, is.used, is.limit_is, is.size, stored.used_is, c.requires.fits)) stored,
      placed some known.1,
      known.2,
      omega (arith, kept_rows, known.3),
      omega (arith, kept_rows, known.4),
      omega (arith, kept_rows, kept_cells, known.5),
      omega (arith, kept_rows, known.6),
    )

pub write_over-requires-clause-place : goal.write_over-requires-clause-place
write_over-requires-clause-place g c = grind (arith, common_steps)

pub write_behind-requires-clause-longer : goal.write_behind-requires-clause-longer
write_behind-requires-clause-longer g c = grind (arith, common_steps)

pub overflow_sub-self : goal.overflow_sub-self
overflow_sub-self g c = grind (arith, common_steps)

pub returns-then-row-before : goal.returns-then-row-before
returns-then-row-before g c =
    let was = ap (λ (s : PoolState _). set s.rows c.args.number c.args.row.now) c.self.view_is in (
      length c.args.row.now,
      record {
        rows = grind (arith, common_steps);
        limit = ap (λ (s : PoolState _). s.cell_limit) c.self.view_is;
        how = inl (grind (arith, common_steps), refl);
      },
      grind (arith, common_steps),
    )
