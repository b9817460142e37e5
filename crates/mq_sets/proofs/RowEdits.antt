-- Rows that are kept by number: what an edit leaves.
use Rattle.mq_sets.proofs.Common.{ℕ, zero, suc, ◌+◌, ◌-◌, ◌*◌, ◌/◌, ◌<◌, ◌≤◌, ◌≡◌, arith, refl, List, [], ◌∷◌, length, map, set, get_or, ap, ◌∙◌, min, All}
use Rattle.mq_sets.proofs.Common.{cases_eq, cases_lt, le-leb, lt-leb, nat_tests, get_or-replicate, length-replicate, get_or-set_same, get_or-set_other, map-set}
use Rattle.mq_sets.proofs.Common.{length-set, length-map, All-head, All-tail, All-set, sum_by-replicate, sum_by-set, cells_of, rows_of, cells_said, IsWithin}
use Rattle.mq_sets.proofs.Common.{⊎_elim, AreApart, IsStored, PoolState, cells_in, NamesRows, IsPlaced, MovesArePaid, Extent, replicate, if◌then◌else◌}
use Rattle.std.specs.Prelude.{nat_le}
use Rattle.mq_sets.proofs.{Apart.apart-none, Apart.apart-set, PackedRows.none, PackedRows.AreApart-from_pairs, Stored.cells_of-empty, Stored.length-cells_of}

-- rows of no cells
pub IsPlaced-none : (rows : ℕ) → All IsPlaced (replicate rows none)
IsPlaced-none rows k d in_list empty =
    ap (λ (e : Extent). e.start + e.free) (get_or-replicate rows k none d (omega (arith, in_list, length-replicate rows none)))

module _ {T : Type 0} (rows : ℕ) where
  pub IsStored-none : (limit : ℕ) → IsStored {T = T} (replicate rows none) [] 0 limit
  IsStored-none limit = grind (arith, get_or-replicate, length-replicate, AreApart-from_pairs, apart-none, sum_by-replicate)

  pub rows_of-none : rows_of {T = T} [] (replicate rows none) ≡ replicate rows []
  rows_of-none = all rows
    where
      all : (n : ℕ) → map (cells_of {T = T} []) (replicate n none) ≡ replicate n []
      all zero = refl
      all (suc n) = ap (λ (xs : List (List T)). [] ∷ xs) (all n)

-- the rows have the sizes that the extents say
pub sizes-rows_of : {T : Type 0} (cells : List T) (extents : List Extent) → All (IsWithin cells) extents
    → map length (rows_of cells extents) ≡ map (λ (e : Extent). e.length) extents
sizes-rows_of cells [] within = refl
sizes-rows_of cells (e ∷ extents) within =
    rw (length-cells_of cells e (All-head (IsWithin cells) e extents within), sizes-rows_of cells extents (All-tail (IsWithin cells) e extents within)) refl

-- A row whose cells are taken. `d` was its extent, and `empty` is.
pub record IsEmptied (extents : List Extent) (place : ℕ) (d empty : Extent) : Type 0 where
  pub in_list : place < length extents
  pub here : d ≡ get_or extents place d
  pub no_cells : empty.length ≡ 0
  pub at_first : empty.start + empty.free ≡ 0

module _ {extents : List Extent} {place : ℕ} {d empty : Extent} (at : IsEmptied extents place d empty) where
  pub emptied-within : {T : Type 0} (cells : List T) → All (IsWithin cells) extents → All (IsWithin cells) (set extents place empty)
  emptied-within cells within = All-set (IsWithin cells) extents place empty (omega (arith, at.no_cells, at.at_first)) within

  pub emptied-apart : AreApart extents → AreApart (set extents place empty)
  emptied-apart apart = apart-set extents place empty (λ j e h. apart-none empty (get_or extents j e) at.at_first at.no_cells) apart

  pub emptied-placed : All IsPlaced extents → All IsPlaced (set extents place empty)
  emptied-placed placed = All-set IsPlaced extents place empty (λ _. at.at_first) placed

  pub emptied-rows : {T : Type 0} (cells : List T) → rows_of cells (set extents place empty) ≡ set (rows_of cells extents) place []
  emptied-rows cells =
      map-set (cells_of cells) extents place empty ∙ ap (set (rows_of cells extents) place) (cells_of-empty cells empty at.no_cells)

  pub emptied-said : cells_said (set extents place empty) + d.length ≡ cells_said extents
  emptied-said =
      let l : Extent → ℕ = λ e. e.length in
      omega (arith, sum_by-set l extents place empty d at.in_list, ap l at.here, at.no_cells)

  pub emptied-named : (numbers : List ℕ) → NamesRows (map (λ (e : Extent). e.length) extents) numbers
      → NamesRows (map (λ (e : Extent). e.length) (set extents place empty)) numbers
  emptied-named numbers named = grind (arith, map-set, length-map, length-set, get_or-set_same, get_or-set_other, cases_eq)

  pub IsStored-emptied : {T : Type 0} (cells : List T) {used limit : ℕ} → IsStored extents cells used limit
      → IsStored (set extents place empty) cells (used - d.length) limit
  IsStored-emptied cells known = grind (arith, emptied-within, emptied-apart, emptied-said)

-- the rows with other parts
pub with_parts : {T : Type 0} (before : PoolState T) (old rows new : List (List T)) (limit was_ahead ahead left : ℕ)
    → record { rows = old; cell_limit = limit; ahead = was_ahead } ≡ before → rows ≡ new → ahead ≡ left
    → record { rows = rows; cell_limit = limit; ahead = ahead } ≡ record before { rows = new; ahead = left }
with_parts before old rows new limit was_ahead ahead left was same same_ahead =
    rw (same, same_ahead, ap (λ (s : PoolState _). s.cell_limit) was) refl

-- the cells left after the last one, and the moves, once a longer row is written there
module _ (old_size row_size size cells_size ahead others : ℕ) (longer : old_size < row_size) (fits : cells_size ≤ size)
    (ahead_is : ahead ≡ size - cells_size) where
  pub ahead-written : (copied all : ℕ) → copied ≡ (if nat_le (cells_size + row_size) size then cells_size else others) → all ≡ others + row_size
      → size - (copied + row_size) ≡ (if nat_le row_size old_size then ahead else if nat_le row_size ahead then ahead - row_size else size - all)
  ahead-written copied all copied_is all_is = grind (arith, nat_tests)

  pub moved-written : (named all : ℕ) → others + old_size ≡ all
      → (if nat_le (cells_size + row_size) size then 0 else others + named) + row_size
      ≡ (if nat_le row_size old_size then row_size else if nat_le row_size ahead then row_size else row_size + (all - old_size + named))
  moved-written named all all_is = grind (arith, nat_tests)

-- the moves are paid: by numbers alone
paid : (old_size row_size rows limit ahead cells named all : ℕ) → named ≤ rows → cells ≤ limit → all + old_size ≡ cells + row_size → all ≤ limit
    → (if nat_le row_size old_size then row_size else if nat_le row_size ahead then row_size else row_size + (cells - old_size + named))
    + min (4 * (limit / 4 + rows
    - (if nat_le row_size old_size then ahead else if nat_le row_size ahead then ahead - row_size else limit + limit / 4 + rows - all))) (all + named)
    ≤ min (4 * (limit / 4 + rows - ahead)) (cells + named) + 5 * row_size
paid old_size row_size rows limit ahead cells named all few within sums fits = grind (arith, le-leb, lt-leb, cases_lt)

-- and if the row is written where the old one was
paid_over : (own row_size old_size rows limit ahead cells named all : ℕ) → own ≤ row_size → all + old_size ≡ cells + row_size
    → own + min (4 * (limit / 4 + rows - ahead)) (all + named) ≤ min (4 * (limit / 4 + rows - ahead)) (cells + named) + 5 * row_size
paid_over own row_size old_size rows limit ahead cells named all few sums = grind (arith, le-leb, cases_lt)

pub moves-paid : {T : Type 0} → MovesArePaid T
moves-paid state after number row own named moved in_rows own_few few within fits is =
    let more = sum_by-set length state.rows number row [] in_rows in
    let same = length-set state.rows number row in
    let size = length (get_or state.rows number []) in
    let all = cells_in (set state.rows number row) in
    rw (is.rows, is.limit, same) (
    ⊎_elim
    (λ kept.
    rw (kept.0, kept.1)
    (paid_over own (length row) size (length state.rows) state.cell_limit state.ahead (cells_in state.rows) named all own_few (omega (arith, more))))
    (λ behind.
    rw (behind.0, behind.1)
    (paid size (length row) (length state.rows) state.cell_limit state.ahead (cells_in state.rows) named all few within (omega (arith, more))
    (omega (arith, more, fits))))
    is.how)
