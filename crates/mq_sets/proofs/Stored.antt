-- Rows in a list of cells: what an append, an edit of the rows and a copy leave.
use Rattle.mq_sets.proofs.Common.{ℕ, suc, ◌+◌, ◌-◌, ◌<◌, ◌≤◌, ◌≡◌, arith, refl, List, [], ◌∷◌, ◌++◌, length, map, take, drop, set, get_or, sym, ap, ◌∙◌, subst}
use Rattle.mq_sets.proofs.Common.{length-append, length-take, length-drop, All, sum_by, insert, remove, append-nil, drop_all, drop-append-le, take-append-le}
use Rattle.mq_sets.proofs.Common.{drop_at, take_all, map-append, take-map, drop-map, get_or-map, length-map, map-set, set-set, All-head, All-tail, All-weaker}
use Rattle.mq_sets.proofs.Common.{All-set, sum_by-cons, sum_by-set, get_or-le-sum_by, sum-map, PoolState, cells_of, rows_of, IsWithin, AreApart, cells_in}
use Rattle.mq_sets.proofs.Common.{cells_said, IsStored, Extent}
use Rattle.mq_sets.proofs.Apart.{apart-set, apart-behind}

module _ {T : Type 0} where
  -- a row that lies within the cells is the same when cells are appended
  pub cells_of-append : (cells more : List T) (e : Extent) → e.start + e.length ≤ length cells → cells_of (cells ++ more) e ≡ cells_of cells e
  cells_of-append cells more e within = grind (arith, length-drop, drop-append-le, take-append-le)

  pub rows_of-append : (cells more : List T) (extents : List Extent) → All (IsWithin cells) extents → rows_of (cells ++ more) extents ≡ rows_of cells extents
  rows_of-append cells more [] within = refl
  rows_of-append cells more (e ∷ extents) within =
      let rest = rows_of-append cells more extents (All-tail (IsWithin cells) e extents within) in
      let here = All-head (IsWithin cells) e extents within in
      rw (cells_of-append cells more e (omega (arith, here)), rest) refl

  -- and still lies within them
  pub IsWithin-append : (cells more : List T) (extents : List Extent) → All (IsWithin cells) extents → All (IsWithin (cells ++ more)) extents
  IsWithin-append cells more extents within =
      All-weaker (IsWithin cells) (IsWithin (cells ++ more)) (λ e h. omega (arith, length-append cells more)) extents within

  -- a row that is appended stands at the end
  pub cells_of-end : (cells row : List T) (e : Extent) → e.start ≡ length cells → e.length ≡ length row → cells_of (cells ++ row) e ≡ row
  cells_of-end cells row e start size =
      rw (drop_at cells row e.start (sym start)) (take_all e.length row (omega arith))

  -- a row has as many cells as its extent says
  pub length-cells_of : (cells : List T) (e : Extent) → IsWithin cells e → length (cells_of cells e) ≡ e.length
  length-cells_of cells e within =
      omega (arith, length-take e.length (drop e.start cells), length-drop e.start cells)

  pub cells_in-rows_of : (cells : List T) (extents : List Extent) → All (IsWithin cells) extents → cells_in (rows_of cells extents) ≡ cells_said extents
  cells_in-rows_of cells [] within = refl
  cells_in-rows_of cells (e ∷ extents) within =
      let first = length-cells_of cells e (All-head (IsWithin cells) e extents within) in
      let rest = cells_in-rows_of cells extents (All-tail (IsWithin cells) e extents within) in
      omega (arith, first, rest, sum_by-cons length (cells_of cells e) (rows_of cells extents), sum_by-cons (λ (x : Extent). x.length) e extents)

  -- a row of no cells
  pub cells_of-empty : (cells : List T) (e : Extent) → e.length ≡ 0 → cells_of cells e ≡ []
  cells_of-empty cells e none = rw none refl

-- a map over a list with one element more, or one less
pub map-insert : {X Y : Type 0} (f : X → Y) (xs : List X) (i : ℕ) (x : X) → map f (insert xs i x) ≡ insert (map f xs) i (f x)
map-insert f xs i x = rw (map-append f (take i xs) (x ∷ drop i xs), take-map f i xs, drop-map f i xs) refl

pub map-remove : {X Y : Type 0} (f : X → Y) (xs : List X) (i : ℕ) → map f (remove xs i) ≡ remove (map f xs) i
map-remove f xs i = rw (map-append f (take i xs) (drop (suc i) xs), take-map f i xs, drop-map f (suc i) xs) refl

-- a statement about lengths depends on the lengths alone
pub cells_said-by_lengths : (xs ys : List Extent) → map (λ (e : Extent). e.length) xs ≡ map (λ (e : Extent). e.length) ys → cells_said xs ≡ cells_said ys
cells_said-by_lengths xs ys same =
    sym (sum-map (λ (e : Extent). e.length) xs) ∙ ap (sum_by (λ (n : ℕ). n)) same ∙ sum-map (λ (e : Extent). e.length) ys

-- A row is written anew behind the last cell, at the extent `y`. It was emptied before, and the cells of the others were copied.
pub record IsAppended {T : Type 0} (cells copied row : List T) (extents kept : List Extent) (place : ℕ) (none y d : Extent) : Type 0 where
  pub in_list : place < length extents
  pub here : d ≡ get_or extents place d
  pub same_rows : rows_of copied kept ≡ rows_of cells (set extents place none)
  pub same_lengths : map (λ (e : Extent). e.length) kept ≡ map (λ (e : Extent). e.length) (set extents place none)
  pub within : All (IsWithin copied) kept
  pub apart : AreApart kept
  pub start : y.start ≡ length copied
  pub size : y.length ≡ length row
  pub full : y.free ≡ 0

module _ {T : Type 0} {cells copied row : List T} {extents kept : List Extent} {place : ℕ} {none y d : Extent}
    (at : IsAppended cells copied row extents kept place none y d) where
  pub rows_of-appended : rows_of (copied ++ row) (set kept place y) ≡ set (rows_of cells extents) place row
  rows_of-appended =
      rw (map-set (cells_of (copied ++ row)) kept place y, rows_of-append copied row kept at.within, cells_of-end copied row y at.start at.size, at.same_rows)
      (rw (map-set (cells_of cells) extents place none) (set-set (rows_of cells extents) place (cells_of cells none) row))

  lengths_after : map (λ (e : Extent). e.length) (set kept place y) ≡ map (λ (e : Extent). e.length) (set extents place y)
  lengths_after = grind (arith, map-set, set-set, at.same_lengths)

  pub IsStored-appended : {used cells_limit : ℕ} → used + length row ≤ cells_limit + d.length → IsStored extents cells used cells_limit
      → IsStored (set kept place y) (copied ++ row) (used - d.length + length row) cells_limit
  IsStored-appended fits known =
      let l = λ (e : Extent). e.length in
      let said = cells_said-by_lengths (set kept place y) (set extents place y) lengths_after in
      let part = get_or-le-sum_by l extents place d at.in_list in
      let size_then = ap l at.here in
      record {
        within = All-set (IsWithin (copied ++ row)) kept place y (omega (arith, length-append copied row)) (IsWithin-append copied row kept at.within);
        apart = apart-set kept place y (apart-behind copied kept y at.start at.within) at.apart;
        used_is = omega (arith, said, part, sum_by-set l extents place y d at.in_list, known.used_is);
        cells_fit = omega (arith, part, known.used_is);
      }

-- the row at a place has as many cells as its extent says
pub length-row : {T : Type 0} (cells : List T) (extents : List Extent) (place : ℕ) (d : Extent) → place < length extents → d ≡ get_or extents place d
    → All (IsWithin cells) extents → length (get_or (rows_of cells extents) place []) ≡ d.length
length-row cells extents place d in_list here within =
    rw (get_or-map (cells_of cells) extents place d [] in_list, ← here) (length-cells_of cells d (subst (IsWithin cells) (sym here) (within place d in_list)))

-- the extents of a pool's state, and the extent at a place
pub record Shows {T : Type 0} (state : PoolState T) (extents : List Extent) (limit ahead place : ℕ) (d : Extent) : Type 0 where
  pub count : length state.rows ≡ length extents
  pub in_list : place < length extents
  pub limit_is : state.cell_limit ≡ limit
  pub ahead_is : state.ahead ≡ ahead
  pub used : cells_in state.rows ≡ cells_said extents
  pub size : length (get_or state.rows place []) ≡ d.length

pub shows : {T : Type 0} (cells : List T) (extents : List Extent) (place : ℕ) (d : Extent) {used limit cell_limit ahead : ℕ} {state : PoolState T}
    → ◌≡◌ {A = PoolState T} (record { rows = rows_of cells extents; cell_limit = cell_limit; ahead = ahead }) state
    → IsStored extents cells used limit → place < length state.rows → d ≡ get_or extents place d → Shows state extents cell_limit ahead place d
shows cells extents place d is stored in_rows here = grind (arith, length-map, cells_in-rows_of, length-row)

-- a row that is written over the front of the one at its place
pub IsStored-over : {T : Type 0} (cells written : List T) (row_length : ℕ) (extents kept : List Extent) (place : ℕ) (d : Extent) {used cells_limit : ℕ}
    → place < length extents → d ≡ get_or extents place d
    → All (IsWithin written) kept → AreApart kept → map (λ (e : Extent). e.length) kept ≡ set (map (λ (e : Extent). e.length) extents) place row_length
    → used + row_length ≤ cells_limit + d.length → IsStored extents cells used cells_limit → IsStored kept written (used - d.length + row_length) cells_limit
IsStored-over cells written row_length extents kept place d in_list here within apart lengths fits known =
    let l = λ (e : Extent). e.length in
    let y : Extent = record { start = d.start; length = row_length; free = 0 } in
    let said = cells_said-by_lengths kept (set extents place y) (lengths ∙ sym (map-set l extents place y)) in
    let part = get_or-le-sum_by l extents place d in_list in
    let size_then = ap l here in
    record {
      within = within;
      apart = apart;
      used_is = omega (arith, said, part, sum_by-set l extents place y d in_list, size_then, known.used_is);
      cells_fit = omega (arith, part, size_then, fits, known.used_is);
    }

-- a whole list that is given and returned with its length
pub whole_again : {X : Type 0} (xs new : List X) (size : ℕ) → length new ≡ length xs → size ≡ length xs → take size (new ++ drop (length new) xs) ≡ new
whole_again xs new size same is =
    ap (take size) (ap (λ ys. new ++ ys) (drop_all (length new) xs (omega (arith, same))) ∙ append-nil new) ∙ take_all size new (omega (arith, same, is))
