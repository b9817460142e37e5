-- Rows of cells by number: their state, the moves of their edits, and their places in one list of cells.
use Rattle.std.specs.Prelude.{ℕ, ◌+◌, ◌-◌, ◌*◌, min, ◌/◌, ◌<◌, ◌≤◌, ◌≡◌, ◌⊎◌, if◌then◌else◌, List, [], ◌∷◌, length, map, take, drop, slice_index, slice_index_or, slice_set, nat_le}
use Rattle.std.specs.List.{All, sum_by}
use Rattle.mq_sets.specs.Slots.{times}
use Rattle.mq_sets.specs.declared.extents.Extent.{Extent}

-- A pool, as a contract sees it: the row of each number, and two numbers of cells. `cell_limit` is the most that the
-- rows have together. `ahead` is the number that fits after the last cell before the rows are packed.
pub record PoolState (T : Type 0) : Type 0 where
  pub rows : List (List T)
  pub cell_limit : ℕ
  pub ahead : ℕ

-- the number of cells of these rows
abbrev pub cells_in : {T : Type 0} → List (List T) → ℕ
cells_in rows = sum_by length rows

-- the cells reserved in each of the two lists, for rows that may have this many cells together
abbrev pub cells_reserved : ℕ → ℕ → ℕ
cells_reserved rows cells = cells + cells / 4 + rows

-- the list names each row that has cells, and none twice; `sizes` has the number of cells of each row
pub record NamesRows (sizes : List ℕ) (numbers : List ℕ) : Type 0 where
  pub within : All (λ number. number < length sizes) numbers
  pub once : (number : ℕ) → times number numbers ≤ 1
  pub each : (number : ℕ) → 0 < slice_index sizes number → 1 ≤ times number numbers

-- the number of cells of the row of a number
abbrev pub size_at : {T : Type 0} → PoolState T → ℕ → ℕ
size_at state number = length (slice_index_or state.rows number [])

-- The cells that fit after the last one once a row is replaced. They are as many as before if the new row is no longer
-- than the old one, and fewer by the row if it is written at the end. If the rows are packed for it, they are all cells
-- that no row has.
abbrev pub ahead_after : {T : Type 0} → PoolState T → ℕ → List T → ℕ
ahead_after state number row =
    if nat_le (length row) (size_at state number) then state.ahead
    else if nat_le (length row) state.ahead then state.ahead - length row
    else cells_reserved (length state.rows) state.cell_limit - cells_in (slice_set state.rows number row)

-- The moves of a replacement: the cells written, and the rows looked at. They are the row's own cells. If the rows are
-- packed, they are also the cells of the other rows, and each named row.
abbrev pub moved_for : {T : Type 0} → PoolState T → ℕ → List T → ℕ → ℕ
moved_for state number row named =
    if nat_le (length row) (size_at state number) then length row
    else if nat_le (length row) state.ahead then length row
    else length row + (cells_in state.rows - size_at state number + named)

-- the pool after one row is replaced, if it isn't written into free cells
abbrev pub with_row : {T : Type 0} → PoolState T → ℕ → List T → PoolState T
with_row state number row = record { rows = slice_set state.rows number row; cell_limit = state.cell_limit; ahead = ahead_after state number row }

-- A row is replaced, with this number of moves. `own` is the number of cells that are written if the row stays where it
-- is. A row that is longer than the old one also stays there if the old one has enough free cells.
pub record IsReplaced {T : Type 0} (state : PoolState T) (number : ℕ) (row : List T) (own named : ℕ) (after : PoolState T) (moved : ℕ) : Type 0 where
  pub rows : after.rows ≡ slice_set state.rows number row
  pub limit : after.cell_limit ≡ state.cell_limit
  pub how : ((after.ahead ≡ state.ahead) × (moved ≡ own)) ⊎ ((after.ahead ≡ ahead_after state number row) × (moved ≡ moved_for state number row named))

-- The moves in reserve for the next packing, if `named` rows are named. They are 4 for each cell written at the end
-- since the last packing, and at most what packing moves.
abbrev pub put_by : {T : Type 0} → PoolState T → ℕ → ℕ
put_by state named = let slack = state.cell_limit / 4 + length state.rows in
    min (4 * (slack - state.ahead)) (cells_in state.rows + named)

-- Each replaced row pays for its moves, with 5 for each of its cells and the reserve. So many replacements together
-- move at most 5 for each of their cells, and the reserve before them. That reserve is at most the cells and named rows
-- of that time.
abbrev pub MovesArePaid : Type 0 → Type 0
MovesArePaid T = (state after : PoolState T) (number : ℕ) (row : List T) (own named moved : ℕ) → number < length state.rows → own ≤ length row → named ≤ length state.rows → cells_in state.rows ≤ state.cell_limit → cells_in state.rows + length row ≤ state.cell_limit + size_at state number
    → IsReplaced state number row own named after moved → moved + put_by after named ≤ put_by state named + 5 * length row

-- the cells of an extent
abbrev pub cells_of : {T : Type 0} → List T → Extent → List T
cells_of cells extent = take extent.length (drop extent.start cells)

-- the rows of these extents
abbrev pub rows_of : {T : Type 0} → List T → List Extent → List (List T)
rows_of cells extents = map (cells_of cells) extents

-- a row and its free cells lie within the cells
abbrev pub IsWithin : {T : Type 0} → List T → Extent → Type 0
IsWithin cells extent = extent.start + extent.length + extent.free ≤ length cells

-- the number of cells of these extents
abbrev pub cells_said : List Extent → ℕ
cells_said extents = sum_by (λ extent. extent.length) extents

-- a row without cells begins at the first cell, and has no free cells
abbrev pub IsPlaced : Extent → Type 0
IsPlaced extent = extent.length ≡ 0 → extent.start + extent.free ≡ 0

-- two rows have no cell in common, with their free cells
abbrev pub IsApart : Extent → Extent → Type 0
IsApart a b = (a.start + a.length + a.free ≤ b.start) ⊎ (b.start + b.length + b.free ≤ a.start)

-- no two of these rows have a cell in common
abbrev pub AreApart : List Extent → Type 0
AreApart [] = Unit {0}
AreApart (e ∷ extents) = All (IsApart e) extents × AreApart extents

-- each row lies within the cells, no two have a cell in common, and the limit is kept
pub record IsStored {T : Type 0} (extents : List Extent) (cells : List T) (used cell_limit : ℕ) : Type 0 where
  pub within : All (IsWithin cells) extents
  pub apart : AreApart extents
  pub used_is : used ≡ cells_said extents
  pub cells_fit : used ≤ cell_limit
