-- Items that keep their cells, and the order of the cells.
use Rattle.std.specs.Prelude.{ℕ, ◌+◌, ◌≡◌, ◌<◌, ◌≤◌, ◌==◌, List, length, take, drop}
use Rattle.std.specs.List.{All, count_by, flat_map}

-- the item in a cell, as a list of one, or an empty list without the cell
abbrev pub item_in : {T : Type 0} → List T → ℕ → List T
item_in cells cell = take 1 (drop cell cells)

-- the items in these cells, in order
abbrev pub items_in : {T : Type 0} → List T → List ℕ → List T
items_in cells order = flat_map (item_in cells) order

-- the number of times that a cell stands in a list
abbrev pub times : ℕ → List ℕ → ℕ
times cell cells = count_by (λ other. other == cell) cells

-- a cell of the list
abbrev pub IsCell : {T : Type 0} → List T → ℕ → Type 0
IsCell cells cell = cell < length cells

-- each cell has one place in the order, or is free, and none is there twice
pub record AreSlots {T : Type 0} (cells : List T) (order free : List ℕ) : Type 0 where
  pub within : All (IsCell cells) order
  pub free_within : All (IsCell cells) free
  pub once : (cell : ℕ) → times cell order + times cell free ≤ 1
  pub each : length order + length free ≡ length cells
