-- A pool whose row at a number is written anew, behind the last cell.
use Rattle.mq_sets.proofs.Common.{ℕ, ◌+◌, ◌-◌, ◌<◌, ◌≤◌, ◌≡◌, ◌++◌, ◌∙◌, arith, ap, sym, List, [], length, length-append, length-map, length-set, set}
use Rattle.mq_sets.proofs.Common.{if◌then◌else◌, sum_by-set, cells_in, cells_reserved, cells_said, rows_of, size_at, Extent, IsStored, PoolState}
use Rattle.mq_sets.proofs.RowEdits.{IsEmptied, emptied-said, with_parts, ahead-written, moved-written}
use Rattle.mq_sets.proofs.Stored.{IsAppended, rows_of-appended, shows}
use Rattle.mq_sets.specs.Pools.{moved_for, with_row}
use Rattle.std.specs.Prelude.{nat_le}

-- as many extents as before
pub count-appended : {T : Type 0} {cells copied row : List T} {extents kept : List Extent} {place : ℕ} {none y d : Extent}
    → IsAppended cells copied row extents kept place none y d → length (set kept place y) ≡ length extents
count-appended {extents = extents} {kept = kept} {place = place} {none = none} {y = y} at =
    let l : Extent → ℕ = λ e. e.length in
    length-set kept place y ∙ sym (length-map kept l) ∙ ap length at.same_lengths ∙ length-map (set extents place none) l ∙ length-set extents place none

module _ {T : Type 0} {was : PoolState T} {cells copied row : List T} {extents kept : List Extent} {number : ℕ} {none y d : Extent} {limit size used : ℕ}
    (at : IsAppended cells copied row extents kept number none y d) (empty : IsEmptied extents number d none)
    (view : record { rows = rows_of cells extents; cell_limit = limit; ahead = cells_reserved (length extents) limit - length cells } ≡ was)
    (stored : IsStored extents cells used limit) (in_rows : number < length was.rows) (longer : size_at was number < length row)
    (within : length cells ≤ cells_reserved (length extents) limit) (size_is : size ≡ cells_reserved (length extents) limit) where
  abbrev pub others : ℕ
  others = cells_said (set extents number none)

  pub state-behind : length copied ≡ (if nat_le (length cells + length row) size then length cells else others)
      → record {
        rows = rows_of (copied ++ row) (set kept number y);
        cell_limit = limit;
        ahead = cells_reserved (length (set kept number y)) limit - length (copied ++ row);
      } ≡ with_row was number row
  state-behind filled =
      let is = shows cells extents number d view stored in_rows empty.here in
      let more = sum_by-set length was.rows number row [] in_rows in
      let all : size ≡ cells_reserved (length was.rows) was.cell_limit = omega (arith, size_is, is.count, is.limit_is) in
      let left : cells_reserved (length (set kept number y)) limit - length (copied ++ row)
      ≡ cells_reserved (length was.rows) was.cell_limit - (length copied + length row) =
      omega (arith, count-appended at, is.count, is.limit_is, length-append copied row) in
      let ahead = ahead-written (size_at was number) (length row) (cells_reserved (length was.rows) was.cell_limit) (length cells) was.ahead others longer
      (omega (arith, within, is.count, is.limit_is)) (omega (arith, is.ahead_is, is.count, is.limit_is)) (length copied) (cells_in (set was.rows number row))
      (rw all at filled) (omega (arith, more, is.used, is.size, emptied-said empty)) in
      with_parts was _ _ _ _ _ _ _ view (rows_of-appended at ∙ ap (λ (s : PoolState T). set s.rows number row) view) (left ∙ ahead)

  pub moved-behind : (named : ℕ) → (if nat_le (length cells + length row) size then 0 else others + named) + length row ≡ moved_for was number row named
  moved-behind named =
      let is = shows cells extents number d view stored in_rows empty.here in
      moved-written (size_at was number) (length row) size (length cells) was.ahead others longer (omega (arith, within, size_is))
      (omega (arith, is.ahead_is, size_is)) named (cells_in was.rows) (omega (arith, is.used, is.size, emptied-said empty))
