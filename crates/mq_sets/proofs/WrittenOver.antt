-- A write over the front of a row that has no cell in common with another.
use Rattle.mq_sets.proofs.Common.{◌≡◌, ℕ, zero, suc, ◌+◌, ◌-◌, ◌<◌, ◌≤◌, List, [], ◌∷◌, ◌++◌, length, take, drop, set, get_or, refl, sym, ap, ◌∙◌, subst, arith}
use Rattle.mq_sets.proofs.Common.{inl, inr, append_assoc, length-append, length-take, All, splice, drop-append-add, drop-drop, take-append-drop, All-head}
use Rattle.mq_sets.proofs.Common.{All-tail, cells_of, rows_of, IsWithin, IsApart, AreApart, Extent}
use Rattle.mq_sets.proofs.{Apart.apart-turned, Stored.cells_of-append, Stored.cells_of-end}

module _ {T : Type 0} (cells row : List T) (e y : Extent) (start : y.start ≡ e.start) (size : y.length ≡ length row) (fits : length row ≤ e.length + e.free)
    (inside : IsWithin cells e) where
  abbrev pub written : List T
  written = splice cells e.start (e.start + length row) row

  abbrev pub front : List T
  front = take e.start cells

  front_length : length front ≡ e.start
  front_length = let n = length-take e.start cells in omega (arith, n, inside)

  in_parts : (front ++ row) ++ drop (e.start + length row) cells ≡ written
  in_parts = append_assoc front row (drop (e.start + length row) cells)

  -- the row itself
  pub written-here : cells_of written y ≡ row
  written-here = grind (arith, front_length, length-append, in_parts, cells_of-append, cells_of-end)

  -- a row that has no cell in common with it
  written-apart : (x : Extent) → IsApart e x → cells_of written x ≡ cells_of cells x
  written-apart x (inr before) =
      let n = front_length in
      let in_front : x.start + x.length ≤ length front = omega (arith, n, before) in
      cells_of-append front (row ++ drop (e.start + length row) cells) x in_front
      ∙ sym (ap (λ xs. cells_of xs x) (sym (take-append-drop e.start cells)) ∙ cells_of-append front (drop e.start cells) x in_front)
  written-apart x (inl behind) =
      let n = front_length in
      let both = length-append front row in
      let far = x.start - (e.start + length row) in
      let there : x.start ≡ length (front ++ row) + far = omega (arith, n, both, behind, fits) in
      let there_before : (e.start + length row) + far ≡ x.start = omega (arith, behind, fits) in
      ap (take x.length)
      (ap (λ xs. drop x.start xs) (sym in_parts)
      ∙ ap (λ k. drop k ((front ++ row) ++ drop (e.start + length row) cells)) there
      ∙ drop-append-add (front ++ row) (drop (e.start + length row) cells) far
      ∙ drop-drop far (e.start + length row) cells
      ∙ ap (λ k. drop k cells) there_before)

  rows-apart : (extents : List Extent) → All (IsApart e) extents → rows_of written extents ≡ rows_of cells extents
  rows-apart [] apart = refl
  rows-apart (x ∷ extents) apart =
      rw (written-apart x (All-head (IsApart e) x extents apart), rows-apart extents (All-tail (IsApart e) x extents apart)) refl

  -- all rows
  pub rows-written : (extents : List Extent) (place : ℕ) → place < length extents → e ≡ get_or extents place e → AreApart extents →
      rows_of written (set extents place y) ≡ set (rows_of cells extents) place row
  rows-written [] place in_list here apart = absurd (omega (arith, in_list))
  rows-written (x ∷ extents) zero in_list here apart =
      rw (written-here, rows-apart extents (subst (λ z. All (IsApart z) extents) (sym here) apart.0)) refl
  rows-written (x ∷ extents) (suc place) in_list here apart =
      let first = apart-turned x e (subst (IsApart x) (sym here) (apart.0 place e (omega (arith, in_list)))) in
      rw (written-apart x first, rows-written extents place (omega (arith, in_list)) here apart.1) refl
