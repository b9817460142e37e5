-- One cell of a row that stands among others, once it is another.
use Rattle.mq_sets.proofs.Common.{◌≡◌, ℕ, zero, suc, ◌+◌, ◌<◌, ◌≤◌, List, [], ◌∷◌, ◌++◌, length, take, drop, set, get_or, refl, sym, ap, ◌∙◌, subst, arith, All}
use Rattle.mq_sets.proofs.Common.{length-set, take-append-drop, get_or-map, cells_of, rows_of, IsWithin, AreApart, Extent}
use Rattle.mq_sets.proofs.{Stored.length-cells_of, WrittenOver.rows-written}

-- an item that is put in its own place
pub set-same : {X : Type 0} (xs : List X) (i : ℕ) (x : X) → i < length xs → x ≡ get_or xs i x → set xs i x ≡ xs
set-same [] i x within is = refl
set-same (y ∷ xs) zero x within is = ap (λ z. z ∷ xs) is
set-same (y ∷ xs) (suc i) x within is = ap (λ zs. y ∷ zs) (set-same xs i x (omega arith) is)

module _ {T : Type 0} where
  set-front : (cells : List T) (n p : ℕ) (v : T) → p < n → n ≤ length cells → set cells p v ≡ set (take n cells) p v ++ drop n cells
  set-front [] n p v below fits = absurd (omega (arith, below, fits))
  set-front (x ∷ cells) zero p v below fits = absurd (omega (arith, below))
  set-front (x ∷ cells) (suc n) zero v below fits = ap (λ xs. v ∷ xs) (sym (take-append-drop n cells))
  set-front (x ∷ cells) (suc n) (suc p) v below fits = ap (λ xs. x ∷ xs) (set-front cells n p v (omega arith) (omega arith))

  set-within : (cells : List T) (s n p at stop : ℕ) (v : T) → at ≡ s + p → stop ≡ s + n → p < n → stop ≤ length cells →
      set cells at v ≡ take s cells ++ (set (take n (drop s cells)) p v ++ drop stop cells)
  set-within [] s n p at stop v at_is stop_is below fits = absurd (omega (arith, stop_is, below, fits))
  set-within (x ∷ cells) zero n p at stop v at_is stop_is below fits =
      let at_p : p ≡ at = omega (arith, at_is) in
      let at_n : n ≡ stop = omega (arith, stop_is) in
      subst (λ k. set (x ∷ cells) k v ≡ set (take n (x ∷ cells)) p v ++ drop stop (x ∷ cells)) at_p
      (subst (λ k. set (x ∷ cells) p v ≡ set (take n (x ∷ cells)) p v ++ drop k (x ∷ cells)) at_n
      (set-front (x ∷ cells) n p v below (omega (arith, at_n, fits))))
  set-within (x ∷ cells) (suc s) n p zero stop v at_is stop_is below fits = absurd (omega (arith, at_is))
  set-within (x ∷ cells) (suc s) n p (suc at) zero v at_is stop_is below fits = absurd (omega (arith, stop_is))
  set-within (x ∷ cells) (suc s) n p (suc at) (suc stop) v at_is stop_is below fits =
      ap (λ xs. x ∷ xs) (set-within cells s n p at stop v (omega (arith, at_is)) (omega (arith, stop_is)) below (omega arith))

  -- the rows, once a cell of one of them is another
  pub rows-one_cell : (cells : List T) (extents : List Extent) (place : ℕ) (e : Extent) (p at : ℕ) (v : T) → place < length extents →
      e ≡ get_or extents place e → All (IsWithin cells) extents → AreApart extents → p < e.length → at ≡ e.start + p
      → rows_of (set cells at v) extents ≡ set (rows_of cells extents) place (set (get_or (rows_of cells extents) place []) p v)
  rows-one_cell cells extents place e p at v in_list here within apart below at_is =
      let inside : IsWithin cells e = subst (IsWithin cells) (sym here) (within place e in_list) in
      let row = set (cells_of cells e) p v in
      let size : e.length ≡ length row = sym (length-set (cells_of cells e) p v ∙ length-cells_of cells e inside) in
      let stop : e.start + length row ≡ e.start + e.length = omega (arith, size) in
      let all = set-within cells e.start e.length p at (e.start + length row) v at_is stop below (omega (arith, stop, inside)) in
      let own : get_or (rows_of cells extents) place [] ≡ cells_of cells e = get_or-map (cells_of cells) extents place e [] in_list ∙
      ap (cells_of cells) (sym here) in
      ap (λ xs. rows_of xs extents) all
      ∙ ap (rows_of (take e.start cells ++ (row ++ drop (e.start + length row) cells))) (sym (set-same extents place e in_list here))
      ∙ rows-written cells row e e refl size (omega (arith, size)) inside extents place in_list here apart
      ∙ ap (λ r. set (rows_of cells extents) place (set r p v)) (sym own)
