-- Items in cells: what a write, an append, an insert and a remove leave of them.
use Rattle.mq_sets.proofs.Common.{ℕ, zero, suc, ◌+◌, ◌<◌, ◌≤◌, ◌≡◌, ◌==◌, Bool, cond, arith, refl, List, [], ◌∷◌, ◌++◌, length, map, take, drop, set, get_or}
use Rattle.mq_sets.proofs.Common.{sym, ap, ◌∙◌, subst, ⊎_elim, length-append, All, insert, remove, eq-eqb, eqb_tells, get_or_append_left, get_or_push}
use Rattle.mq_sets.proofs.Common.{get_or-set_same, get_or-set_other, length-set, flat_map-cons, All-head, All-tail, All-weaker, All-append, All-nil, All-cons}
use Rattle.mq_sets.proofs.Common.{All-take, All-drop, sum_by-cons, sum_by-append, sum_by-insert, sum_by-remove, sum_by-le, get_or-le-sum_by, length-insert}
use Rattle.mq_sets.proofs.Common.{length-remove, item_in, items_in, times, IsCell, AreSlots}

-- two functions that agree at each element
pub map-agree : {X Y : Type 0} (f g : X → Y) (xs : List X) → All (λ x. f x ≡ g x) xs → map f xs ≡ map g xs
map-agree f g [] same = refl
map-agree f g (x ∷ xs) same =
    rw (All-head (λ y. f y ≡ g y) x xs same, map-agree f g xs (All-tail (λ y. f y ≡ g y) x xs same)) refl

-- 1 for an element of a list of cells that is this cell, else 0
abbrev pub is_cell : ℕ → ℕ → ℕ
is_cell cell other = cond (other == cell) 1 0

pub is_cell-same : (cell other : ℕ) → other ≡ cell → is_cell cell other ≡ 1
is_cell-same cell other same = rw (eq-eqb other cell same) refl

pub is_cell-other : (cell other : ℕ) → (other ≡ cell → ⊥) → is_cell cell other ≡ 0
is_cell-other cell other differs =
    ⊎_elim (λ same. absurd (differs same.1)) (λ told. ap (λ (b : Bool). cond b 1 0) told.0) (eqb_tells other cell)

-- a cell that stands in a list of cells is counted, and one past all of them is not
pub times-some : (cells : List ℕ) (cell k d : ℕ) → k < length cells → get_or cells k d ≡ cell → 1 ≤ times cell cells
times-some cells cell k d in_list same = grind (arith, get_or-le-sum_by, is_cell-same)

times-past : (cells : List ℕ) (bound cell : ℕ) → All (λ other. other < bound) cells → bound ≤ cell → times cell cells ≡ 0
times-past cells bound cell below past =
    let few = sum_by-le (is_cell cell) 0 cells
    (λ k d in_list. let other = is_cell-other cell (get_or cells k d) (λ same. absurd (omega (arith, past, same, below k d in_list))) in
    omega (arith, other)) in
    omega (arith, few)

module _ {X : Type 0} (P : X → Type 0) (xs : List X) where
  All-front : (ys : List X) → All P (xs ++ ys) → All P xs
  All-front ys all k d in_list = subst P (get_or_append_left xs ys d k in_list) (all k d (omega (arith, in_list, length-append xs ys)))

  pub All-last : (x : X) → All P (xs ++ x ∷ []) → P x
  All-last x all = subst P (get_or_push xs x x (length xs) refl) (all (length xs) x (omega (arith, length-append xs (x ∷ []))))

module _ {T : Type 0} where
  pub item_in-get : (cells : List T) (cell : ℕ) (d : T) → cell < length cells → item_in cells cell ≡ get_or cells cell d ∷ []
  item_in-get [] cell d within = absurd (omega arith)
  item_in-get (x ∷ cells) zero d within = refl
  item_in-get (x ∷ cells) (suc cell) d within = item_in-get cells cell d (omega arith)

  -- the items of cells within the list
  pub items_in-map : (cells : List T) (order : List ℕ) (d : T) → All (IsCell cells) order → items_in cells order ≡ map (λ cell. get_or cells cell d) order
  items_in-map cells [] d within = refl
  items_in-map cells (cell ∷ order) d within =
      let here = item_in-get cells cell d (All-head (IsCell cells) cell order within) in
      let rest = items_in-map cells order d (All-tail (IsCell cells) cell order within) in
      flat_map-cons (item_in cells) cell order ∙ rw (here, rest) refl

  -- a cell that no item has is written
  others-read : (cells : List T) (cell : ℕ) (item : T) (order : List ℕ) → times cell order ≡ 0 → map (λ n. get_or (set cells cell item) n item) order
      ≡ map (λ n. get_or cells n item) order
  others-read cells cell item order none =
      map-agree (λ n. get_or (set cells cell item) n item) (λ n. get_or cells n item) order
      (λ k d in_list. get_or-set_other cells cell (get_or order k d) item item (λ same. absurd (omega (arith, none, times-some order cell k d in_list same))))

  within-set : (cells : List T) (order : List ℕ) (cell : ℕ) (item : T) → All (IsCell cells) order → All (IsCell (set cells cell item)) order
  within-set cells order cell item within =
      All-weaker (IsCell cells) (IsCell (set cells cell item)) (λ n h. omega (arith, h, length-set cells cell item)) order within

  items_in-set_other : (cells : List T) (order : List ℕ) (cell : ℕ) (item : T) → All (IsCell cells) order → times cell order ≡ 0 →
      items_in (set cells cell item) order ≡ items_in cells order
  items_in-set_other cells order cell item within none =
      items_in-map (set cells cell item) order item (within-set cells order cell item within)
      ∙ others-read cells cell item order none
      ∙ sym (items_in-map cells order item within)

  pub item-filled : (cells : List T) (cell : ℕ) (item : T) → cell < length cells → item_in (set cells cell item) cell ≡ item ∷ []
  item-filled cells cell item within =
      item_in-get (set cells cell item) cell item (omega (arith, within, length-set cells cell item))
      ∙ ap (λ x. x ∷ []) (get_or-set_same cells cell item item within)

  -- a cell more at the end
  pub items_in-append : (cells : List T) (order : List ℕ) (item : T) → All (IsCell cells) order → items_in (cells ++ item ∷ []) order ≡ items_in cells order
  items_in-append cells order item within =
      let after : All (IsCell (cells ++ item ∷ [])) order = All-weaker (IsCell cells) (IsCell (cells ++ item ∷ []))
      (λ n h. omega (arith, h, length-append cells (item ∷ []))) order within in
      items_in-map (cells ++ item ∷ []) order item after
      ∙ map-agree (λ n. get_or (cells ++ item ∷ []) n item)
      (λ n. get_or cells n item) order (λ k d in_list. get_or_append_left cells (item ∷ []) item (get_or order k d) (within k d in_list))
      ∙ sym (items_in-map cells order item within)

-- a cell comes into the order, or leaves it
module _ {T : Type 0} (cells : List T) (order free : List ℕ) where
  module _ (place cell : ℕ) (known : AreSlots cells (cell ∷ order) free) (in_list : place ≤ length order) where
    pub AreSlots-insert : AreSlots cells (insert order place cell) free
    AreSlots-insert =
        let here = All-head (IsCell cells) cell order known.within in
        let rest = All-tail (IsCell cells) cell order known.within in
        record {
          within =
              All-append (IsCell cells) (take place order) (cell ∷ drop place order) (All-take (IsCell cells) place order rest)
              (All-cons (IsCell cells) cell (drop place order) here (All-drop (IsCell cells) place order rest));
          free_within = known.free_within;
          once = λ n. omega (arith, known.once n, sum_by-insert (is_cell n) order place cell, sum_by-cons (is_cell n) cell order);
          each = omega (arith, known.each, length-insert order place cell in_list);
        }

  module _ (place cell : ℕ) (known : AreSlots cells order free) (in_list : place < length order) where
    pub AreSlots-remove : cell ≡ get_or order place cell → AreSlots cells (remove order place) (free ++ cell ∷ [])
    AreSlots-remove is =
        let here : IsCell cells cell = subst (IsCell cells) (sym is) (known.within place cell in_list) in
        record {
          within = All-append (IsCell cells) (take place order) (drop (suc place) order) (All-take (IsCell cells) place order known.within)
              (All-drop (IsCell cells) (suc place) order known.within);
          free_within = All-append (IsCell cells) free (cell ∷ []) known.free_within (All-cons (IsCell cells) cell [] here (All-nil (IsCell cells)));
          once =
              λ n.
              let taken = sum_by-remove (is_cell n) order place cell in_list in
              let same = ap (is_cell n) is in
              omega (arith, known.once n, taken, same, sum_by-append (is_cell n) free (cell ∷ []), sum_by-cons (is_cell n) cell []);
          each = omega (arith, known.each, length-remove order place in_list, length-append free (cell ∷ []));
        }

-- an item is written into a free cell, or into a new one
module _ {T : Type 0} (cells : List T) (order free : List ℕ) (item : T) where
  pub AreSlots-filled : (cell : ℕ) → AreSlots cells order (free ++ cell ∷ []) → AreSlots (set cells cell item) (cell ∷ order) free
  AreSlots-filled cell known =
      let last : IsCell cells cell = All-last (IsCell cells) free cell known.free_within in
      record {
        within = within-set cells (cell ∷ order) cell item (All-cons (IsCell cells) cell order last known.within);
        free_within = within-set cells free cell item (All-front (IsCell cells) free (cell ∷ []) known.free_within);
        once = λ n. omega (
          arith,
          known.once n,
          sum_by-cons (is_cell n) cell order,
          sum_by-append (is_cell n) free (cell ∷ []),
          sum_by-cons (is_cell n) cell [],
        );
        each = omega (arith, known.each, length-append free (cell ∷ []), length-set cells cell item);
      }

  pub kept-filled : (cell : ℕ) → AreSlots cells order (free ++ cell ∷ []) → items_in (set cells cell item) order ≡ items_in cells order
  kept-filled cell known =
      let none : times cell order ≡ 0 =
      omega (arith, known.once cell, sum_by-append (is_cell cell) free (cell ∷ []), sum_by-cons (is_cell cell) cell [], is_cell-same cell cell refl) in
      items_in-set_other cells order cell item known.within none

  pub AreSlots-appended : (cell : ℕ) → cell ≡ length cells → AreSlots cells order free → AreSlots (cells ++ item ∷ []) (cell ∷ order) free
  AreSlots-appended cell is known =
      let longer = length-append cells (item ∷ []) in
      let more : (xs : List ℕ) → All (IsCell cells) xs → All (IsCell (cells ++ item ∷ [])) xs = λ xs h. All-weaker (IsCell cells)
      (IsCell (cells ++ item ∷ [])) (λ n b. omega (arith, b, longer)) xs h in
      record {
        within = All-cons (IsCell (cells ++ item ∷ [])) cell order (omega (arith, is, longer)) (more order known.within);
        free_within = more free known.free_within;
        once = by_cell;
        each = omega (arith, known.each, longer);
      }
    where
      by_cell : (n : ℕ) → times n (cell ∷ order) + times n free ≤ 1
      by_cell n =
          ⊎_elim
          (λ here.
          let past : length cells ≤ n = omega (arith, is, here.1) in
          omega (
            arith,
            sum_by-cons (is_cell n) cell order,
            is_cell-same n cell here.1,
            times-past order (length cells) n known.within past,
            times-past free (length cells) n known.free_within past,
          ))
          (λ other.
          omega (arith, known.once n, sum_by-cons (is_cell n) cell order, is_cell-other n cell other.1))
          (eqb_tells cell n)
