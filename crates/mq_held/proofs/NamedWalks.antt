-- One walk over ascending items and ascending names, which tells whether each name is that of an item.
use Rattle.mq_held.proofs.Common.{◌≡◌, ℕ, zero, suc, ◌+◌, ◌<◌, ◌≤◌, ◌==◌, ◌&&◌, ◌||◌, false, refl, List, [], ◌∷◌, length, get_or, drop, sym, ap, ◌∙◌, subst}
use Rattle.mq_held.proofs.Common.{arith, add-one, list_map, All, list_all, eq-eqb, drop_all, drop_more, get_or_default, length-drop, All-head, All-tail}
use Rattle.mq_held.proofs.Common.{All-weaker, list_any_none, IsAscending, set_of, above-eqb, below-eqb, IsAscending-head}
use Rattle.mq_table.proofs.Runs.{IsAscending-drop}

-- how far the walk has come: what is left of both tells what all tells
pub record IsWalked {X K : Type 0} (number : X → ℕ) (key : K → ℕ) (row : List X) (named : List K) (place next : ℕ) : Type 0 where
  pub within : place ≤ length row
  pub named_within : next ≤ length named
  pub met : next ≤ place
  pub same : list_all (set_of number row) (list_map key named) ≡ list_all (set_of number (drop place row)) (list_map key (drop next named))

module _ {X K : Type 0} (number : X → ℕ) (key : K → ℕ) where
  -- an item below all names has none of them
  passed : (x : X) (row : List X) (named : List K) → All (λ k. number x < key k) named → list_all (set_of number (x ∷ row)) (list_map key named)
      ≡ list_all (set_of number row) (list_map key named)
  passed x row [] above = refl
  passed x row (k ∷ named) above =
      let P : K → Type 0 = λ k. number x < key k in
      let first = below-eqb (number x) (key k) (All-head P k named above) in
      let rest = passed x row named (All-tail P k named above) in
      λ i. (first i || set_of number row (key k)) && rest i

  module _ (row : List X) (named : List K) (up : IsAscending number row) (named_up : IsAscending key named) where
    pub IsWalked-start : IsWalked number key row named 0 0
    IsWalked-start = record { within = omega arith; named_within = omega arith; met = omega arith; same = refl }

    pub walked-behind : (place next : ℕ) → IsWalked number key row named place next → place ≡ length row → next < length named →
        list_all (set_of number row) (list_map key named) ≡ false
    walked-behind place next walked all more =
        walked.same
        ∙ ap (λ xs. list_all (set_of number xs) (list_map key (drop next named))) (drop_all place row (omega (arith, all)))
        ∙ none (drop next named) (omega (arith, length-drop next named, more))
      where
        none : (ks : List K) → 0 < length ks → list_all (set_of number []) (list_map key ks) ≡ false
        none [] some = absurd (omega arith)
        none (k ∷ ks) some = refl

    module _ (place next : ℕ) (k : K) (walked : IsWalked number key row named place next) (named_here : k ≡ get_or named next k)
        (named_in : next < length named) where
      abbrev rest : List K
      rest = drop (next + 1) named

      names : drop next named ≡ k ∷ rest
      names = drop_more named next k named_in ∙ ap (λ z. z ∷ rest) (sym named_here)

      names_up : IsAscending key (k ∷ rest)
      names_up = subst (IsAscending key) names (IsAscending-drop key next named named_up)

      module _ (x : X) (here : x ≡ get_or row place x) (inside : place < length row) where
        abbrev left : List X
        left = drop (place + 1) row

        items : drop place row ≡ x ∷ left
        items = drop_more row place x inside ∙ ap (λ z. z ∷ left) (sym here)

        items_up : IsAscending number (x ∷ left)
        items_up = subst (IsAscending number) items (IsAscending-drop number place row up)

        so_far : list_all (set_of number row) (list_map key named) ≡ list_all (set_of number (x ∷ left)) (list_map key (k ∷ rest))
        so_far = walked.same ∙ (λ i. list_all (set_of number (items i)) (list_map key (names i)))

        behind : All (λ z. key k < key z) rest
        behind = IsAscending-head key k rest names_up

        pub IsWalked-passed : number x < key k → IsWalked number key row named (place + 1) next
        IsWalked-passed below = record {
          within = omega arith;
          named_within = walked.named_within;
          met = omega (arith, walked.met);
          same =
              so_far
              ∙ passed x left (k ∷ rest) (above_all below)
              ∙ ap (λ ks. list_all (set_of number left) (list_map key ks)) (sym names);
        }
          where
            above_all : number x < key k → All (λ z. number x < key z) (k ∷ rest)
            above_all below = All-weaker (λ z. key k ≤ key z) (λ z. number x < key z) (λ z h. omega (arith, below, h)) (k ∷ rest) from_first
              where
                from_first : All (λ z. key k ≤ key z) (k ∷ rest)
                from_first zero d inside = omega arith
                from_first (suc j) d inside = let h = behind j d (omega arith) in omega (arith, h)

        pub IsWalked-met : number x ≡ key k → IsWalked number key row named (place + 1) (next + 1)
        IsWalked-met is = record {
          within = omega arith;
          named_within = omega arith;
          met = omega (arith, walked.met);
          same =
              so_far
              ∙ (λ i. (eq-eqb (number x) (key k) is i || set_of number left (key k)) && list_all (set_of number (x ∷ left)) (list_map key rest))
              ∙ passed x left rest (All-weaker (λ z. key k < key z) (λ z. number x < key z) (λ z h. omega (arith, is, h)) rest behind);
        }

        pub walked-absent : key k < number x → list_all (set_of number row) (list_map key named) ≡ false
        walked-absent above =
            so_far ∙ (λ i. none i && list_all (set_of number (x ∷ left)) (list_map key rest))
          where
            above_all : All (λ z. key k < number z) (x ∷ left)
            above_all zero d inside = above
            above_all (suc j) d inside = let h = IsAscending-head number x left items_up j d (omega arith) in omega (arith, h, above)

            none : set_of number (x ∷ left) (key k) ≡ false
            none = list_any_none (λ z. number z == key k) (x ∷ left) (λ j d inside. above-eqb (number (get_or (x ∷ left) j d)) (key k) (above_all j d inside))

-- the walk from the first name on
module _ {X K : Type 0} (number : X → ℕ) (key : K → ℕ) where
  pub first-absent : (row : List X) (named : List K) (k : K) → k ≡ get_or named 0 k → 0 < length named → set_of number row (key k) ≡ false →
      list_all (set_of number row) (list_map key named) ≡ false
  first-absent row [] k here some none = absurd (omega (arith, some))
  first-absent row (z ∷ named) k here some none =
      ap (λ b. b && list_all (set_of number row) (list_map key named)) (ap (λ q. set_of number row (key q)) (sym here) ∙ none)

  module _ (row : List X) (named : List K) (up : IsAscending number row) (named_up : IsAscending key named) (first : ℕ) (x : X) (k : K)
      (here : k ≡ get_or named 0 k) (some : 0 < length named) (inside : first < length row) (is : number (get_or row first x) ≡ key k) where
    up_to : (j : ℕ) → j ≤ first → IsWalked number key row named j 0
    up_to zero below = IsWalked-start number key row named up named_up
    up_to (suc j) below =
        let step = up j first x (omega (arith, below)) inside in
        let at : j < length row = omega (arith, below, inside) in
        subst (λ n. IsWalked number key row named n 0) (add-one j)
        (IsWalked-passed number key row named up named_up j 0 k (up_to j (omega (arith, below))) here some (get_or row j x)
        (get_or_default row j x (get_or row j x) at) at (omega (arith, step, is)))

    pub IsWalked-first : IsWalked number key row named (first + 1) 1
    IsWalked-first = IsWalked-met number key row named up named_up first 0 k (up_to first (omega arith)) here some (get_or row first x)
        (get_or_default row first x (get_or row first x) inside) inside is

-- an item of a list that has some
pub some_item : {X : Type 0} (xs : List X) → 0 < length xs → X
some_item [] some = absurd (omega (arith, some))
some_item (x ∷ xs) some = x
