-- Rows that are packed in the order in which a list names them.
use Rattle.mq_sets.proofs.Common.{ℕ, suc, ◌+◌, ◌<◌, ◌≤◌, ◌≡◌, arith, refl, List, [], ◌∷◌, ◌++◌, length, map, take, set, get_or, sym, ap, ◌∙◌, subst, ⊎_elim}
use Rattle.mq_sets.proofs.Common.{length-append, All, sum_by, cases_lt, cases_eq, map-set_same, same_lists, get_or_default, get_or_past, get_or-map}
use Rattle.mq_sets.proofs.Common.{get_or-set_same, get_or-set_other, length-set, length-map, All-head, All-tail, All-set, sum_by-cons, sum_by-le, sum_by-set}
use Rattle.mq_sets.proofs.Common.{sum_by_push, sum_by_more_le, cells_of, rows_of, IsWithin, IsApart, AreApart, cells_said, NamesRows, IsPlaced, times, Extent}
use Rattle.mq_sets.proofs.{Apart.apart-none, Apart.apart-turned, Stored.cells_of-append, Stored.cells_of-end, Stored.cells_of-empty, Stored.length-cells_of}
use Rattle.mq_sets.proofs.Cells.{is_cell, is_cell-same, is_cell-other}

abbrev pub none : Extent
none = record { start = 0; length = 0; free = 0 }

abbrev pub size_of : List Extent → ℕ → ℕ
size_of extents n = (get_or extents n none).length

-- extents without common cells, pair by pair
pub AreApart-from_pairs : (extents : List Extent) →
    ((a b : ℕ) (d : Extent) → a < b → b < length extents → IsApart (get_or extents a d) (get_or extents b d)) → AreApart extents
AreApart-from_pairs [] pairs = tt
AreApart-from_pairs (e ∷ extents) pairs = (
  λ j d in_list. pairs 0 (suc j) d (omega arith) (omega (arith, in_list)),
  AreApart-from_pairs extents (λ a b d below in_list. pairs (suc a) (suc b) d (omega (arith, below)) (omega (arith, in_list))),
)

-- one number more in a list
times-more : (x : ℕ) (numbers : List ℕ) (n : ℕ) → times n (numbers ++ x ∷ []) ≡ times n numbers + is_cell n x
times-more x numbers n = sum_by_push (is_cell n) numbers x

-- a sum that leaves out a number
same-sums : (f h : ℕ → ℕ) (x : ℕ) (numbers : List ℕ) → ((n : ℕ) → (n ≡ x → ⊥) → f n ≡ h n) → times x numbers ≡ 0 → sum_by f numbers ≡ sum_by h numbers
same-sums f h x [] same absent = refl
same-sums f h x (n ∷ numbers) same absent =
    let parts = sum_by-cons (is_cell x) n numbers in
    let differs : n ≡ x → ⊥ = λ is. absurd (omega (arith, parts, absent, is_cell-same x n is)) in
    let rest = same-sums f h x numbers same (omega (arith, parts, absent)) in
    omega (arith, rest, same n differs, sum_by-cons f n numbers, sum_by-cons h n numbers)

-- the rows that are named have all cells together
pub named-sum : (numbers : List ℕ) (extents : List Extent) → All (λ n. n < length extents) numbers → ((n : ℕ) → times n numbers ≤ 1) →
    ((n : ℕ) → 0 < size_of extents n → 1 ≤ times n numbers) → sum_by (size_of extents) numbers ≡ cells_said extents
named-sum [] extents within once each =
    let few = sum_by-le (λ (e : Extent). e.length) 0 extents (λ k d in_list.
    ⊎_elim
    (λ (some : 0 < (get_or extents k d).length).
    let is : (get_or extents k d).length ≡ size_of extents k = ap (λ (e : Extent). e.length) (get_or_default extents k d none in_list) in
    absurd (omega (arith, each k (omega (arith, is, some)))))
    (λ (empty : (get_or extents k d).length ≤ 0). empty)
    (cases_lt 0 (get_or extents k d).length)) in
    omega (arith, few)
named-sum (x ∷ numbers) extents within once each =
    let after = set extents x none in
    let here : x < length extents = All-head (λ n. n < length extents) x numbers within in
    let parts : (n : ℕ) → times n (x ∷ numbers) ≡ is_cell n x + times n numbers = λ n. sum_by-cons (is_cell n) x numbers in
    let absent : times x numbers ≡ 0 = omega (arith, parts x, once x, is_cell-same x x refl) in
    let others : (n : ℕ) → (n ≡ x → ⊥) → size_of extents n ≡ size_of after n = λ n differs. ap (λ (e : Extent). e.length)
    (sym (get_or-set_other extents x n none none differs)) in
    let emptied : size_of after x ≡ 0 = ap (λ (e : Extent). e.length) (get_or-set_same extents x none none here) in
    let rest = named-sum numbers after
    (λ k d in_list. omega (arith, length-set extents x none, All-tail (λ n. n < length extents) x numbers within k d in_list))
    (λ n. omega (arith, parts n, once n))
    (λ n some.
    let differs : n ≡ x → ⊥ = λ is. absurd (omega (arith, some, emptied, ap (size_of after) is)) in
    omega (arith, parts n, is_cell-other n x (λ same. differs (sym same)), each n (omega (arith, others n differs, some)))) in
    let same = same-sums (size_of extents) (size_of after) x numbers others absent in
    let less = sum_by-set (λ (e : Extent). e.length) extents x none none here in
    omega (arith, rest, same, less, sum_by-cons (size_of extents) x numbers)

-- so far as rows are packed: those of some numbers
pub record IsPackedBy {T : Type 0} (cells packed : List T) (from extents : List Extent) (numbers : List ℕ) : Type 0 where
  pub size : length extents ≡ length from
  pub lengths : map (λ (e : Extent). e.length) extents ≡ map (λ (e : Extent). e.length) from
  pub placed : All IsPlaced extents
  pub rest : (n : ℕ) (d : Extent) → times n numbers ≡ 0 → get_or extents n d ≡ get_or from n d
  pub within : (n : ℕ) (d : Extent) → n < length from → 1 ≤ times n numbers → IsWithin packed (get_or extents n d)
  pub row : (n : ℕ) (d : Extent) → n < length from → 1 ≤ times n numbers → cells_of packed (get_or extents n d) ≡ cells_of cells (get_or from n d)
  pub apart : (a b : ℕ) (d : Extent) → a < length from → b < length from → (a ≡ b → ⊥) → 1 ≤ times a numbers → 1 ≤ times b numbers →
      IsApart (get_or extents a d) (get_or extents b d)
  pub filled : length packed ≡ sum_by (size_of from) numbers

module _ {T : Type 0} (cells : List T) (from : List Extent) where
  -- one row more, that of number x
  module _ (packed : List T) (extents : List Extent) (numbers : List ℕ) (x : ℕ) (e y : Extent) (in_list : x < length from)
      (absent : times x numbers ≡ 0) (here : e ≡ get_or extents x e) (inside : All (IsWithin cells) from) (size_is : y.length ≡ e.length) (full : y.free ≡ 0)
      (start_is : 0 < y.length → y.start ≡ length packed) (placed_is : IsPlaced y) (known : IsPackedBy cells packed from extents numbers) where
    more : List T
    more = cells_of cells e

    e_from : e ≡ get_or from x e
    e_from = here ∙ known.rest x e absent

    size_more : length (cells_of cells e) ≡ e.length
    size_more = length-cells_of cells e (subst (IsWithin cells) (sym e_from) (inside x e in_list))

    in_extents : x < length extents
    in_extents = omega (arith, in_list, known.size)

    longer : length (packed ++ cells_of cells e) ≡ length packed + e.length
    longer = omega (arith, length-append packed (cells_of cells e), size_more)

    y_within : IsWithin (packed ++ cells_of cells e) y
    y_within = grind (arith, longer, cases_lt)

    y_row : cells_of (packed ++ cells_of cells e) y ≡ cells_of cells e
    y_row = grind (arith, cells_of-end, size_more, cells_of-empty, cases_lt)

    y_apart : (z : Extent) → IsWithin packed z → IsApart y z
    y_apart z within = grind (arith, apart-none, cases_lt)

    at_x : (d : Extent) → get_or (set extents x y) x d ≡ y
    at_x d = get_or-set_same extents x y d in_extents

    at_other : (n : ℕ) (d : Extent) → (n ≡ x → ⊥) → get_or (set extents x y) n d ≡ get_or extents n d
    at_other n d differs = get_or-set_other extents x n y d differs

    before : (n : ℕ) → (n ≡ x → ⊥) → 1 ≤ times n (numbers ++ x ∷ []) → 1 ≤ times n numbers
    before n differs some =
        omega (arith, times-more x numbers n, some, is_cell-other n x (λ same. differs (sym same)))

    pub IsPackedBy-more : IsPackedBy cells (packed ++ cells_of cells e) from (set extents x y) (numbers ++ x ∷ [])
    IsPackedBy-more = record {
      size = length-set extents x y ∙ known.size;
      lengths =
          map-set_same (λ (z : Extent). z.length) extents x y e (size_is ∙ ap (λ (z : Extent). z.length) here) ∙ known.lengths;
      placed = All-set IsPlaced extents x y placed_is known.placed;
      rest =
          λ n d none_yet.
          let counts = times-more x numbers n in
          at_other n d (λ same. absurd (omega (arith, counts, none_yet, is_cell-same n x (sym same)))) ∙ known.rest n d (omega (arith, counts, none_yet));
      within =
          λ n d in_n some.
          ⊎_elim
          (λ (same : n ≡ x). rw (same, at_x d) y_within)
          (λ (differs : n ≡ x → ⊥). rw (at_other n d differs) (omega (arith, longer, known.within n d in_n (before n differs some))))
          (cases_eq n x);
      row =
          λ n d in_n some.
          ⊎_elim
          (λ (same : n ≡ x). rw (same, at_x d) (y_row ∙ ap (cells_of cells) (e_from ∙ get_or_default from x e d in_list)))
          (λ (differs : n ≡ x → ⊥). rw (at_other n d differs)
          (cells_of-append packed (cells_of cells e) (get_or extents n d) (omega (arith, known.within n d in_n (before n differs some))) ∙
          known.row n d in_n (before n differs some)))
          (cases_eq n x);
      apart =
          λ a b d in_a in_b differ some_a some_b.
          ⊎_elim
          (λ (a_is : a ≡ x).
          let b_differs : b ≡ x → ⊥ = λ same. differ (a_is ∙ sym same) in
          rw (a_is, at_x d, at_other b d b_differs) (y_apart (get_or extents b d) (known.within b d in_b (before b b_differs some_b))))
          (λ (a_differs : a ≡ x → ⊥).
          ⊎_elim
          (λ (b_is : b ≡ x).
          rw (b_is, at_x d, at_other a d a_differs)
          (apart-turned y (get_or extents a d) (y_apart (get_or extents a d) (known.within a d in_a (before a a_differs some_a)))))
          (λ (b_differs : b ≡ x → ⊥).
          rw (at_other a d a_differs, at_other b d b_differs) (known.apart a b d in_a in_b differ (before a a_differs some_a) (before b b_differs some_b)))
          (cases_eq b x))
          (cases_eq a x);
      filled =
          omega (
            arith,
            longer,
            known.filled,
            sum_by_push (size_of from) numbers x,
            ap (λ (z : Extent). z.length) e_from,
            ap (λ (z : Extent). z.length) (get_or_default from x e none in_list),
          );
    }

  -- all rows that have cells are packed
  module _ (packed : List T) (extents : List Extent) (numbers : List ℕ) (inside : All (IsWithin cells) from)
      (named : NamesRows (map (λ (e : Extent). e.length) from) numbers) (known : IsPackedBy cells packed from extents numbers) where
    -- a row that isn't named has no cells
    unnamed : (n : ℕ) (d : Extent) → n < length from → times n numbers ≤ 0 → (get_or extents n d).length ≡ 0
    unnamed n d in_list absent =
        let is = known.rest n d (omega (arith, absent)) in
        ap (λ (e : Extent). e.length) is
        ∙ ⊎_elim
        (λ (some : 0 < (get_or from n d).length).
        absurd (omega (arith, absent, named.each n (rw (get_or-map (λ (e : Extent). e.length) from n d 0 in_list) some))))
        (λ (empty : (get_or from n d).length ≤ 0). omega (arith, empty))
        (cases_lt 0 (get_or from n d).length)

    at_first : (n : ℕ) (d : Extent) → n < length from → times n numbers ≤ 0 → (get_or extents n d).start + (get_or extents n d).free ≡ 0
    at_first n d in_list absent =
        known.placed n d (omega (arith, in_list, known.size)) (unnamed n d in_list absent)

    pub packed-rows : rows_of packed extents ≡ rows_of cells from
    packed-rows =
        same_lists (rows_of packed extents) (rows_of cells from)
        (length-map extents (cells_of packed) ∙ known.size ∙ sym (length-map from (cells_of cells)))
        (λ k d in_list.
        let in_extents : k < length extents = omega (arith, in_list, length-map extents (cells_of packed)) in
        let in_from : k < length from = omega (arith, in_extents, known.size) in
        get_or-map (cells_of packed) extents k none d in_extents
        ∙ ⊎_elim
        (λ (absent : times k numbers < 1).
        let empty = unnamed k none in_from (omega (arith, absent)) in
        cells_of-empty packed (get_or extents k none) empty
        ∙ sym (cells_of-empty cells (get_or from k none) (ap (λ (e : Extent). e.length) (sym (known.rest k none (omega (arith, absent)))) ∙ empty)))
        (λ (some : 1 ≤ times k numbers). known.row k none in_from some)
        (cases_lt (times k numbers) 1)
        ∙ sym (get_or-map (cells_of cells) from k none d in_from))

    pub packed-within : All (IsWithin packed) extents
    packed-within = grind (arith, unnamed, at_first, cases_lt)

    pub packed-apart : AreApart extents
    packed-apart = grind (arith, AreApart-from_pairs, apart-none, at_first, unnamed, apart-turned, cases_lt)

  -- the list names all cells
  pub named-all : (numbers : List ℕ) → NamesRows (map (λ (e : Extent). e.length) from) numbers → sum_by (size_of from) numbers ≡ cells_said from
  named-all numbers named =
      named-sum numbers from
      (λ k d in_list. omega (arith, named.within k d in_list, length-map from (λ (e : Extent). e.length)))
      named.once
      (λ n some.
      ⊎_elim
      (λ (in_list : n < length from). named.each n (rw (get_or-map (λ (e : Extent). e.length) from n none 0 in_list) some))
      (λ (past : length from ≤ n). absurd (omega (arith, some, ap (λ (e : Extent). e.length) (get_or_past from n none past))))
      (cases_lt n (length from)))

-- the next number of a list without repeats is none of those before
pub absent-yet : (numbers : List ℕ) (k x : ℕ) → k < length numbers → x ≡ get_or numbers k x → ((n : ℕ) → times n numbers ≤ 1) → times x (take k numbers) ≡ 0
absent-yet numbers k x in_list here once =
    let upto = sum_by_more_le (is_cell x) numbers k x in_list in
    omega (arith, upto, once x, is_cell-same x (get_or numbers k x) (sym here))

-- the facts about the next row, before it is copied
pub record IsNext {T : Type 0} (cells packed : List T) (from : List Extent) (numbers : List ℕ) (x : ℕ) (e : Extent) : Type 0 where
  pub in_list : x < length from
  pub absent : times x numbers ≡ 0
  pub inside : e.start + e.length + e.free ≤ length cells
  pub fits : length packed + e.length ≤ cells_said from

pub IsNext-named : {T : Type 0} (cells packed : List T) (from extents : List Extent) (numbers : List ℕ) (k x : ℕ) (e : Extent) → k < length numbers →
    x ≡ get_or numbers k x → e ≡ get_or extents x e → All (IsWithin cells) from → NamesRows (map (λ (z : Extent). z.length) from) numbers →
    IsPackedBy cells packed from extents (take k numbers) → IsNext cells packed from (take k numbers) x e
IsNext-named cells packed from extents numbers k x e in_list is here inside named known =
    let absent = absent-yet numbers k x in_list is named.once in
    let below : x < length from = omega (arith, named.within k x in_list, is, length-map from (λ (z : Extent). z.length)) in
    let e_is : e ≡ get_or from x e = here ∙ known.rest x e absent in
    let size : e.length ≡ size_of from x = ap (λ (z : Extent). z.length) (e_is ∙ get_or_default from x e none below) in
    let upto = sum_by_more_le (size_of from) numbers k x in_list in
    let last : size_of from (get_or numbers k x) ≡ size_of from x = ap (size_of from) (sym is) in
    record {
      in_list = below;
      absent = absent;
      inside = subst (IsWithin cells) (sym e_is) (inside x e below);
      fits = omega (arith, known.filled, upto, last, size, named-all cells from numbers named);
    }
