-- A number that leaves its page, and two pages that become one.
use Rattle.mq_sets.proofs.Common.{ℕ, suc, ◌+◌, ◌-◌, ◌<◌, ◌≤◌, ◌≡◌, min, List, [], ◌∷◌, ◌++◌, length, map, take, drop, set, get_or, refl, sym, ap, ◌∙◌, remove}
use Rattle.mq_sets.proofs.Common.{take-map, take-append-drop, map-set, take-append-le, take-take, drop_at, take-set, drop-set-lt, get_or-map, get_or-set_same}
use Rattle.mq_sets.proofs.Common.{get_or-set_other, get_or-drop, get_or-take, take-set-le, set_split, drop-map, drop_more, length-map, map-append, get_or_past}
use Rattle.mq_sets.proofs.Common.{flat_map-append, remove-append_left, remove-append_right, length-remove, cases_lt, eqb_tells, numbers_in, AreFilled}
use Rattle.mq_sets.proofs.Common.{above_least, joined, subst, arith, sum, add-one, append_assoc, length-append, length-take, length-drop, length-set, ⊎_elim}
use Rattle.mq_sets.proofs.PageSizes.{filled-right, filled-left, filled-less}
use Rattle.mq_sets.proofs.PagedNumbers.{in_parts, numbers-parts, numbers-set, length-numbers-take}

-- two neighbours in a list
pub in_pair : {X : Type 0} (xs : List X) (i : ℕ) (d : X) → i + 1 < length xs → xs ≡ take i xs ++ get_or xs i d ∷ get_or xs (i + 1) d ∷ drop (i + 1 + 1) xs
in_pair xs i d within = grind (arith, take-append-drop, drop_more)

pub joined-is : (pages : List (List ℕ)) (i : ℕ) → i + 1 < length pages → joined pages i ≡ take i pages ++
    (get_or pages i [] ++ get_or pages (i + 1) []) ∷ drop (i + 1 + 1) pages
joined-is pages i within = grind (arith, length-take, length-append, take-append-le, take-take, drop_at, add-one, set_split)

pub numbers-joined : (pages : List (List ℕ)) (i : ℕ) → i + 1 < length pages → numbers_in (joined pages i) ≡ numbers_in pages
numbers-joined pages i within =
    let first = get_or pages i [] in
    let second = get_or pages (i + 1) [] in
    let behind = drop (i + 1 + 1) pages in
    ap numbers_in (joined-is pages i within)
    ∙ flat_map-append (λ p. p) (take i pages) ((first ++ second) ∷ behind)
    ∙ ap (λ xs. numbers_in (take i pages) ++ xs) (append_assoc first second (numbers_in behind))
    ∙ sym (ap numbers_in (in_pair pages i [] within) ∙ flat_map-append (λ p. p) (take i pages) (first ∷ second ∷ behind))

pub sizes-joined : (pages : List (List ℕ)) (i : ℕ) → i + 1 < length pages → map length (joined pages i) ≡ take i (map length pages) ++
    (length (get_or pages i []) + length (get_or pages (i + 1) [])) ∷ drop (i + 1 + 1) (map length pages)
sizes-joined pages i within = grind (arith, length-append, joined-is, map-append, take-map, drop-map)

pub numbers-remove : (pages : List (List ℕ)) (i place : ℕ) → i < length pages → place < length (get_or pages i []) →
    numbers_in (set pages i (remove (get_or pages i []) place)) ≡ remove (numbers_in pages) (sum (take i (map length pages)) + place)
numbers-remove pages i place within inside =
    let front = numbers_in (take i pages) in
    let page = get_or pages i [] in
    let behind = numbers_in (drop (suc i) pages) in
    let before = length-numbers-take pages i in
    let rank = sum (take i (map length pages)) + place in
    let there : remove (front ++ (page ++ behind)) rank ≡ front ++ remove (page ++ behind) (rank - sum (take i (map length pages))) =
    remove-append_right front (page ++ behind) (sum (take i (map length pages))) rank before (omega arith) in
    let at : rank - sum (take i (map length pages)) ≡ place = omega arith in
    numbers-set pages i (remove page place) within
    ∙ ap (λ xs. front ++ xs) (sym (remove-append_left page behind place inside) ∙ ap (λ k. remove (page ++ behind) k) (sym at))
    ∙ sym there
    ∙ ap (λ xs. remove xs rank) (sym (numbers-parts pages i within))

module _ (pages : List (List ℕ)) (i place : ℕ) (within : i < length pages) (inside : place < length (get_or pages i []))
    (known : AreFilled (map length pages)) where
  abbrev pub left_of : List (List ℕ)
  left_of = set pages i (remove (get_or pages i []) place)

  less : ℕ
  less = length (remove (get_or pages i []) place)

  one : length (get_or pages i []) ≡ length (remove (get_or pages i []) place) + 1
  one = sym (length-remove (get_or pages i []) place inside)

  sizes-left : map length left_of ≡ set (map length pages) i (length (remove (get_or pages i []) place))
  sizes-left = map-set length pages i (remove (get_or pages i []) place)

  here : get_or left_of i [] ≡ remove (get_or pages i []) place
  here = get_or-set_same pages i (remove (get_or pages i []) place) [] within

  size-at : (k : ℕ) → k < length pages → get_or (map length pages) k 0 ≡ length (get_or pages k [])
  size-at k in_list = get_or-map length pages k [] 0 in_list

  -- the page joins the next one
  pub filled-joined : i + 1 < length pages → min (min (length (get_or left_of i [])) (length (get_or left_of (i + 1) [])))
      (length (get_or left_of i []) + length (get_or left_of (i + 1) []) - 255) ≡ 0 → AreFilled (map length (joined left_of i))
  filled-joined more small =
      let sizes = map length pages in
      let same = length-map pages length in
      let kept = length-set pages i (remove (get_or pages i []) place) in
      let a = ap length here in
      let b : length (get_or left_of (i + 1) []) ≡ get_or sizes (i + 1) 0 =
      ap length (get_or-set_other pages i (i + 1) (remove (get_or pages i []) place) [] (λ e. omega (arith, e))) ∙ sym (size-at (i + 1) more) in
      let before : AreFilled (take i sizes ++ get_or sizes i 0 ∷ get_or sizes (i + 1) 0 ∷ drop (i + 1 + 1) sizes) =
      subst AreFilled (in_pair sizes i 0 (omega (arith, same, more))) known in
      let after = filled-right (take i sizes) (drop (i + 1 + 1) sizes) (get_or sizes i 0) (length (remove (get_or pages i []) place))
      (get_or sizes (i + 1) 0) (size-at i within ∙ one) (omega (arith, small, a, b)) before in
      let front : take i (map length left_of) ≡ take i sizes = ap (take i) sizes-left ∙ take-set sizes i (length (remove (get_or pages i []) place)) in
      let back : drop (i + 1 + 1) (map length left_of) ≡ drop (i + 1 + 1) sizes = ap (drop (i + 1 + 1)) sizes-left ∙
      drop-set-lt (i + 1 + 1) sizes i (length (remove (get_or pages i []) place)) (omega arith) in
      subst AreFilled (sym (sizes-joined left_of i (omega (arith, kept, more)) ∙ rw (front, back, a, b) refl)) after

  -- or with the one before it
  pub filled-joined_before : (k : ℕ) → i ≡ k + 1 → min (min (length (get_or left_of k [])) (length (get_or left_of (k + 1) [])))
      (length (get_or left_of k []) + length (get_or left_of (k + 1) []) - 255) ≡ 0 → AreFilled (map length (joined left_of k))
  filled-joined_before k is small =
      let sizes = map length pages in
      let gone = length (remove (get_or pages i []) place) in
      let same = length-map pages length in
      let kept = length-set pages i (remove (get_or pages i []) place) in
      let a : length (get_or left_of k []) ≡ get_or sizes k 0 =
      ap length (get_or-set_other pages i k (remove (get_or pages i []) place) [] (λ e. omega (arith, e, is))) ∙ sym (size-at k (omega (arith, is, within))) in
      let b : length (get_or left_of (k + 1) []) ≡ gone = ap (λ j. length (get_or left_of j [])) (sym is) ∙ ap length here in
      let before : AreFilled (take k sizes ++ get_or sizes k 0 ∷ get_or sizes (k + 1) 0 ∷ drop (k + 1 + 1) sizes) =
      subst AreFilled (in_pair sizes k 0 (omega (arith, same, is, within))) known in
      let size : get_or sizes (k + 1) 0 ≡ gone + 1 = ap (λ j. get_or sizes j 0) (sym is) ∙ size-at i within ∙ one in
      let after = filled-left (take k sizes) (drop (k + 1 + 1) sizes) (get_or sizes k 0) (get_or sizes (k + 1) 0) gone size
      (omega (arith, small, a, b)) before in
      let front : take k (map length left_of) ≡ take k sizes = ap (take k) sizes-left ∙ take-set-le k sizes i gone (omega (arith, is)) in
      let back : drop (k + 1 + 1) (map length left_of) ≡ drop (k + 1 + 1) sizes = ap (drop (k + 1 + 1)) sizes-left ∙
      drop-set-lt (k + 1 + 1) sizes i gone (omega (arith, is)) in
      subst AreFilled (sym (sizes-joined left_of k (omega (arith, kept, is, within)) ∙ rw (front, back, a, b) refl)) after

  -- or stays
  pub filled-left_of : (i + 1 < length pages → 1 ≤ min (min (length (get_or left_of i [])) (length (get_or left_of (i + 1) [])))
      (length (get_or left_of i []) + length (get_or left_of (i + 1) []) - 255)) →
      ((k : ℕ) → i ≡ k + 1 → 1 ≤ min (min (length (get_or left_of k [])) (length (get_or left_of (k + 1) [])))
      (length (get_or left_of k []) + length (get_or left_of (k + 1) []) - 255)) → AreFilled (map length left_of)
  filled-left_of right left =
      let sizes = map length pages in
      let gone = length (remove (get_or pages i []) place) in
      let same = length-map pages length in
      let in_list : i < length sizes = omega (arith, same, within) in
      let before : AreFilled (take i sizes ++ get_or sizes i 0 ∷ drop (suc i) sizes) = subst AreFilled (in_parts sizes i 0 in_list) known in
      let front : (k : ℕ) → length (take i sizes) ≡ k + 1 → (1 ≤ gone) × (256 ≤ get_or (take i sizes) k 0 + gone) =
      λ k size.
      let is : i ≡ k + 1 = omega (arith, length-take i sizes, size, in_list) in
      let a : length (get_or left_of k []) ≡ get_or sizes k 0 =
      ap length (get_or-set_other pages i k (remove (get_or pages i []) place) [] (λ e. omega (arith, e, is))) ∙ sym (size-at k (omega (arith, is, within))) in
      let b : length (get_or left_of (k + 1) []) ≡ gone = ap (λ j. length (get_or left_of j [])) (sym is) ∙ ap length here in
      let enough = left k is in
      (omega (arith, enough, a, b), omega (arith, enough, a, b, get_or-take i sizes k 0 (omega (arith, is)))) in
      let back : 0 < length (drop (suc i) sizes) → (1 ≤ gone) × (256 ≤ gone + get_or (drop (suc i) sizes) 0 0) =
      λ more.
      let two : i + 1 < length pages = omega (arith, length-drop (suc i) sizes, more, same) in
      let at : suc i + 0 ≡ i + 1 = omega arith in
      let a = ap length here in
      let b : length (get_or left_of (i + 1) []) ≡ get_or sizes (i + 1) 0 =
      ap length (get_or-set_other pages i (i + 1) (remove (get_or pages i []) place) [] (λ e. omega (arith, e))) ∙ sym (size-at (i + 1) two) in
      let enough = right two in
      (omega (arith, enough, a, b), omega (arith, enough, a, b, get_or-drop (suc i) sizes 0 0, ap (λ k. get_or sizes k 0) at)) in
      subst AreFilled (sym (sizes-left ∙ set_split sizes i gone in_list))
      (filled-less (take i sizes) (drop (suc i) sizes) (get_or sizes i 0) gone (size-at i within ∙ one) front back before)

-- the test whether two neighbours have to become one page
pub least-is : (pages : List (List ℕ)) (k : ℕ) → k + 1 < length pages →
    above_least (map length pages) k ≡ min (min (length (get_or pages k [])) (length (get_or pages (k + 1) [])))
    (length (get_or pages k []) + length (get_or pages (k + 1) []) - 255)
least-is pages k within = grind (arith, get_or-map)

pub page-within : (pages : List (List ℕ)) (k : ℕ) → AreFilled (map length pages) → length (get_or pages k []) ≤ 511
page-within pages k known =
    ⊎_elim
    (λ (inside : k < length pages). let at = known.within k 0 (omega (arith, inside, length-map pages length)) in
    omega (arith, at, get_or-map length pages k [] 0 inside))
    (λ (past : length pages ≤ k). omega (arith, ap length (get_or_past pages k [] past)))
    (cases_lt k (length pages))

-- no page has more than its room when one has lost a number
pub left-within : (pages : List (List ℕ)) (i place k : ℕ) → i < length pages → place < length (get_or pages i []) → AreFilled (map length pages) →
    length (get_or (set pages i (remove (get_or pages i []) place)) k []) ≤ 511
left-within pages i place k within inside known = grind (arith, get_or-set_same, length-remove, page-within, get_or-set_other, eqb_tells)
