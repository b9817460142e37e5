-- Numbers in pages, as one list: what an edit of a page is there.
use Rattle.mq_sets.proofs.Common.{ℕ, suc, ◌+◌, ◌-◌, ◌*◌, ◌<◌, ◌≤◌, ◌≡◌, List, [], ◌∷◌, ◌++◌, length, map, take, drop, set, get_or, refl, sym, ap, ◌∙◌, subst}
use Rattle.mq_sets.proofs.Common.{arith, sum, add-one, append_assoc, length-append, length-take, length-drop, insert, set_split, set-get_or, take-map}
use Rattle.mq_sets.proofs.Common.{take-append-drop, map-set, take_more_set, drop-set-lt, get_or-map, drop-map, length-map, map-append, take_at, get_or_at}
use Rattle.mq_sets.proofs.Common.{sum-map, sum_by_more, flat_map-append, length-flat_map, get_or-flat_map, insert-append_left, insert-append_right}
use Rattle.mq_sets.proofs.Common.{length-insert, PagesState, numbers_in, AreFilled}
use Rattle.mq_sets.proofs.PageSizes.{AreFilled-grown, AreFilled-halved, few_pages}

-- the state of pages with this limit
abbrev pub paged : List (List ℕ) → ℕ → PagesState
paged pages limit = record { pages = pages; limit = limit }

pub paged-same : {p q : List (List ℕ)} {k l : ℕ} → p ≡ q → k ≡ l → paged p k ≡ paged q l
paged-same same equal = rw (same, equal) refl

-- the pages around one of them
pub in_parts : {X : Type 0} (xs : List X) (i : ℕ) (d : X) → i < length xs → xs ≡ take i xs ++ get_or xs i d ∷ drop (suc i) xs
in_parts xs i d within = sym (set-get_or xs i d) ∙ set_split xs i (get_or xs i d) within

-- the numbers around a page
pub numbers-set : (pages : List (List ℕ)) (i : ℕ) (page : List ℕ) → i < length pages → numbers_in (set pages i page) ≡ numbers_in (take i pages) ++
    (page ++ numbers_in (drop (suc i) pages))
numbers-set pages i page within = ap numbers_in (set_split pages i page within) ∙ flat_map-append (λ p. p) (take i pages) (page ∷ drop (suc i) pages)

pub numbers-parts : (pages : List (List ℕ)) (i : ℕ) → i < length pages → numbers_in pages ≡ numbers_in (take i pages) ++
    (get_or pages i [] ++ numbers_in (drop (suc i) pages))
numbers-parts pages i within = ap numbers_in (sym (set-get_or pages i [])) ∙ numbers-set pages i (get_or pages i []) within

-- the number of numbers
pub length-numbers : (pages : List (List ℕ)) → length (numbers_in pages) ≡ sum (map length pages)
length-numbers pages = length-flat_map (λ p. p) pages ∙ sym (sum-map length pages)

pub length-numbers-take : (pages : List (List ℕ)) (i : ℕ) → length (numbers_in (take i pages)) ≡ sum (take i (map length pages))
length-numbers-take pages i = length-numbers (take i pages) ∙ ap sum (sym (take-map length i pages))

-- a number that is put into a page
pub numbers-insert : (pages : List (List ℕ)) (i place number : ℕ) → i < length pages → place ≤ length (get_or pages i []) →
    numbers_in (set pages i (insert (get_or pages i []) place number)) ≡ insert (numbers_in pages) (sum (take i (map length pages)) + place) number
numbers-insert pages i place number within fits =
    let front = numbers_in (take i pages) in
    let page = get_or pages i [] in
    let behind = numbers_in (drop (suc i) pages) in
    let before = length-numbers-take pages i in
    let rank = sum (take i (map length pages)) + place in
    let there : insert (front ++ (page ++ behind)) rank number ≡ front ++ insert (page ++ behind) (rank - sum (take i (map length pages))) number =
    insert-append_right front (page ++ behind) (sum (take i (map length pages))) rank number before (omega arith) in
    let at : rank - sum (take i (map length pages)) ≡ place = omega arith in
    numbers-set pages i (insert page place number) within
    ∙ ap (λ xs. front ++ xs) (sym (insert-append_left page behind place number fits) ∙ ap (λ k. insert (page ++ behind) k number) (sym at))
    ∙ sym there
    ∙ ap (λ xs. insert xs rank number) (sym (numbers-parts pages i within))

-- the pages where one of them becomes two
abbrev pub halved : List (List ℕ) → ℕ → List (List ℕ)
halved pages i = take i pages ++ take 255 (get_or pages i []) ∷ drop 255 (get_or pages i []) ∷ drop (suc i) pages

pub halved-is : (pages : List (List ℕ)) (i : ℕ) → i < length pages → insert (set pages i (take 255 (get_or pages i []))) (i + 1)
    (drop 255 (get_or pages i [])) ≡ halved pages i
halved-is pages i within = grind (arith, take_more_set, drop-set-lt, add-one, append_assoc)

pub numbers-halved : (pages : List (List ℕ)) (i : ℕ) → i < length pages → numbers_in (halved pages i) ≡ numbers_in pages
numbers-halved pages i within =
    let page = get_or pages i [] in
    let behind = numbers_in (drop (suc i) pages) in
    flat_map-append (λ p. p) (take i pages) (take 255 page ∷ drop 255 page ∷ drop (suc i) pages)
    ∙ ap (λ xs. numbers_in (take i pages) ++ xs)
    (sym (append_assoc (take 255 page) (drop 255 page) behind) ∙ ap (λ xs. xs ++ behind) (take-append-drop 255 page))
    ∙ sym (numbers-parts pages i within)

-- the sizes of the pages where one of them becomes two
pub sizes-halved : (pages : List (List ℕ)) (i : ℕ) → i < length pages → length (get_or pages i []) ≡ 511 →
    map length (halved pages i) ≡ take i (map length pages) ++ 255 ∷ 256 ∷ drop (suc i) (map length pages)
sizes-halved pages i within full =
    let page = get_or pages i [] in
    let first : length (take 255 page) ≡ 255 = omega (arith, length-take 255 page, full) in
    let second : length (drop 255 page) ≡ 256 = omega (arith, length-drop 255 page, full) in
    map-append length (take i pages) (take 255 page ∷ drop 255 page ∷ drop (suc i) pages)
    ∙ rw (first, second, take-map length i pages, drop-map length (suc i) pages) refl

sizes-full : (pages : List (List ℕ)) (i : ℕ) → i < length pages → length (get_or pages i []) ≡ 511 → map length pages ≡ take i (map length pages) ++
    511 ∷ drop (suc i) (map length pages)
sizes-full pages i within full =
    let same = length-map pages length in
    let here : get_or (map length pages) i 0 ≡ 511 = get_or-map length pages i [] 0 within ∙ full in
    in_parts (map length pages) i 0 (omega (arith, same, within)) ∙ ap (λ n. take i (map length pages) ++ n ∷ drop (suc i) (map length pages)) here

pub filled-halved : (pages : List (List ℕ)) (i : ℕ) → i < length pages → length (get_or pages i []) ≡ 511 → AreFilled (map length pages) →
    AreFilled (map length (halved pages i))
filled-halved pages i within full known =
    let before : AreFilled (take i (map length pages) ++ 511 ∷ drop (suc i) (map length pages)) = subst AreFilled (sizes-full pages i within full) known in
    subst AreFilled (sym (sizes-halved pages i within full)) (AreFilled-halved (take i (map length pages)) (drop (suc i) (map length pages)) before)

-- there is room for one page more
pub room-halved : (pages : List (List ℕ)) (i limit : ℕ) → i < length pages → length (get_or pages i []) ≡ 511 → AreFilled (map length pages) →
    length (numbers_in pages) < 128 * limit → length pages < limit
room-halved pages i limit within full known room =
    let after = filled-halved pages i within full known in
    let few = few_pages (map length (halved pages i)) after.pairs in
    let total = length-numbers (halved pages i) in
    let same = ap length (numbers-halved pages i within) in
    let count = length-map (halved pages i) length in
    let long = length-append (take i pages) (take 255 (get_or pages i []) ∷ drop 255 (get_or pages i []) ∷ drop (suc i) pages) in
    omega (arith, few, total, same, count, long, room, length-take i pages, length-drop (suc i) pages, within)

-- the pages before the two halves
front-halved : (pages : List (List ℕ)) (i : ℕ) → i < length pages → take i (halved pages i) ≡ take i pages
front-halved pages i within = take_at (take i pages) (take 255 (get_or pages i []) ∷ drop 255 (get_or pages i []) ∷ drop (suc i) pages) i
    (omega (arith, length-take i pages, within))

pub first-halved : (pages : List (List ℕ)) (i : ℕ) → i < length pages → get_or (halved pages i) i [] ≡ take 255 (get_or pages i [])
first-halved pages i within = get_or_at (take i pages) (take 255 (get_or pages i [])) (drop 255 (get_or pages i []) ∷ drop (suc i) pages) [] i
    (omega (arith, length-take i pages, within))

halved-later : (pages : List (List ℕ)) (i : ℕ) → halved pages i ≡ (take i pages ++ take 255 (get_or pages i []) ∷ []) ++
    drop 255 (get_or pages i []) ∷ drop (suc i) pages
halved-later pages i = sym (append_assoc (take i pages) (take 255 (get_or pages i []) ∷ []) (drop 255 (get_or pages i []) ∷ drop (suc i) pages))

length-later : (pages : List (List ℕ)) (i : ℕ) → i < length pages → length (take i pages ++ take 255 (get_or pages i []) ∷ []) ≡ i + 1
length-later pages i within = let n = length-append (take i pages) (take 255 (get_or pages i []) ∷ []) in omega (arith, n, length-take i pages, within)

pub second-halved : (pages : List (List ℕ)) (i : ℕ) → i < length pages → get_or (halved pages i) (i + 1) [] ≡ drop 255 (get_or pages i [])
second-halved pages i within = grind (arith, halved-later, get_or_at, length-later)

pub rank-halved : (pages : List (List ℕ)) (i : ℕ) → i < length pages → sum (take i (map length (halved pages i))) ≡ sum (take i (map length pages))
rank-halved pages i within = ap sum (take-map length i (halved pages i) ∙ ap (map length) (front-halved pages i within) ∙ sym (take-map length i pages))

pub rank-halved_later : (pages : List (List ℕ)) (i : ℕ) → i < length pages → length (get_or pages i []) ≡ 511 →
    sum (take (i + 1) (map length (halved pages i))) ≡ sum (take i (map length pages)) + 255
rank-halved_later pages i within full =
    let more = sum_by_more (λ n. n) (map length (halved pages i)) i 0 in
    let long = ap length (sizes-halved pages i within full) in
    let total = length-append (take i (map length pages)) (255 ∷ 256 ∷ drop (suc i) (map length pages)) in
    let same = length-map pages length in
    let here : get_or (map length (halved pages i)) i 0 ≡ 255 =
    ap (λ xs. get_or xs i 0) (sizes-halved pages i within full)
    ∙ get_or_at (take i (map length pages)) 255 (256 ∷ drop (suc i) (map length pages)) 0 i (omega (arith, length-take i (map length pages), same, within)) in
    let step = more (omega (arith, long, total, same, within, length-take i (map length pages))) in
    let front = rank-halved pages i within in
    omega (arith, step, here, front)

-- a page that has one number more
pub filled-insert : (pages : List (List ℕ)) (i place number : ℕ) → i < length pages → place ≤ length (get_or pages i []) →
    length (get_or pages i []) < 511 → AreFilled (map length pages) → AreFilled (map length (set pages i (insert (get_or pages i []) place number)))
filled-insert pages i place number within fits room known =
    let page = get_or pages i [] in
    let longer = length-insert page place number fits in
    let same = length-map pages length in
    let here : get_or (map length pages) i 0 ≡ length page = get_or-map length pages i [] 0 within in
    subst AreFilled (sym (map-set length pages i (insert page place number)))
    (AreFilled-grown (map length pages) i (length (insert page place number)) (omega (arith, same, within)) (omega (arith, here, longer))
    (omega (arith, longer, room)) (omega (arith, longer)) known)

-- a number that is put into the first half of a full page, or into the second
module _ (pages : List (List ℕ)) (i place number : ℕ) (after : List (List ℕ)) (within : i < length pages) (full : length (get_or pages i []) ≡ 511)
    (known : AreFilled (map length pages)) where
  pub first-fits : place ≤ 255 → place ≤ length (get_or (halved pages i) i [])
  first-fits fits = omega (arith, ap length (first-halved pages i within), length-take 255 (get_or pages i []), full)

  pub first-room : length (get_or (halved pages i) i []) < 511
  first-room = omega (arith, ap length (first-halved pages i within), length-take 255 (get_or pages i []), full)

  pub second-fits : place ≤ 511 → place - 255 ≤ length (get_or (halved pages i) (i + 1) [])
  second-fits fits = omega (arith, ap length (second-halved pages i within), length-drop 255 (get_or pages i []), full)

  pub second-room : length (get_or (halved pages i) (i + 1) []) < 511
  second-room = omega (arith, ap length (second-halved pages i within), length-drop 255 (get_or pages i []), full)

  pub in-halved : i + 1 < length (halved pages i)
  in-halved = omega (
    arith,
    length-append (take i pages) (take 255 (get_or pages i []) ∷ drop 255 (get_or pages i []) ∷ drop (suc i) pages),
    length-take i pages,
    within,
  )

  pub numbers-first : after ≡ set (halved pages i) i (insert (get_or (halved pages i) i []) place number) → place ≤ 255 →
      numbers_in after ≡ insert (numbers_in pages) (sum (take i (map length pages)) + place) number
  numbers-first is fits = grind (arith, numbers-insert, in-halved, first-fits, numbers-halved, rank-halved)

  pub filled-first : after ≡ set (halved pages i) i (insert (get_or (halved pages i) i []) place number) → place ≤ 255 → AreFilled (map length after)
  filled-first is fits =
      subst (λ xs. AreFilled (map length xs)) (sym is)
      (filled-insert (halved pages i) i place number (omega (arith, in-halved)) (first-fits fits) first-room (filled-halved pages i within full known))

  pub numbers-second : after ≡ set (halved pages i) (i + 1) (insert (get_or (halved pages i) (i + 1) []) (place - 255) number) → 255 < place →
      place ≤ 511 → numbers_in after ≡ insert (numbers_in pages) (sum (take i (map length pages)) + place) number
  numbers-second is behind fits = grind (arith, rank-halved_later, numbers-insert, in-halved, second-fits, numbers-halved)

  pub filled-second : after ≡ set (halved pages i) (i + 1) (insert (get_or (halved pages i) (i + 1) []) (place - 255) number) → place ≤ 511 →
      AreFilled (map length after)
  filled-second is fits =
      subst (λ xs. AreFilled (map length xs)) (sym is)
      (filled-insert (halved pages i) (i + 1) (place - 255) number in-halved (second-fits fits) second-room (filled-halved pages i within full known))

-- where a number of a page stands among all
pub rank-below : (pages : List (List ℕ)) (i j : ℕ) → i < length pages → j < length (get_or pages i []) →
    length (numbers_in (take i pages)) + j < length (numbers_in pages)
rank-below pages i j within inside =
    let whole = ap length (numbers-parts pages i within) in
    let front = numbers_in (take i pages) in
    let behind = numbers_in (drop (suc i) pages) in
    omega (arith, whole, length-append front (get_or pages i [] ++ behind), length-append (get_or pages i []) behind, inside)

pub number-there : (pages : List (List ℕ)) (i j : ℕ) → i < length pages → j < length (get_or pages i []) →
    get_or (numbers_in pages) (length (numbers_in (take i pages)) + j) 0 ≡ get_or (get_or pages i []) j 0
number-there pages i j within inside = get_or-flat_map (λ p. p) pages i j [] 0 within inside
