-- A search among the first numbers of pages and one in a page: together a search among all numbers.
use Rattle.mq_sets.proofs.Common.{ℕ, zero, suc, ◌+◌, ◌-◌, ◌<◌, ◌≤◌, ◌≡◌, List, [], ◌∷◌, ◌++◌, length, map, take, drop, get_or, sum, sym, ap, ◌∙◌, subst, arith}
use Rattle.mq_sets.proofs.Common.{append_assoc, length-append, length-take, length-drop, All, HoldsAt, slice_index, flat_map-append, get_or_append_left}
use Rattle.mq_sets.proofs.Common.{get_or-append_right, get_or-take, get_or-drop, get_or-map, length-map, take-append-drop, take_rest, drop-map, All-nil}
use Rattle.mq_sets.proofs.Common.{All-cons, All-head, All-tail, All-append, All-weaker, All-drop, IsAscending, numbers_in, first_key, AreFilled, IsPlaceFor}
use Rattle.mq_sets.proofs.Ascents.{IsAscending-cons, IsAscending-head, IsAscending-tail}
use Rattle.mq_sets.proofs.PagedNumbers.{numbers-parts, length-numbers-take}

-- a fact about the last of two lists, and about the first
All-back : {X : Type 0} (P : X → Type 0) (xs ys : List X) → All P (xs ++ ys) → All P ys
All-back P [] ys all = all
All-back P (x ∷ xs) ys all = All-back P xs ys (All-tail P x (xs ++ ys) all)

module _ {X : Type 0} (number : X → ℕ) where
  pub IsAscending-back : (xs ys : List X) → IsAscending number (xs ++ ys) → IsAscending number ys
  IsAscending-back [] ys up = up
  IsAscending-back (x ∷ xs) ys up = IsAscending-back xs ys (IsAscending-tail number x (xs ++ ys) up)

  pub IsAscending-front : (xs ys : List X) → IsAscending number (xs ++ ys) → IsAscending number xs
  IsAscending-front xs ys up = grind (arith, length-append, get_or_append_left)

  -- the items before one are below
  before_one : (xs : List X) (y : X) (ys : List X) → IsAscending number (xs ++ y ∷ ys) → All (λ x. number x < number y) xs
  before_one [] y ys up = All-nil (λ x. number x < number y)
  before_one (x ∷ xs) y ys up =
      let above = IsAscending-head number x (xs ++ y ∷ ys) up in
      All-cons (λ x. number x < number y) x xs
      (All-head (λ z. number x < number z) y ys (All-back (λ z. number x < number z) xs (y ∷ ys) above))
      (before_one xs y ys (IsAscending-tail number x (xs ++ y ∷ ys) up))

  -- a place between what is below and what is above
  pub place-between : (n : ℕ) (xs ys : List X) → All (λ x. number x < n) xs → All (λ x. n < number x) ys → IsPlaceFor number (xs ++ ys) n (length xs)
  place-between n xs ys below above = grind (arith, length-append, get_or_append_left, get_or-append_right)

  pub below-place : (n j : ℕ) (xs : List X) → IsPlaceFor number xs n j → All (λ x. number x < n) (take j xs)
  below-place n j xs place = grind (arith, length-take, get_or-take)

  pub above-place : (n j : ℕ) (xs : List X) → IsPlaceFor number xs n j → All (λ x. n < number x) (drop j xs)
  above-place n j xs place = grind (arith, length-drop, get_or-drop)

-- the first numbers of pages
module _ (key_of : ℕ → ℕ) where
  pub firsts-all : (P : ℕ → Type 0) (pages : List (List ℕ)) → All (λ page. 1 ≤ length page) pages → All P (numbers_in pages) →
      All (λ page. P (get_or page 0 0)) pages
  firsts-all P [] some all = All-nil (λ page. P (get_or page 0 0))
  firsts-all P ([] ∷ pages) some all = absurd (omega (arith, All-head (λ (page : List ℕ). 1 ≤ length page) [] pages some))
  firsts-all P ((x ∷ page) ∷ pages) some all =
      All-cons (λ page. P (get_or page 0 0)) (x ∷ page) pages
      (All-head P x (page ++ numbers_in pages) all)
      (firsts-all P pages (All-tail (λ (page : List ℕ). 1 ≤ length page) (x ∷ page) pages some) (All-back P (x ∷ page) (numbers_in pages) all))

  pub firsts-ascend : (pages : List (List ℕ)) → All (λ page. 1 ≤ length page) pages → IsAscending key_of (numbers_in pages) →
      IsAscending (first_key key_of) pages
  firsts-ascend [] some up = λ i j d before in_list. absurd (omega arith)
  firsts-ascend ([] ∷ pages) some up = absurd (omega (arith, All-head (λ (page : List ℕ). 1 ≤ length page) [] pages some))
  firsts-ascend ((x ∷ page) ∷ pages) some up =
      let rest = All-tail (λ (page : List ℕ). 1 ≤ length page) (x ∷ page) pages some in
      let above = All-back (λ y. key_of x < key_of y) page (numbers_in pages) (IsAscending-head key_of x (page ++ numbers_in pages) up) in
      IsAscending-cons (first_key key_of) (x ∷ page) pages
      (firsts-all (λ y. key_of x < key_of y) pages rest above)
      (firsts-ascend pages rest (IsAscending-back key_of (x ∷ page) (numbers_in pages) up))

  -- all numbers of pages are above what their first ones are above
  pub above-firsts : (n : ℕ) (pages : List (List ℕ)) → All (λ page. 1 ≤ length page) pages → IsAscending key_of (numbers_in pages) →
      (0 < length pages → n < first_key key_of (get_or pages 0 [])) → All (λ x. n < key_of x) (numbers_in pages)
  above-firsts n [] some up above = All-nil (λ x. n < key_of x)
  above-firsts n ([] ∷ pages) some up above = absurd (omega (arith, All-head (λ (page : List ℕ). 1 ≤ length page) [] pages some))
  above-firsts n ((x ∷ page) ∷ pages) some up above =
      let first : n < key_of x = above (omega arith) in
      All-cons (λ x. n < key_of x) x (page ++ numbers_in pages) first
      (All-weaker (λ y. key_of x < key_of y) (λ y. n < key_of y) (λ y h. omega (arith, first, h)) (page ++ numbers_in pages)
      (IsAscending-head key_of x (page ++ numbers_in pages) up))

  -- all numbers before a page are below what its first one is below
  pub below-first : (n : ℕ) (xs page ys : List ℕ) → 1 ≤ length page → IsAscending key_of (xs ++ (page ++ ys)) → first_key key_of page < n →
      All (λ x. key_of x < n) xs
  below-first n xs [] ys some up below = absurd (omega arith)
  below-first n xs (y ∷ page) ys some up below =
      All-weaker (λ x. key_of x < key_of y) (λ x. key_of x < n) (λ x h. omega (arith, below, h)) xs (before_one key_of xs y (page ++ ys) up)

  -- the numbers before the page that a search among the first numbers finds
  before-page : (pages : List (List ℕ)) (i n : ℕ) → i < length pages → (2 ≤ length pages → All (λ page. 1 ≤ length page) pages) →
      IsAscending key_of (numbers_in pages) → IsPlaceFor (first_key key_of) (drop 1 pages) n i → All (λ x. key_of x < n) (numbers_in (take i pages))
  before-page pages zero n within some up directory = All-nil (λ x. key_of x < n)
  before-page pages (suc i) n within some up directory =
      let filled : 1 ≤ length (get_or pages (suc i) []) = some (omega arith) (suc i) [] within in
      let whole : IsAscending key_of (numbers_in (take (suc i) pages) ++ (get_or pages (suc i) [] ++ numbers_in (drop (suc (suc i)) pages))) =
      subst (IsAscending key_of) (numbers-parts pages (suc i) within) up in
      let at = directory.below i [] (omega arith) (omega arith) in
      let index : 1 + i ≡ suc i = omega arith in
      let same : first_key key_of (get_or (drop 1 pages) i []) ≡ first_key key_of (get_or pages (suc i) []) =
      ap (first_key key_of) (get_or-drop 1 pages i [] ∙ ap (λ k. get_or pages k []) index) in
      below-first n (numbers_in (take (suc i) pages)) (get_or pages (suc i) []) (numbers_in (drop (suc (suc i)) pages)) filled whole (omega (arith, at, same))

  -- and the numbers after that page
  behind-page : (pages : List (List ℕ)) (i n : ℕ) → i < length pages → (2 ≤ length pages → All (λ page. 1 ≤ length page) pages) →
      IsAscending key_of (numbers_in pages) → IsPlaceFor (first_key key_of) (drop 1 pages) n i → All (λ x. n < key_of x) (numbers_in (drop (suc i) pages))
  behind-page pages i n within some up directory =
      let whole : IsAscending key_of (numbers_in (take i pages) ++ (get_or pages i [] ++ numbers_in (drop (suc i) pages))) =
      subst (IsAscending key_of) (numbers-parts pages i within) up in
      let later = length-drop (suc i) pages in
      let fewer = length-drop 1 pages in
      let filled : All (λ (page : List ℕ). 1 ≤ length page) (drop (suc i) pages) = λ k d in_list. All-drop (λ (page : List ℕ). 1 ≤ length page)
      (suc i) pages (some (omega (arith, later, in_list))) k d in_list in
      let at : suc i + 0 ≡ 1 + i = omega arith in
      let next : 0 < length (drop (suc i) pages) → n < first_key key_of (get_or (drop (suc i) pages) 0 []) =
      λ more.
      let above = directory.above i [] (omega arith) (omega (arith, fewer, later, more)) in
      omega (
        arith,
        above,
        ap (first_key key_of) (get_or-drop 1 pages i []),
        ap (first_key key_of) (get_or-drop (suc i) pages 0 []),
        ap (λ k. first_key key_of (get_or pages k [])) at,
      ) in
      above-firsts n (drop (suc i) pages) filled
      (IsAscending-back key_of (get_or pages i []) (numbers_in (drop (suc i) pages))
      (IsAscending-back key_of (numbers_in (take i pages)) (get_or pages i [] ++ numbers_in (drop (suc i) pages)) whole)) next

  -- the place among all numbers
  pub place-in_pages : (pages : List (List ℕ)) (i j n : ℕ) → i < length pages → (2 ≤ length pages → All (λ page. 1 ≤ length page) pages) →
      IsAscending key_of (numbers_in pages) → IsPlaceFor (first_key key_of) (drop 1 pages) n i → IsPlaceFor key_of (get_or pages i []) n j →
      IsPlaceFor key_of (numbers_in pages) n (sum (take i (map length pages)) + j)
  place-in_pages pages i j n within some up directory place =
      let front = numbers_in (take i pages) in
      let page = get_or pages i [] in
      let behind = numbers_in (drop (suc i) pages) in
      let below = All-append (λ x. key_of x < n) front (take j page) (before-page pages i n within some up directory) (below-place key_of n j page place) in
      let above = All-append (λ x. n < key_of x) (drop j page) behind (above-place key_of n j page place) (behind-page pages i n within some up directory) in
      let found = place-between key_of n (front ++ take j page) (drop j page ++ behind) below above in
      let size : length (front ++ take j page) ≡ sum (take i (map length pages)) + j =
      omega (arith, length-append front (take j page), length-numbers-take pages i, length-take j page, place.within) in
      let list : (front ++ take j page) ++ (drop j page ++ behind) ≡ numbers_in pages =
      append_assoc front (take j page) (drop j page ++ behind)
      ∙ ap (λ xs. front ++ xs) (sym (append_assoc (take j page) (drop j page) behind) ∙ ap (λ xs. xs ++ behind) (take-append-drop j page))
      ∙ sym (numbers-parts pages i within) in
      subst (λ k. IsPlaceFor key_of (numbers_in pages) n k) size (subst (λ xs. IsPlaceFor key_of xs n (length (front ++ take j page))) list found)

  -- the numbers of a page ascend
  pub ascending-page : (pages : List (List ℕ)) (i : ℕ) → i < length pages → IsAscending key_of (numbers_in pages) → IsAscending key_of (get_or pages i [])
  ascending-page pages i within up =
      IsAscending-front key_of (get_or pages i []) (numbers_in (drop (suc i) pages))
      (IsAscending-back key_of (numbers_in (take i pages)) (get_or pages i [] ++ numbers_in (drop (suc i) pages))
      (subst (IsAscending key_of) (numbers-parts pages i within) up))

-- a fact about all numbers holds for those of a page
pub All-page : (P : ℕ → Type 0) (pages : List (List ℕ)) (i : ℕ) → i < length pages → All P (numbers_in pages) → All P (get_or pages i [])
All-page P pages i within all =
    let whole : All P (numbers_in (take i pages) ++ (get_or pages i [] ++ numbers_in (drop (suc i) pages))) =
    subst (All P) (numbers-parts pages i within) all in
    let back = All-back P (numbers_in (take i pages)) (get_or pages i [] ++ numbers_in (drop (suc i) pages)) whole in
    λ k d in_list. subst P (get_or_append_left (get_or pages i []) (numbers_in (drop (suc i) pages)) d k in_list)
    (back k d (omega (arith, in_list, length-append (get_or pages i []) (numbers_in (drop (suc i) pages)))))

-- a fact about each item, if it holds for each result of a map
module _ {X Y : Type 0} (items : X → Y) where
  pub All-unmap : (P : Y → Type 0) (xs : List X) → All P (map items xs) → All (λ x. P (items x)) xs
  All-unmap P xs all k d in_list = subst P (get_or-map items xs k d (items d) in_list) (all k (items d) (omega (arith, in_list, length-map xs items)))

  pub IsAscending-unmap : (number : Y → ℕ) (xs : List X) → IsAscending number (map items xs) → IsAscending (λ x. number (items x)) xs
  IsAscending-unmap number xs up i j d before in_list =
      let step = up i j (items d) before (omega (arith, in_list, length-map xs items)) in
      omega (arith, step, ap number (get_or-map items xs i d (items d) (omega arith)), ap number (get_or-map items xs j d (items d) in_list))

  pub holds-map : (P : Y → Type 0) (xs : List X) (k : ℕ) (e : Y) → k < length xs → HoldsAt (λ x. P (items x)) xs k → P (get_or (map items xs) k e)
  holds-map P [] k e in_list holds = absurd (omega (arith, in_list))
  holds-map P (x ∷ xs) k e in_list holds = subst P (sym (get_or-map items (x ∷ xs) k x e in_list)) (holds x)

  pub place-map : (number : Y → ℕ) (xs : List X) (n i : ℕ) → IsPlaceFor (λ x. number (items x)) xs n i → IsPlaceFor number (map items xs) n i
  place-map number [] n i place =
      record {
        within = omega (arith, place.within);
        below = λ k d from upto. absurd (omega (arith, place.within, upto));
        above =
            λ k d from upto. absurd (omega (arith, upto));
      }
  place-map number (x ∷ xs) n i place = record {
    within = omega (arith, place.within, length-map (x ∷ xs) items);
    below = λ k d from upto. let at = place.below k x from upto in
        omega (arith, at, place.within, ap number (get_or-map items (x ∷ xs) k x d (omega (arith, place.within, upto))));
    above = λ k d from upto. let at = place.above k x from (omega (arith, upto, length-map (x ∷ xs) items)) in
        omega (arith, at, ap number (get_or-map items (x ∷ xs) k x d (omega (arith, upto, length-map (x ∷ xs) items))));
  }

-- the pages behind the first
pub slice-later : {X : Type 0} (items : X → List ℕ) (used slice : List X) (pages : List (List ℕ)) → slice ≡ used → map items used ≡ pages →
    map items (take (length slice - 1) (drop 1 slice)) ≡ drop 1 pages
slice-later items used slice pages same is =
    ap (map items) (take_rest slice 1 ∙ ap (drop 1) same) ∙ sym (drop-map items 1 used) ∙ ap (drop 1) is

pub some-pages : (pages : List (List ℕ)) → AreFilled (map length pages) → 2 ≤ length pages → All (λ page. 1 ≤ length page) pages
some-pages pages known two = All-unmap length (λ n. 1 ≤ n) pages (known.none_empty (omega (arith, two, length-map pages length)))

pub some-later : (pages : List (List ℕ)) → AreFilled (map length pages) → All (λ page. 1 ≤ length page) (drop 1 pages)
some-later pages known k d in_list =
    let fewer = length-drop 1 pages in
    All-drop (λ (page : List ℕ). 1 ≤ length page) 1 pages (some-pages pages known (omega (arith, fewer, in_list))) k d in_list

later-parts : (pages : List (List ℕ)) → numbers_in pages ≡ numbers_in (take 1 pages) ++ numbers_in (drop 1 pages)
later-parts pages = ap numbers_in (sym (take-append-drop 1 pages)) ∙ flat_map-append (λ p. p) (take 1 pages) (drop 1 pages)

pub ascending-later : (key_of : ℕ → ℕ) (pages : List (List ℕ)) → AreFilled (map length pages) → IsAscending key_of (numbers_in pages) →
    IsAscending (first_key key_of) (drop 1 pages)
ascending-later key_of pages known up =
    firsts-ascend key_of (drop 1 pages) (some-later pages known)
    (IsAscending-back key_of (numbers_in (take 1 pages)) (numbers_in (drop 1 pages)) (subst (IsAscending key_of) (later-parts pages) up))

pub firsts-later : (P : ℕ → Type 0) (pages : List (List ℕ)) → AreFilled (map length pages) → All P (numbers_in pages) →
    All (λ page. P (slice_index page 0)) (drop 1 pages)
firsts-later P pages known all =
    firsts-all (λ n. n) P (drop 1 pages) (some-later pages known)
    (All-back P (numbers_in (take 1 pages)) (numbers_in (drop 1 pages)) (subst (All P) (later-parts pages) all))
