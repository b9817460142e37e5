-- The moved items if a number leaves its page.
use Rattle.mq_sets.proofs.Common.{ℕ, ◌+◌, ◌-◌, ◌<◌, ◌≤◌, ◌≡◌, min, List, [], length, map, set, get_or, arith, ⊎_elim, remove, cases_lt, lt-ltb, le-ltb, map-set}
use Rattle.mq_sets.proofs.Common.{get_or-map, length-map, length-remove, above_least, moved_by_join, moved_by_joins, moved_by_remove, have_to_join, Spot, cond}

module _ (pages : List ℕ) (i : ℕ) where
  neither : (i + 1 < length pages → 1 ≤ above_least pages i) → min 1 (length pages - 1 - i) ≤ above_least pages i
  neither enough =
      ⊎_elim (λ (more : i + 1 < length pages). omega (arith, enough more)) (λ (last : length pages ≤ i + 1). omega (arith, last))
      (cases_lt (i + 1) (length pages))

  pub joins-behind : i + 1 < length pages → above_least pages i ≡ 0 → moved_by_joins pages i ≡ moved_by_join pages i
  joins-behind two small = grind (arith, lt-ltb)

  pub joins-other : (i + 1 < length pages → 1 ≤ above_least pages i) → moved_by_joins pages i ≡ cond (have_to_join pages (i - 1))
      (moved_by_join pages (i - 1)) 0
  joins-other enough = grind (arith, le-ltb, neither)

module _ (pages : List ℕ) (i : ℕ) (enough : i + 1 < length pages → 1 ≤ above_least pages i) where
  pub joins-before : i - 1 + 1 < length pages → above_least pages (i - 1) ≡ 0 → moved_by_joins pages i ≡ moved_by_join pages (i - 1)
  joins-before two small = grind (arith, joins-other, lt-ltb)

  pub joins-none : (i - 1 + 1 < length pages → 1 ≤ above_least pages (i - 1)) → moved_by_joins pages i ≡ 0
  joins-none enough_before = grind (arith, joins-other, le-ltb, neither)

-- the sizes of the pages where a number has left one
pub sizes-left : (pages : List (List ℕ)) (i place : ℕ) → i < length pages → place < length (get_or pages i []) →
    map length (set pages i (remove (get_or pages i []) place)) ≡ set (map length pages) i (get_or (map length pages) i 0 - 1)
sizes-left pages i place within inside = grind (arith, length-remove, get_or-map, map-set)

-- the moves of a removal, with those of its joins
pub moved-remove : (pages left : List (List ℕ)) (spot : Spot) → spot.page < length pages → spot.place < length (get_or pages spot.page []) →
    left ≡ set pages spot.page (remove (get_or pages spot.page []) spot.place) → moved_by_remove (map length pages) spot
    ≡ length (get_or pages spot.page []) - spot.place + moved_by_joins (map length left) spot.page
moved-remove pages left spot within inside is = grind (arith, sizes-left, get_or-map)

-- the moves of a join, by the pages themselves
pub moved-join : (pages : List (List ℕ)) (i : ℕ) → i + 1 < length pages → moved_by_join (map length pages) i
    ≡ length (get_or pages (i + 1) []) + (length pages - 1 - i)
moved-join pages i two = omega (arith, get_or-map length pages (i + 1) [] 0 two, length-map pages length)
