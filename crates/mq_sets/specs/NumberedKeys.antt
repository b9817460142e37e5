-- An ordered set of keys, each with a number for its life, and the pages of these numbers.
use Rattle.std.specs.Prelude.{ℕ, ◌+◌, ◌-◌, ◌≡◌, ◌<◌, ◌≤◌, min, nat_lt, nat_le, if◌then◌else◌, Bool, List, [], ◌∷◌, ◌++◌, length, map, take, sum, slice_index, slice_index_or, slice_set}
use Rattle.std.specs.List.{All, HoldsAt, count_by, flat_map, remove}
use Rattle.std.specs.Option.{option_map_or}
use Rattle.mq_sets.specs.Ascending.{item_with}
use Rattle.mq_sets.specs.Search.{IsPlaceFor}
use Rattle.mq_sets.specs.declared.spots.Spot.{Spot}

-- an item of the set: its number, and the number by which its key is compared
pub record NumberedKey : Type 0 where
  pub number : ℕ
  pub key : ℕ

-- The set, as a contract sees it. Its items ascend by their keys. `pages` has the number of items of each page, and
-- `room` is the greatest number of items.
pub record NumberedKeysState : Type 0 where
  pub items : List NumberedKey
  pub pages : List ℕ
  pub room : ℕ

-- the pages, as a contract sees them: the numbers of each, and the greatest number of pages
pub record PagesState : Type 0 where
  pub pages : List (List ℕ)
  pub limit : ℕ

-- the numbers of all pages, in order
abbrev pub numbers_in : List (List ℕ) → List ℕ
numbers_in pages = flat_map (λ p. p) pages

-- the number by which the key at a number is compared
abbrev pub key_at : {K : Type 0} → (K → ℕ) → List K → ℕ → ℕ
key_at number keys n = slice_index (map number keys) n

-- the number by which the key of a page's first number is compared
abbrev pub first_key : (ℕ → ℕ) → List ℕ → ℕ
first_key key_of page = key_of (slice_index page 0)

-- a spot that has a number, and that number
abbrev pub IsTaken : List (List ℕ) → Spot → Type 0
IsTaken pages spot = (spot.page < length pages) × (spot.place < length (slice_index_or pages spot.page []))

abbrev pub number_at : List (List ℕ) → Spot → ℕ
number_at pages spot = slice_index (slice_index_or pages spot.page []) spot.place

-- the items with these numbers
abbrev pub items_by : (ℕ → ℕ) → List ℕ → List NumberedKey
items_by key_of numbers = map (λ n. record { number = n; key = key_of n }) numbers

-- the number by which the key of the item with a number is compared
abbrev pub key_in : List NumberedKey → ℕ → ℕ
key_in items n = option_map_or (λ x. x.key) (item_with (λ x. x.number) items n) 0

-- The items written to put numbers in the order of their keys, one after another. Each number is written, and so is
-- each earlier one with a greater key, which makes way.
unfoldable pub moved_in_order : (ℕ → ℕ) → List ℕ → ℕ
moved_in_order key_of [] = 0
moved_in_order key_of (n ∷ numbers) = 1 + count_by (λ m. nat_lt (key_of m) (key_of n)) numbers + moved_in_order key_of numbers

-- the number of items before a spot
abbrev pub rank_of : List ℕ → Spot → ℕ
rank_of pages spot = sum (take spot.page pages) + spot.place

-- an item of key n goes at this spot: the items before it have lower keys, and all others higher ones
pub record IsSpotFor (items : List NumberedKey) (pages : List ℕ) (n : ℕ) (spot : Spot) : Type 0 where
  pub page : spot.page < length pages
  pub place : spot.place ≤ slice_index pages spot.page
  pub goes : IsPlaceFor (λ (x : NumberedKey). x.key) items n (rank_of pages spot)

-- the number of pairs of neighbouring pages that have fewer than 256 items together
abbrev pub small_pairs : List ℕ → ℕ
small_pairs [] = 0
small_pairs (a ∷ []) = 0
small_pairs (a ∷ b ∷ pages) = min 1 (256 - (a + b)) + small_pairs (b ∷ pages)

-- No page exceeds its room, and none is empty unless it is the only one. Two neighbours together have at least half of
-- a page's room.
pub record AreFilled (pages : List ℕ) : Type 0 where
  pub some : 1 ≤ length pages
  pub within : All (λ n. n ≤ 511) pages
  pub none_empty : 2 ≤ length pages → All (λ n. 1 ≤ n) pages
  pub pairs : small_pairs pages ≡ 0

-- The items moved to insert one at a spot: the later items of its page, and itself. If the page is full, its second
-- half first goes into a page of its own, and the later pages move up.
abbrev pub moved_behind : (count place : ℕ) → ℕ
moved_behind count place = count - place + 1

abbrev pub moved_by_split : (pages : ℕ) → Spot → ℕ
moved_by_split pages spot =
    256 + (pages - spot.page) + (if nat_le spot.place 255 then moved_behind 255 spot.place else moved_behind 256 (spot.place - 255))

abbrev pub moved_by_insert : List ℕ → Spot → ℕ
moved_by_insert pages spot =
    if nat_lt (slice_index pages spot.page) 511
    then moved_behind (slice_index pages spot.page) spot.place
    else moved_by_split (length pages) spot

-- 0 if a page and the next must become one: one is empty, or both together have too few numbers
abbrev pub above_least : List ℕ → ℕ → ℕ
above_least pages i =
    min (min (slice_index pages i) (slice_index pages (i + 1))) (slice_index pages i + slice_index pages (i + 1) - 255)

-- a page and the next must become one
abbrev pub have_to_join : List ℕ → ℕ → Bool
have_to_join pages i = nat_lt (above_least pages i) (min 1 (length pages - 1 - i))

-- the items moved by a join: the numbers of the second page, and the pages after the first
abbrev pub moved_by_join : List ℕ → ℕ → ℕ
moved_by_join pages i = slice_index pages (i + 1) + (length pages - 1 - i)

-- the items moved once page i has shrunk: it joins the next page, or else the one before, or neither
abbrev pub moved_by_joins : List ℕ → ℕ → ℕ
moved_by_joins pages i =
    if have_to_join pages i then moved_by_join pages i
    else (if have_to_join pages (i - 1) then moved_by_join pages (i - 1) else 0)

-- the items moved to remove the one at a spot: itself, the later items of its page, and those of joins
abbrev pub moved_by_remove : List ℕ → Spot → ℕ
moved_by_remove pages spot =
    slice_index pages spot.page - spot.place
    + moved_by_joins (slice_set pages spot.page (slice_index pages spot.page - 1)) spot.page

-- the pages after page i and the next became one
abbrev pub joined : List (List ℕ) → ℕ → List (List ℕ)
joined pages i =
    slice_set (remove pages (i + 1)) i (slice_index_or pages i [] ++ slice_index_or pages (i + 1) [])

-- `new` is `old` without the item of this number
pub record IsWithout (old new : List NumberedKey) (number : ℕ) : Type 0 where
  pub rank : ℕ
  pub there : rank < length old
  pub is : HoldsAt (λ (x : NumberedKey). x.number ≡ number) old rank
  pub rest : new ≡ remove old rank
