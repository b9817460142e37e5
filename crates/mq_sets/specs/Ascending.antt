-- Lists of items that carry a number, as sets of numbers.
use Rattle.std.specs.Prelude.{ℕ, ◌<◌, ◌≡◌, Bool, List, Option, AllPairs, find, map, ◌==◌, is_some, IfSome}
use Rattle.std.specs.List.{list_any}
use Rattle.std.specs.Option.{option_map}
use Rattle.std.specs.Ordering.{nat_cmp}
use Rattle.std.specs.FinMap as map_of

-- each item's number is below those of all later items, so none stands twice
abbrev pub IsAscending : {X : Type 0} → (X → ℕ) → List X → Type 0
IsAscending number xs = AllPairs (λ x y. number x < number y) xs

-- the numbers of the items, as a set: the test whether some item has a number
abbrev pub set_of : {X : Type 0} → (X → ℕ) → List X → ℕ → Bool
set_of number xs n = list_any (λ x. number x == n) xs

-- the item that has a number, if there is one
abbrev pub item_with : {X : Type 0} → (X → ℕ) → List X → ℕ → Option X
item_with number xs n = find (λ x. number x == n) xs

-- some item has a number exactly if the number is in the set
abbrev pub FoundWhereMember : {X : Type 0} → (X → ℕ) → Type 0
FoundWhereMember {X} number = (xs : List X) (n : ℕ) → is_some (item_with number xs n) ≡ set_of number xs n

-- the item that is found has the number
abbrev pub FoundHasNumber : {X : Type 0} → (X → ℕ) → Type 0
FoundHasNumber {X} number = (xs : List X) (n : ℕ) → IfSome (item_with number xs n) (λ x. number x ≡ n)

-- the finite map from the items' numbers to values has, at each number, the value of the item there
abbrev pub MapsEachNumber : {X : Type 0} → (V : Type 0) → (X → ℕ) → Type 0
MapsEachNumber {X} V number =
    (value : X → V) (xs : List X) (n : ℕ)
    → map_of.get {R = nat_cmp} (map_of.from_entries (map (λ x. (number x, value x)) xs)) n ≡ option_map value (item_with number xs n)

-- an ascending list is known by its set: two lists with the same set are equal
abbrev pub KnownBySet : {X : Type 0} → (X → ℕ) → Type 0
KnownBySet {X} number =
    (xs ys : List X) → IsAscending number xs → IsAscending number ys
    → ((n : ℕ) → set_of number xs n ≡ set_of number ys n) → xs ≡ ys
