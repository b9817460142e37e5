-- A list in portions: the sources of one sending, as messages carry them.
use Rattle.std.specs.Prelude.{ℕ, zero, suc, List, [], ◌∷◌, length, take, drop}

-- the first n, then the portions of the rest, but at most `most` portions
abbrev pub portions_within : (most n : ℕ) → List ℕ → List (List ℕ)
portions_within most n [] = []
portions_within zero n (x ∷ xs) = []
portions_within (suc most) n (x ∷ xs) = take n (x ∷ xs) ∷ portions_within most n (drop n (x ∷ xs))

-- A list in portions of n; the last one may be shorter. An empty list has none. A portion has at least one member, so
-- there are no more portions than members.
abbrev pub portions_of : ℕ → List ℕ → List (List ℕ)
portions_of n xs = portions_within (length xs) n xs

-- each member of a list but the last has this property
abbrev pub AllButLast : {X : Type 0} → (X → Type 0) → List X → Type 0
AllButLast P [] = Unit {0}
AllButLast P (x ∷ []) = Unit {0}
AllButLast P (x ∷ y ∷ ys) = P x × AllButLast P (y ∷ ys)
