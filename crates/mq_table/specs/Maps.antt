-- Finite maps that are given key by key. The lemma `get-by_rule` of proofs/Maps.antt has the value of the new map at
-- each key, and `get-kept` that of `kept`.
use Rattle.std.specs.Prelude.{ℕ, List, [], ◌∷◌, ◌++◌, Option, None, Some}
use Rattle.std.specs.Option.{option_and_then}
use Rattle.std.specs.Ordering.{nat_cmp}
use Rattle.std.specs.FinMap as map
use Rattle.std.specs.FinSet as set
use Rattle.std.specs.FinMap.{FinMap}
use Rattle.std.specs.FinSet.{FinSet}

-- one more entry, if there is a value
abbrev pub with_entry : {X : Type 0} → ℕ → Option X → List (ℕ × X) → List (ℕ × X)
with_entry k None es = es
with_entry k (Some x) es = (k, x) ∷ es

-- the entries that a rule gives to a list of keys
abbrev pub entries_by : {X : Type 0} → (ℕ → Option X) → List ℕ → List (ℕ × X)
entries_by rule [] = []
entries_by rule (k ∷ ks) = with_entry k (rule k) (entries_by rule ks)

-- the map with the rule's value at each key of the old map and at each named key
unfoldable pub by_rule : {X : Type 0} → FinMap nat_cmp X → FinSet nat_cmp → (ℕ → Option X) → FinMap nat_cmp X
by_rule old named rule = map.from_entries (entries_by rule (map.keys old ++ set.items named))

-- the map with each value replaced, or left out, by f
unfoldable pub kept : {X : Type 0} → (ℕ → X → Option X) → FinMap nat_cmp X → FinMap nat_cmp X
kept f old = by_rule old set.empty (λ k. option_and_then (f k) (map.get old k))
