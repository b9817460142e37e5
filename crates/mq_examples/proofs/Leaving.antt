-- Conditions under which a change leaves a group: its sources one by one, and the sources that it asks for.
use Rattle.mq_examples.proofs.Common.{◌≡◌, ℕ, Bool, List, Option, refl, nat_cmp, FinMap, FilterMode, SourceTimer, Set, same_group, Leaves, naming}
use Rattle.std.specs.FinMap as map
use Rattle.std.specs.FinSet as set

pub leaves : {mode : FilterMode} {m n : FinMap nat_cmp SourceTimer} {v1 v2 : Option ℕ} {query : Set} {asks : Bool} {asked : List ℕ}
    → ((s : ℕ) → map.get m s ≡ map.get n s) → ((s : ℕ) → query s ≡ set.contains (naming asked) s)
    → Leaves (record { group = record { mode = mode; sources = m; v1 = v1; v2 = v2 }; query = query; query_group = asks })
    (record { mode = mode; sources = n; v1 = v1; v2 = v2 }) asks asked
leaves timers queries = record { group = same_group _ _ _ _ _ timers; query_group = refl; query = queries }
