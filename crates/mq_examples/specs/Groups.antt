-- Two groups to try the tables on, and the terms of the worked examples. The sources are 1 to 4, and the timing is that
-- of the standards' defaults. Moments are milliseconds.
use Rattle.std.specs.Prelude.{◌≡◌, ℕ, Bool, List, [], ◌∷◌, Option, None, Some}
use Rattle.std.specs.FinMap as map
use Rattle.std.specs.FinSet as set
use Rattle.mq_table.specs.declared.kind.Kind.{Kind}
use Rattle.mq_table.specs.Group.{GroupState}
use Rattle.mq_table.specs.declared.timers.FilterMode.{FilterMode}
use Rattle.mq_table.specs.declared.timers.FilterMode.TheVariants.{Include, Exclude}
use Rattle.mq_table.specs.declared.timers.SourceTimer.{SourceTimer}
use Rattle.mq_table.specs.declared.timers.SourceTimer.TheVariants.{Stopped}
use Rattle.mq_table.specs.Table.{NamedSources, GroupChange, change_of}
use Rattle.mq_table.specs.Examples.{default_timing, until}

-- a group with these host-present deadlines, and a group without any
abbrev pub group_with : FilterMode → List (ℕ × SourceTimer) → Option ℕ → Option ℕ → GroupState
group_with mode sources v1 v2 =
    record { mode = mode; sources = map.from_entries sources; v1 = v1; v2 = v2 }

abbrev pub group_in : FilterMode → List (ℕ × SourceTimer) → GroupState
group_in mode sources = group_with mode sources None None

abbrev pub naming : List ℕ → NamedSources
naming named = set.from_list named

-- the group after ALLOW {1, 2} at 0
abbrev pub included : GroupState
included = group_in Include ((1, until 260000) ∷ (2, until 260000) ∷ [])

-- the group after TO_EX {1, 2} at 0 and ALLOW {1, 4} at 500
abbrev pub excluded : GroupState
excluded = group_in (Exclude 260000) ((1, until 260500) ∷ (2, Stopped) ∷ (4, until 260500) ∷ [])

-- a change leaves this group, with Q(G) if `asks_group` is true, and Q(G,asked)
pub record Leaves (change : GroupChange) (after : GroupState) (asks_group : Bool) (asked : List ℕ)
    : Type 0 where
  pub group : change.group ≡ after
  pub query_group : change.query_group ≡ asks_group
  pub query : (s : ℕ) → change.query s ≡ set.contains (naming asked) s

-- the change of a group by a record at 1000
abbrev pub at_1000 : GroupState → Kind → List ℕ → GroupChange
at_1000 g kind named = change_of default_timing 1000 g kind (naming named)

-- the group after an IGMPv2 Report at 1000, and after an IGMPv1 or MLDv1 Report at 1000
abbrev pub heard_v2 : GroupState
heard_v2 = group_with (Exclude 261000) [] None (Some 261000)

abbrev pub heard_v1 : GroupState
heard_v1 = group_with (Exclude 261000) [] (Some 261000) None

-- EXCLUDE({1}, {2}), in which source 1 outlives the group timer
abbrev pub outlived : GroupState
outlived = group_in (Exclude 261000) ((1, until 300000) ∷ (2, Stopped) ∷ [])
