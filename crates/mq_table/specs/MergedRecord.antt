-- The effect of a record on each pair of a merge: the group's source, if it holds it, and the record's source, if it
-- names it.
use Rattle.std.specs.Prelude.{◌≡◌, ℕ, length, Bool, true, false, ◌&&◌, ◌||◌, not, if◌then◌else◌, is_some, List, Option, None, Some}
use Rattle.std.specs.Bool.{beq}
use Rattle.std.specs.List.{All, list_any}
use Rattle.mq_count.specs.Spending.{Spends}
use Rattle.mq_sets.specs.Search.{bitlen}
use Rattle.mq_table.specs.declared.kind.Kind.{Kind}
use Rattle.mq_table.specs.declared.rules.Rule.{Rule}
use Rattle.mq_table.specs.declared.sources.Source.{Source}
use Rattle.mq_table.specs.Group.{SourceTimer, FilterMode, is_include, is_stopped}
use Rattle.mq_table.specs.AtSource.{timer_after, is_asked_after, named_effect}
use Rattle.mq_table.specs.Filter.{names}

-- a source with a timer, if there is one
abbrev pub source_with : {K : Type 0} → K → Option SourceTimer → Option (Source K)
source_with address None = None
source_with address (Some timer) = Some (record { address = address; timer = timer })

-- the source after the record
abbrev pub source_made : {K : Type 0} → Rule → Option (Source K) × Option K → Option (Source K)
source_made rule (Some x, named) =
    source_with x.address (timer_after rule.interval_end rule.mode rule.kind (Some x.timer) (is_some named))
source_made rule (None, Some y) = source_with y (timer_after rule.interval_end rule.mode rule.kind None true)
source_made rule (None, None) = None

-- the source, if the record's query asks for it
abbrev pub source_asked : {K : Type 0} → Rule → Option (Source K) × Option K → Option K
source_asked rule (Some x, named) =
    if is_asked_after rule.interval_end rule.mode rule.kind (Some x.timer) (is_some named) then Some x.address else None
source_asked rule (None, Some y) =
    if is_asked_after rule.interval_end rule.mode rule.kind None true then Some y else None
source_asked rule (None, None) = None

-- the filter of the mode before names a source with one of these timers, and not with the other
abbrev pub turns : FilterMode → (before after : Option SourceTimer) → Bool
turns mode before after = not (beq (names mode before) (names mode after))

-- the record turns the source of a pair
abbrev pub source_turned : {K : Type 0} → Rule → Option (Source K) × Option K → Bool
source_turned rule (Some x, named) =
    turns rule.mode (Some x.timer) (timer_after rule.interval_end rule.mode rule.kind (Some x.timer) (is_some named))
source_turned rule (None, Some y) = turns rule.mode None (timer_after rule.interval_end rule.mode rule.kind None true)
source_turned rule (None, None) = false

-- a source is stopped
abbrev pub item_is_stopped : {K : Type 0} → Source K → Bool
item_is_stopped x = is_stopped (Some x.timer)

-- a record of this kind removes no source that it doesn't name
abbrev pub takes_none_away : Kind → Bool
takes_none_away kind = is_some (named_effect kind)

-- The record leaves these sources of a group alone if it doesn't name them. It removes none and asks for none, and in
-- INCLUDE none is stopped.
abbrev pub keeps_unnamed : {K : Type 0} → Kind → FilterMode → List (Source K) → Bool
keeps_unnamed kind mode row = takes_none_away kind && (not (is_include mode) || not (list_any item_is_stopped row))

-- A record that names one source and leaves the others of its group alone finds it by binary search. It takes at most
-- one comparison for each binary digit of the group's number of sources.
unfoldable pub LooksByHalves : {K : Type 0} → Kind → FilterMode → List (Source K) → (named before after : ℕ) → Type 0
LooksByHalves kind mode row named before after =
    named ≡ 1 → keeps_unnamed kind mode row ≡ true → Spends 0 (bitlen (length row)) before after

-- a source of these that the record doesn't name stays as it is, isn't asked for and isn't turned
pub record LeavesAlone {K : Type 0} (rule : Rule) (xs : List (Source K)) : Type 0 where
  pub made : All (λ x. source_made rule (Some x, None) ≡ Some x) xs
  pub asked : All (λ x. source_asked rule (Some x, None) ≡ None) xs
  pub turned : All (λ x. source_turned rule (Some x, None) ≡ false) xs
