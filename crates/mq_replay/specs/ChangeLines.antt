-- The line of a group that an event of a replay has changed.
use Rattle.std.specs.Prelude.{ℕ, Bool, true, false, List, [], ◌∷◌, ◌++◌, codes, filter}
use Rattle.std.specs.List.{flat_map}
use Rattle.std.specs.Fmt.{decimal}
use Rattle.std.specs.FinMap as map
use Rattle.mq_wire.specs.Family.{Family}
use Rattle.mq_table.specs.Filter.{names}
use Rattle.mq_table.specs.Group.{GroupState, is_include, timer_at}
use Rattle.mq_lines.specs.Text.{address_text, line_of}

-- The filter of a group: nothing is forwarded, only what some sources send, or all but what some send.
abbrev pub filter_name : (is_include : Bool) → (sources : List ℕ) → List ℕ
filter_name true [] = codes " none"
filter_name true (s ∷ ss) = codes " include"
filter_name false sources = codes " exclude"

-- a named source, after an exclamation mark if it isn't forwarded
abbrev pub named_text : Family → (is_include : Bool) → (source : ℕ) → List ℕ
named_text family true source = codes " " ++ address_text family source
named_text family false source = codes " !" ++ address_text family source

-- the sources that the filter of a group names, in the order of their addresses
abbrev pub named_sources : GroupState → List ℕ
named_sources g = filter (λ s. names g.mode (timer_at g s)) (map.keys g.sources)

abbrev pub filter_text : Family → (is_include : Bool) → (sources : List ℕ) → List ℕ
filter_text family is_include sources = filter_name is_include sources ++ flat_map (named_text family is_include) sources

-- the line of a group whose filter has changed at a moment
abbrev pub change_start : Family → (moment group : ℕ) → List ℕ
change_start family moment group = decimal moment ++ codes " change " ++ address_text family group

abbrev pub change_line : Family → (moment group : ℕ) → GroupState → List ℕ
change_line family moment group g =
    change_start family moment group ++ line_of (filter_text family (is_include g.mode) (named_sources g))
