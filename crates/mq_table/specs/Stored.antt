-- A stored group: an ascending list of sources with their timers, and room for some of them without more memory.
use Rattle.std.specs.Prelude.{ℕ, List, map as list_map, Option, refl}
use Rattle.std.specs.Coded.{Coded, code_by, coded×, coded_ℕ, coded_option}
use Rattle.std.specs.Ordering.{nat_cmp}
use Rattle.std.specs.FinMap as map
use Rattle.std.specs.FinMap.{FinMap}
use Rattle.std.specs.FinSet as set
use Rattle.mq_table.specs.Table.{NamedSources}
use Rattle.mq_table.specs.declared.heads.Head.{Head}
use Rattle.mq_table.specs.declared.sources.Source.{Source}
use Rattle.mq_table.specs.Group.{GroupState, FilterMode, SourceTimer}

-- a stored group, as a contract sees it: its state, and the number of sources for which it has room
pub record StoredGroup : Type 0 where
  pub state : GroupState
  pub room : ℕ

-- the code of its parts, by which proofs distinguish stored groups
abbrev pub stored_code : Coded FilterMode → Coded SourceTimer → Coded StoredGroup
stored_code mode timer =
    let timers = map.code coded_ℕ timer in
    let deadline = coded_option coded_ℕ in
    code_by (((FilterMode × FinMap nat_cmp SourceTimer) × (Option ℕ × Option ℕ)) × ℕ)
    (coded× (coded× (coded× mode timers) (coded× deadline deadline)) coded_ℕ)
    (λ g. (((g.state.mode, g.state.sources), (g.state.v1, g.state.v2)), g.room))
    (λ p. record { state = record { mode = p.0.0.0; sources = p.0.0.1; v1 = p.0.1.0; v2 = p.0.1.1 }; room = p.1 })
    (λ _. refl)

-- the number of a source: that of its address
abbrev pub number_in : {K : Type 0} → (K → ℕ) → Source K → ℕ
number_in number x = number x.address

-- the timers of a list of sources, by their numbers
abbrev pub timers_in : {K : Type 0} → (K → ℕ) → List (Source K) → FinMap nat_cmp SourceTimer
timers_in number sources = map.from_entries (list_map (λ x. (number x.address, x.timer)) sources)

-- the state of a group with this head and these timers
abbrev pub state_of : Head → FinMap nat_cmp SourceTimer → GroupState
state_of head timers = record { mode = head.mode; sources = timers; v1 = head.v1; v2 = head.v2 }

-- the sources that a record names, from a list of their addresses
abbrev pub named_in : {K : Type 0} → (K → ℕ) → List K → NamedSources
named_in number addresses = set.from_list (list_map number addresses)

-- the number of sources for which a group has timers
abbrev pub size_of : GroupState → ℕ
size_of g = map.len g.sources
