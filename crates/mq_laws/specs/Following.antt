-- The groups of a message, and a table of filters that is kept beside a link. The table takes over the filter of each
-- group that a call names.
use Rattle.std.specs.Prelude.{◌≡◌, ℕ, Bool, if◌then◌else◌, List, [], ◌∷◌, map as list_map}
use Rattle.mq_wire.specs.declared.message.Message.{Message}
use Rattle.mq_wire.specs.declared.message.Message.TheVariants.{Query as QueryMessage, OldReport, Leave as LeaveMessage, Report as ReportMessage}
use Rattle.mq_table.specs.Filter.{Filter, filter_of, nothing, forwards_by}
use Rattle.mq_link.specs.Configuration.{Configuration}
use Rattle.mq_link.specs.Forwarding.{changed_by_event}
use Rattle.mq_link.specs.Run.{Happening}
use Rattle.mq_link.specs.State.{LinkState, group_at, forwards}

-- the groups that a message names; a query only lowers its group
abbrev pub groups_in : Message ℕ → List ℕ
groups_in (QueryMessage query) = []
groups_in (OldReport version group) = group ∷ []
groups_in (LeaveMessage group) = group ∷ []
groups_in (ReportMessage records) = list_map (λ r. r.group) records

-- the filter of a group in a state
abbrev pub filter_at : LinkState → (group : ℕ) → Filter
filter_at state group = filter_of (group_at state.groups group).group

-- a filter for each group
abbrev pub FilterTable : Type 0
FilterTable = (group : ℕ) → Filter

-- the table at the start
abbrev pub nothing_of_any : FilterTable
nothing_of_any group = nothing

-- the table with the filters of the named groups, as a state has them; it keeps its own of all others
abbrev pub taken_over : (named : ℕ → Bool) → (after : LinkState) → FilterTable → FilterTable
taken_over named after table group = if named group then filter_at after group else table group

-- A table of a state has the filter of each group, and forwards what the state forwards.
pub record IsTableOf (state : LinkState) (table : FilterTable) : Type 0 where
  pub filters : (group : ℕ) → table group ≡ filter_at state group
  pub forwarded : (group source : ℕ) → forwards_by (table group) source ≡ forwards state group source

-- A table that takes over what each event names follows the run. It is the table of the state before the events, and of
-- the state after each.
abbrev pub AllFollowed : Configuration → (before : LinkState) → FilterTable → List Happening → Type 0
AllFollowed config before table [] = IsTableOf before table
AllFollowed config before table (h ∷ hs) =
    IsTableOf before table
    × AllFollowed config h.after (taken_over (changed_by_event config h.event before) h.after table) hs
