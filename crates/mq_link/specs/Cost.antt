-- The most comparisons of calls, by bounds of this project.
use Rattle.std.specs.Prelude.{ℕ, ◌+◌, ◌*◌, if◌then◌else◌, length}
use Rattle.std.specs.List.{sum_by}
use Rattle.std.specs.FinMap as map
use Rattle.mq_sets.specs.Search.{bitlen}
use Rattle.mq_wire.specs.declared.message.Message.{Message}
use Rattle.mq_wire.specs.declared.message.Message.TheVariants.{Query as QueryMessage, OldReport, Leave as LeaveMessage, Report as ReportMessage}
use Rattle.mq_wire.specs.declared.records.RecordView.{RecordView}
use Rattle.mq_wire.specs.Canon.{source_count}
use Rattle.mq_link.specs.Configuration.{Configuration}
use Rattle.mq_link.specs.State.{Groups, group_at, sources_of}
use Rattle.mq_link.specs.Record.{Seen, Entrance, Stops, GoesOn, entrance, is_repeated}

-- the bound by the length of the datagram, 0 for a tick, and by what was held when the call began
abbrev pub cost_of : (length held : ℕ) → ℕ
cost_of length held = 64 * (length + held) + 64

-- The most comparisons to find a group, and to find its next moment again.
abbrev pub search_cost : Groups → ℕ
search_cost groups = 2 * bitlen (map.len groups) + 2

-- The most comparisons of the work on a record: 6 per source of its group, 17 per source that it names, and 17.
abbrev pub work_cost : Groups → RecordView ℕ → ℕ
work_cost groups r = 6 * sources_of (group_at groups r.group) + 17 * length r.sources + 17

-- The most comparisons of a record: none, if it ends before its group is searched for. They are those of the search if
-- four other records of the datagram have met its group, and otherwise those of the work and the search.
abbrev pub cost_by : Entrance → Seen → RecordView ℕ → Groups → ℕ
cost_by (Stops verdict) seen r groups = 0
cost_by (GoesOn kind) seen r groups =
    if is_repeated groups seen r.group
    then search_cost groups
    else work_cost groups r + search_cost groups

abbrev pub record_cost : Configuration → Seen → RecordView ℕ → Groups → ℕ
record_cost config seen r groups = cost_by (entrance config r) seen r groups

-- The most comparisons of a record, without the work on sources that were held before the datagram.
abbrev pub own_cost : RecordView ℕ → ℕ
own_cost r = 51 + 41 * length r.sources

-- A lower bound of a message's length in bytes, in either family.
abbrev pub least_length : Message ℕ → ℕ
least_length (QueryMessage query) = 8 + 4 * source_count query.version
least_length (OldReport version group) = 8
least_length (LeaveMessage group) = 8
least_length (ReportMessage records) = 8 + sum_by (λ r. 8 + 4 * length r.sources) records
