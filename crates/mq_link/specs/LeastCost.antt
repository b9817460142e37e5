-- The fewest comparisons of calls, so that none is left uncounted (the bounds are this project's).
use Rattle.std.specs.Prelude.{ℕ, ◌+◌, ◌-◌, min, if◌then◌else◌, List, [], ◌∷◌, length, Option, None, Some, Result, Ok, Err}
use Rattle.std.specs.FinMap as map
use Rattle.std.specs.FinSet as set
use Rattle.mq_wire.specs.declared.message.Message.{Message}
use Rattle.mq_wire.specs.declared.message.Message.TheVariants.{Query as QueryMessage, OldReport, Leave as LeaveMessage, Report as ReportMessage}
use Rattle.mq_wire.specs.declared.message.WireFault.{WireFault}
use Rattle.mq_wire.specs.declared.records.RecordView.{RecordView}
use Rattle.mq_table.specs.declared.kind.Kind.{Kind}
use Rattle.mq_table.specs.Table.{NamedSources}
use Rattle.mq_table.specs.OlderHosts.{hosts_of}
use Rattle.mq_held.specs.Places.{due_in}
use Rattle.mq_link.specs.declared.answers.DropReason.{DropReason}
use Rattle.mq_link.specs.Changing.{acts_as}
use Rattle.mq_link.specs.Configuration.{Configuration, is_allowed}
use Rattle.mq_link.specs.Family.{v1_mutes_leave}
use Rattle.mq_link.specs.State.{Groups, LinkState, group_at, sources_of}
use Rattle.mq_link.specs.Tick.{tick_of}
use Rattle.mq_link.specs.Record.{Statement, RecordOf, OlderJoin, OlderLeave, Setting, Seen, Entrance, Stops, GoesOn, entrance, is_muted, is_repeated, seen_after, judged}
use Rattle.mq_link.specs.Receive.{Envelope, pseudo_of, read_of, drop_reason, setting_of}

-- The fewest comparisons of a tick. It looks at the earliest moment of each group that has one at or before its own,
-- and at one more if there is another group.
abbrev pub least_ticked : (now : ℕ) → Groups → ℕ
least_ticked now groups = min (due_in now groups + 1) (map.len groups)

-- The fewest comparisons to find a group: one, if any group is held.
abbrev pub least_search : Groups → ℕ
least_search groups = min 1 (map.len groups)

-- The fewest comparisons to merge the sources of a group with those of a statement. Older hosts have muted what doesn't
-- count. There is at least one for each source of the shorter list, in which each source counts once.
abbrev pub least_merge : (sources : ℕ) → Option (Kind × NamedSources) → ℕ
least_merge sources None = 0
least_merge sources (Some act) = min sources (set.len act.1)

abbrev pub least_work : Setting → ℕ → Statement → Groups → ℕ
least_work at group statement groups =
    let e = group_at groups group in
    least_merge (sources_of e) (acts_as (v1_mutes_leave at.config.family) (is_muted at.config group statement) (hosts_of e.group at.now) statement)

-- The fewest comparisons of one statement of an older message.
abbrev pub least_stated : Setting → ℕ → Statement → Groups → ℕ
least_stated at group statement groups = least_search groups + least_work at group statement groups

-- the same, and none if hosts may not ask for its group
abbrev pub least_alone : Setting → ℕ → Statement → Groups → ℕ
least_alone at group statement groups = if is_allowed at.config group then least_stated at group statement groups else 0

-- The fewest comparisons of a record. There are none if it ends before its group is searched for. Otherwise there are
-- those of the search. Unless four other records of the datagram have met its group, there are also one for each source
-- that it names but the first, and the merge.
abbrev pub least_by : Setting → Entrance → Seen → RecordView ℕ → Groups → ℕ
least_by at (Stops verdict) seen r groups = 0
least_by at (GoesOn kind) seen r groups =
    if is_repeated groups seen r.group
    then least_search groups
    else least_search groups + (length r.sources - 1) + least_work at r.group (RecordOf kind (set.from_list r.sources)) groups

abbrev pub least_judged : Setting → Seen → RecordView ℕ → Groups → ℕ
least_judged at seen r groups = least_by at (entrance at.config r) seen r groups

-- The fewest comparisons of a datagram's records, each on the groups that the earlier ones leave.
abbrev pub least_all : Setting → Seen → List (RecordView ℕ) → Groups → ℕ
least_all at seen [] groups = 0
least_all at seen (r ∷ rs) groups =
    least_judged at seen r groups
    + least_all at (seen_after at.config r groups seen) rs (judged at seen r groups).groups

-- The fewest comparisons of a message that isn't dropped. A query compares the addresses of two routers.
abbrev pub least_of : Setting → Message ℕ → Groups → ℕ
least_of at (QueryMessage query) groups = 1
least_of at (OldReport version group) groups = least_alone at group (OlderJoin version) groups
least_of at (LeaveMessage group) groups = least_alone at group OlderLeave groups
least_of at (ReportMessage records) groups = least_all at map.empty records groups

-- the fewest comparisons after the tick, by what was read
abbrev pub least_unless : Setting → Result (Message ℕ) WireFault → Option DropReason → Groups → ℕ
least_unless at read (Some reason) groups = 0
least_unless at (Err fault) None groups = 0
least_unless at (Ok message) None groups = least_of at message groups

abbrev pub least_after : Setting → Envelope → Result (Message ℕ) WireFault → Groups → ℕ
least_after at envelope read groups = least_unless at read (drop_reason at.config envelope read) groups

-- The fewest comparisons of a datagram, beside the two that every tick takes.
abbrev pub least_received : Configuration → Envelope → List ℕ → (now : ℕ) → LinkState → ℕ
least_received config envelope bytes now state =
    let ticked = (tick_of config now state).state in
    least_after (setting_of config ticked) envelope (read_of config.family (pseudo_of config.family envelope bytes) bytes) ticked.groups
