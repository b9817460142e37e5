-- The events of a replay, and how an event is written: as a line of text or as an object of JSON.
use Rattle.std.specs.Prelude.{ℕ, Bool, true, false, List, [], ◌++◌, codes}
use Rattle.std.specs.List.{flat_map}
use Rattle.std.specs.FinMap as map
use Rattle.mq_wire.specs.Family.{Family}
use Rattle.mq_table.specs.Group.{GroupState}
use Rattle.mq_pcap.specs.Frame.{Carried}
use Rattle.mq_held.specs.Groups.{Groups, group_at}
use Rattle.mq_sched.specs.Schedule.{ScheduledGroup}
use Rattle.mq_link.specs.declared.answers.Received.{Received}
use Rattle.mq_link.specs.Counters.{Counters}
use Rattle.mq_link.specs.Sent.{Outgoing}
use Rattle.mq_replay.specs.ChangeLines.{change_line}
use Rattle.mq_replay.specs.ReplayLines.{counts_line, end_line, group_line, query_line, receipt_line, skip_line}
use Rattle.mq_replay.specs.ReplayObjects.{counts_object, end_object, receipt_object, send_object, skip_object, state_object}

-- A query is sent, a packet is received or skipped, or a group is changed. The end has the role, the groups and the
-- counters. `group` is the address of a group.
pub data Event : Type 0 where
  Sends : (query : Outgoing) → Event
  Receives : (number source : ℕ) → Received → Event
  Skips : (number : ℕ) → Carried → Event
  Changes : (group : ℕ) → GroupState → Event
  Ends : (is_querier : Bool) → Event
  Holds : (group : ℕ) → GroupState → Event
  Counts : Counters → Event

abbrev pub event_line : Family → (moment : ℕ) → Event → List ℕ
event_line family moment (Sends query) = query_line family moment query.to query.bytes
event_line family moment (Receives number source answer) = receipt_line family moment number source answer
event_line family moment (Skips number carried) = skip_line moment number carried
event_line family moment (Changes group g) = change_line family moment group g
event_line family moment (Ends is_querier) = end_line moment is_querier
event_line family moment (Holds group g) = group_line family group g
event_line family moment (Counts counters) = counts_line counters

abbrev pub event_object : Family → (moment : ℕ) → Event → List ℕ
event_object family moment (Sends query) = send_object family moment query
event_object family moment (Receives number source answer) = receipt_object family moment number source answer
event_object family moment (Skips number carried) = skip_object moment number carried
event_object family moment (Changes group g) = state_object family moment (codes "change") group g
event_object family moment (Ends is_querier) = end_object moment is_querier
event_object family moment (Holds group g) = state_object family moment (codes "group") group g
event_object family moment (Counts counters) = counts_object counters

-- an event in one of the two forms
abbrev pub in_form : (json : Bool) → (line object : List ℕ) → List ℕ
in_form true line object = object
in_form false line object = line

abbrev pub event_in : (json : Bool) → Family → (moment : ℕ) → Event → List ℕ
event_in json family moment event = in_form json (event_line family moment event) (event_object family moment event)

-- the queries of one moment, in order
abbrev pub query_events : (json : Bool) → Family → (moment : ℕ) → List Outgoing → List ℕ
query_events json family moment queries = flat_map (λ query. event_in json family moment (Sends query)) queries

-- the changed groups with these addresses, in order; a group that isn't held forwards nothing
abbrev pub change_events : (json : Bool) → Family → (moment : ℕ) → Groups → (addresses : List ℕ) → List ℕ
change_events json family moment groups addresses =
    flat_map (λ address. event_in json family moment (Changes address (group_at groups address).group)) addresses

-- events that are written if they are requested
abbrev pub if_asked : (asked : Bool) → List ℕ → List ℕ
if_asked true events = events
if_asked false events = []

-- groups, in the order of their addresses
abbrev pub group_events : (json : Bool) → Family → (moment : ℕ) → Groups → List ℕ
group_events json family moment groups =
    flat_map (λ (e : ℕ × ScheduledGroup). event_in json family moment (Holds e.0 e.1.group)) (map.entries groups)

-- a link at the end of a replay: its role, its groups and its counters
abbrev pub end_events : (json : Bool) → Family → (moment : ℕ) (is_querier : Bool) → Groups → Counters → List ℕ
end_events json family moment is_querier groups counters =
    event_in json family moment (Ends is_querier)
    ++ (group_events json family moment groups ++ event_in json family moment (Counts counters))
