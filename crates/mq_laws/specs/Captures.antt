-- The events in the check of a capture. A link with the querier's own address runs over it, and each query that it
-- sends is expected. The queries from that address are seen.
use Rattle.std.specs.Prelude.{ℕ, zero, suc, ◌+◌, ◌^◌, ◌&&◌, max, min, not, nat_lt, Bool, true, false, if◌then◌else◌, List, [], ◌∷◌, ◌++◌, Option, None, Some, unwrap_or, flat_map, map as list_map}
use Rattle.mq_pcap.specs.declared.form.Form.{Form}
use Rattle.mq_pcap.specs.declared.link_type.LinkType.{LinkType}
use Rattle.mq_pcap.specs.Capture.{Captured}
use Rattle.mq_pcap.specs.Frame.{carried_in}
use Rattle.mq_wire.specs.declared.query.Query.{Query}
use Rattle.mq_wire.specs.Family.{Family}
use Rattle.mq_sched.specs.Election.{is_querier}
use Rattle.mq_link.specs.Configuration.{Configuration}
use Rattle.mq_link.specs.Receive.{receipt_of}
use Rattle.mq_link.specs.Run.{answered}
use Rattle.mq_link.specs.Sent.{Outgoing, outgoing_of}
use Rattle.mq_link.specs.State.{LinkState, link_at}
use Rattle.mq_link.specs.Tick.{Step, tick_of, next_of}
use Rattle.mq_walk.specs.PlacedPackets.{moment_of}
use Rattle.mq_walk.specs.Datagrams.{Datagram, datagram_of}
use Rattle.mq_walk.specs.Outlets.{all_sent}
use Rattle.mq_check.specs.declared.headers.HeaderFault.{HeaderFault}
use Rattle.mq_check.specs.Causes.{causes_in}
use Rattle.mq_check.specs.Check.{destination_in, faults_in}
use Rattle.mq_check.specs.Checking.{counted_up}
use Rattle.mq_check.specs.Queries.{asked_in, is_general, terms_of, general_terms, query_seen, specific_terms}
use Rattle.mq_check.specs.Standing.{is_set, standing_in}
use Rattle.mq_laws.specs.Events.{CheckEvent, Comes, Wants, Sees, SeesGeneral, LosesRole, HasRoleAgain, SeesFault, Changes, Judges, Refuses}
use Rattle.mq_check.specs.Refused.{refused_by}

-- a link after a part of a capture, the number of packets so far, and the events of the check
pub record Passage : Type 0 where
  pub link : LinkState
  pub packets : ℕ
  pub events : List CheckEvent

abbrev pub nothing_happens : (packets : ℕ) → LinkState → Passage
nothing_happens packets link = record { link = link; packets = packets; events = [] }

-- the passage after these events
abbrev pub happening_behind : List CheckEvent → Passage → Passage
happening_behind events p = record p { events = events ++ p.events }

-- The expectation by a query of the link, after this number of packets. A general query is only expected if the router
-- is querier again. A tick sends each other query again.
abbrev pub wanted_for : Family → (packets : ℕ) → (by_tick is_returning : Bool) → (to : ℕ) → Query ℕ → List CheckEvent
wanted_for family packets by_tick is_returning to query =
    if is_general query && not is_returning then [] else Wants (by_tick && not (is_general query)) (terms_of family packets to query) (asked_in query) ∷ []

abbrev pub wanted_of : Configuration → (packets : ℕ) → (by_tick is_returning : Bool) → List Outgoing → List CheckEvent
wanted_of config packets by_tick is_returning messages =
    flat_map (λ (message : Outgoing). wanted_for config.family packets by_tick is_returning message.to message.query) messages

-- the expectations by the link's queries in a step, a tick or a datagram
abbrev pub wanted_by : Configuration → (packets : ℕ) → (by_tick : Bool) → LinkState → Step → List CheckEvent
wanted_by config packets by_tick link step =
    wanted_of config packets by_tick (not (is_querier link.election.role)) (outgoing_of config step)

-- The change of the role. A tick can make the router querier again, and a datagram can also take the role from it.
abbrev pub role_by_tick : (was_querier is_querier : Bool) → List CheckEvent
role_by_tick true is_querier = []
role_by_tick false true = HasRoleAgain ∷ []
role_by_tick false false = []

abbrev pub role_by_datagram : (was_querier is_querier : Bool) → List CheckEvent
role_by_datagram true true = []
role_by_datagram true false = LosesRole ∷ []
role_by_datagram false true = HasRoleAgain ∷ []
role_by_datagram false false = []

-- a moment, before which S is judged of the queries that no Report of the moment can change
abbrev pub comes : (moment : ℕ) → LinkState → List CheckEvent → List CheckEvent
comes moment link events = Judges (Some moment) (is_set link.groups) ∷ Comes moment ∷ events

-- a tick at a moment
abbrev pub tick_passage : Configuration → (moment packets : ℕ) → LinkState → Passage
tick_passage config moment packets link =
    let step = tick_of config moment link in
    record {
      link = answered (all_sent (outgoing_of config step)) step;
      packets = packets;
      events =
          comes moment link
          (wanted_by config packets true link step ++ role_by_tick (is_querier link.election.role) (is_querier step.state.election.role));
    }

-- ticks at the link's next moments, while these are before a limit; at most `most`
unfoldable pub ticks_passage : (most : ℕ) → Configuration → (limit packets : ℕ) → LinkState → Passage
ticks_passage zero config limit packets link = nothing_happens packets link
ticks_passage (suc most) config limit packets link =
    elim (nat_lt (next_of link) limit) [
      | true ↦
          let first = tick_passage config (next_of link) packets link in
          happening_behind first.events (ticks_passage most config limit packets first.link)
      | false ↦ nothing_happens packets link
    ]

-- all ticks up to and including a moment
abbrev pub ticks_through : Configuration → (moment packets : ℕ) → LinkState → Passage
ticks_through config moment packets link = ticks_passage (moment + 1) config (moment + 1) packets link

-- all ticks up to and including the end of a capture, and then the judgement of S of all seen queries
abbrev pub ticks_to_end : Configuration → (moment packets : ℕ) → LinkState → Passage
ticks_to_end config moment packets link =
    let ticks = ticks_through config moment packets link in
    record ticks { events = ticks.events ++ Judges None (is_set ticks.link.groups) ∷ [] }

-- faults in the headers of a packet with this number
abbrev pub fault_events : (number : ℕ) → List HeaderFault → List CheckEvent
fault_events number faults = list_map (SeesFault number) faults

-- A query from the querier's address, or any other datagram, which the link receives. It may have changes of hosts, and
-- the link may refuse them.
abbrev pub event_of : Configuration → LinkState → (moment packets to : ℕ) → Query ℕ → CheckEvent
event_of config link moment packets to query =
    if is_general query
    then SeesGeneral (terms_of config.family packets to query) (general_terms config link.election.timing)
    else Sees (terms_of config.family packets to query)
    (standing_in config.family link.groups link.election.timing moment) (asked_in query)

abbrev pub datagram_passage : Configuration → (moment to : ℕ) → Datagram → Option (Query ℕ) → (faults : List CheckEvent) → (packets : ℕ) → LinkState → Passage
datagram_passage config moment to datagram (Some query) faults packets link =
    record { link = link; packets = packets; events = comes moment link (faults ++ event_of config link moment packets to query ∷ []) }
datagram_passage config moment to datagram None faults packets link =
    let receipt = receipt_of config datagram.envelope datagram.body moment link in
    let step = receipt.step in
    record {
      link = answered (all_sent (outgoing_of config step)) step;
      packets = packets;
      events =
          comes moment link
          (faults ++ (Changes (specific_terms config link.election.timing packets) (causes_in config.family datagram) ∷ wanted_by config packets false link step
          ++ (role_by_datagram (is_querier link.election.role) (is_querier step.state.election.role)
          ++ Refuses (refused_by config.family receipt.answer datagram) ∷ [])));
    }

-- a frame, if it carries a datagram; the faults of the headers of a query come first
abbrev pub frame_passage : Configuration → LinkType → (moment number : ℕ) → (frame : List ℕ) → Option Datagram → (packets : ℕ) → LinkState → Passage
frame_passage config link_type moment number frame None packets link = nothing_happens packets link
frame_passage config link_type moment number frame (Some datagram) packets link =
    datagram_passage config moment (destination_in config.family link_type frame datagram.envelope) datagram (query_seen config datagram)
    (fault_events number (faults_in config link_type frame datagram)) packets link

-- a packet at its moment, after the events up to then
abbrev pub packet_passage : Configuration → LinkType → (moment number : ℕ) → (frame : List ℕ) → (packets : ℕ) → LinkState → Passage
packet_passage config link_type moment number frame packets link =
    let before = ticks_through config moment packets link in
    happening_behind before.events
    (frame_passage config link_type moment number frame (datagram_of config.family (carried_in link_type frame)) (counted_up before.packets) before.link)

-- The moment of the last of some packets. Moments are counted from `first`, and `before` is the last one before these.
abbrev pub last_of : (first : Option ℕ) (before : ℕ) → List Captured → ℕ
last_of first before [] = before
last_of first before (packet ∷ packets) =
    last_of (Some (unwrap_or first packet.stamp)) (moment_of first before packet.stamp) packets

-- packets, one after the other: the number of the next, and the number of packets before
unfoldable pub packets_passage : Configuration → LinkType → (first : Option ℕ) (before number : ℕ) → List Captured → (earlier : ℕ) → LinkState → Passage
packets_passage config link_type first before number [] earlier link = nothing_happens earlier link
packets_passage config link_type first before number (packet ∷ packets) earlier link =
    let moment = moment_of first before packet.stamp in
    let this = packet_passage config link_type moment number packet.bytes earlier link in
    happening_behind this.events
    (packets_passage config link_type (Some (unwrap_or first packet.stamp)) moment (number + 1) packets this.packets this.link)

-- the end of a capture: the moment of the last packet, or the requested one if it is later
abbrev pub end_of : (until : Option ℕ) → List Captured → ℕ
end_of until packets = max (last_of None 0 packets) (unwrap_or until 0)

-- All events in the check of a capture.
abbrev pub events_of : Configuration → (until : Option ℕ) → Form → List Captured → List CheckEvent
events_of config until form packets =
    let all = packets_passage config form.link None 0 1 packets 0 (link_at config 0) in
    all.events ++ (ticks_to_end config (end_of until packets) all.packets all.link).events

-- The events that are due just after the end, up to the tolerance.
abbrev pub events_ahead : Configuration → (within : ℕ) → (until : Option ℕ) → Form → List Captured → List CheckEvent
events_ahead config within until form packets =
    let all = packets_passage config form.link None 0 1 packets 0 (link_at config 0) in
    let end = end_of until packets in
    let ticks = ticks_through config end all.packets all.link in
    (ticks_through config (min (end + within) (2 ^ 53)) ticks.packets ticks.link).events
