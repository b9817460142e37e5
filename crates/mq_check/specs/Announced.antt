-- The querier of a capture and the variables that its queries announce. Addresses are numbers.
use Rattle.std.specs.Prelude.{◌≡◌, ℕ, zero, suc, ◌+◌, ◌-◌, ◌*◌, ◌/◌, ◌==◌, ◌&&◌, nat_lt, length, Bool, true, false, if◌then◌else◌, List, [], ◌∷◌, Option, None, Some, Result, Ok, Err}
use Rattle.std.specs.Io.KnownBytes.{IsAtEnd}
use Rattle.std.specs.Option.{option_or, option_map}
use Rattle.mq_pcap.specs.declared.fault.PcapFault.{PcapFault}
use Rattle.mq_pcap.specs.declared.form.Form.{Form}
use Rattle.mq_pcap.specs.declared.link_type.LinkType.{LinkType}
use Rattle.mq_pcap.specs.Capture.{Captured, Captures, is_read}
use Rattle.mq_pcap.specs.Filling.{InputState, Takes}
use Rattle.mq_pcap.specs.Frame.{carried_in}
use Rattle.mq_wire.specs.declared.query.Query.{Query}
use Rattle.mq_wire.specs.declared.query.QueryVersion.{QueryVersion}
use Rattle.mq_wire.specs.declared.query.QueryVersion.TheVariants.{Older, Current}
use Rattle.mq_wire.specs.Family.{Family}
use Rattle.mq_wire.specs.RoundTrip.{interval_lowered, response_lowered}
use Rattle.mq_lines.specs.Text.{query_sources}
use Rattle.mq_link.specs.Family.{is_router_address}
use Rattle.mq_link.specs.Receive.{envelope_tests}
use Rattle.mq_link.specs.Tests.{first_named}
use Rattle.mq_walk.specs.declared.capture_fault.CaptureFault.{CaptureFault}
use Rattle.mq_walk.specs.declared.capture_fault.CaptureFault.TheVariants as answer
use Rattle.mq_walk.specs.Walking.{IsOfTheFile}
use Rattle.mq_walk.specs.PlacedPackets.{Place, PlacedPacket, at_first, place_behind, placed}
use Rattle.mq_walk.specs.Datagrams.{Datagram, datagram_of}
use Rattle.mq_check.specs.declared.announced.Announced.{Announced}
use Rattle.mq_check.specs.declared.others.Others.{Others}
use Rattle.mq_check.specs.declared.sought.AskedLast.{AskedLast}
use Rattle.mq_check.specs.declared.sought.Sought.{Sought}
use Rattle.mq_check.specs.Others.{no_others, with_source}
use Rattle.mq_check.specs.Queries.{if_acted_on, is_general, query_spelled}

-- a value, unless it is 0
abbrev pub if_any : ℕ → Option ℕ
if_any zero = None
if_any (suc n) = Some (suc n)

-- QRV and the interval of QQIC, which older queries don't have. A querier says QRV 0 if its Robustness Variable is above 7. If
-- the interval is 0, its default holds. RFC 3376 sections 4.1.6 and 4.1.7, RFC 3810 sections 5.1.8 and 5.1.9.
abbrev pub robustness_in : QueryVersion ℕ → Option ℕ
robustness_in (Older version) = None
robustness_in (Current fields) = Some fields.robustness

abbrev pub interval_in : QueryVersion ℕ → Option ℕ
interval_in (Older version) = None
interval_in (Current fields) = if_any fields.interval

-- A query on which hosts act, from an address that a router may have.
abbrev pub query_in : Family → Datagram → Option (Query ℕ)
query_in family datagram = if_acted_on
    (is_router_address family datagram.envelope.source)
    (first_named (envelope_tests family datagram.envelope))
    (query_spelled family datagram.envelope datagram.body)

-- The interval that a time between two general queries shows. A code may stand for several intervals. The time in whole
-- seconds is the interval if it has the code of the announced one. At most 31744 seconds have a code.
abbrev pub shown_seconds : (passed announced : ℕ) → ℕ
shown_seconds passed announced =
    if nat_lt passed 31744500 && interval_lowered ((passed + 500) / 1000) == announced then (passed + 500) / 1000 else announced

-- the interval of retransmissions that a time between two queries shows, in tenths of a second
abbrev pub shown_response : Family → (passed announced : ℕ) → ℕ
shown_response family passed announced =
    if nat_lt passed 3174450 && response_lowered family ((passed + 50) / 100 * 100) == announced
    then (passed + 50) / 100 * 100
    else announced

-- the querier by its first general query
abbrev pub sought_by : (moment source : ℕ) → Query ℕ → (others : Others ℕ) → Sought ℕ
sought_by moment source query others = record {
  querier = source;
  robustness = robustness_in query.version;
  query_seconds = interval_in query.version;
  response_interval = if_any query.response;
  last_member_interval = None;
  others = others;
  general = moment;
  asked = None;
}

-- the querier after a further general query of its own
abbrev pub with_general_again : (moment : ℕ) → Sought ℕ → Sought ℕ
with_general_again moment s = record s {
  query_seconds = option_map (shown_seconds (moment - s.general)) s.query_seconds;
  general = moment;
}

-- the querier after a general query from a higher address
abbrev pub with_other : (source : ℕ) → Sought ℕ → Sought ℕ
with_other source s = record s { others = with_source source s.others }

-- The querier after a general query. The lowest source is elected (RFC 3376 section 6.6.2, RFC 3810 section 7.6.2).
abbrev pub with_general : (moment source : ℕ) → Query ℕ → Sought ℕ → Sought ℕ
with_general moment source query s =
    if nat_lt source s.querier
    then sought_by moment source query (with_source s.querier s.others)
    else if source == s.querier
    then with_general_again moment s
    else with_other source s

-- a query for a group or for sources
abbrev pub asked_last : (moment : ℕ) → Query ℕ → AskedLast ℕ
asked_last moment query = record { group = query.group; sources = length (query_sources query.version); at = moment }

-- The interval of retransmissions that two queries show. They are on one group, with as many sources.
abbrev pub shown_by : Family → (asked : AskedLast ℕ) → Option (AskedLast ℕ) → (announced : ℕ) → ℕ
shown_by family asked None announced = announced
shown_by family asked (Some last) announced =
    if (last.group == asked.group) && (last.sources == asked.sources)
    then shown_response family (asked.at - last.at) announced
    else announced

abbrev pub shown_interval : Family → (asked : AskedLast ℕ) → Option (AskedLast ℕ) → (announced : Option ℕ) → Option ℕ
shown_interval family asked last None = None
shown_interval family asked last (Some announced) = Some (shown_by family asked last announced)

-- the querier after a query of its own for a group or for sources
abbrev pub with_specific_own : Family → (moment : ℕ) → Query ℕ → Sought ℕ → Sought ℕ
with_specific_own family moment query s =
    let asked = asked_last moment query in
    record s {
      last_member_interval =
          shown_interval family asked s.asked (option_or s.last_member_interval (if_any query.response));
      asked = Some asked;
    }

abbrev pub with_specific : Family → (moment source : ℕ) → Query ℕ → Sought ℕ → Sought ℕ
with_specific family moment source query s =
    if source == s.querier then with_specific_own family moment query s else s

-- the querier up to and including a query
abbrev pub with_one : Family → (moment source : ℕ) → Query ℕ → Option (Sought ℕ) → Option (Sought ℕ)
with_one family moment source query None =
    if is_general query then Some (sought_by moment source query no_others) else None
with_one family moment source query (Some s) =
    if is_general query
    then Some (with_general moment source query s)
    else Some (with_specific family moment source query s)

abbrev pub with_query : Family → (moment source : ℕ) → Option (Query ℕ) → Option (Sought ℕ) → Option (Sought ℕ)
with_query family moment source None sought = sought
with_query family moment source (Some query) sought = with_one family moment source query sought

abbrev pub with_datagram : Family → (moment : ℕ) → Option Datagram → Option (Sought ℕ) → Option (Sought ℕ)
with_datagram family moment None sought = sought
with_datagram family moment (Some datagram) sought =
    with_query family moment datagram.envelope.source (query_in family datagram) sought

-- the querier up to and including a packet
abbrev pub with_packet : Family → PlacedPacket → Option (Sought ℕ) → Option (Sought ℕ)
with_packet family packet sought =
    with_datagram family packet.moment (datagram_of family (carried_in packet.link packet.frame)) sought

-- the querier by these packets, from this place on
unfoldable pub sought_in : Family → LinkType → Place → List Captured → Option (Sought ℕ) → Option (Sought ℕ)
sought_in family link at [] sought = sought
sought_in family link at (packet ∷ packets) sought =
    sought_in family link (place_behind at packet.stamp) packets (with_packet family (placed link at packet) sought)

-- the querier and its variables, if a querier is known
abbrev pub found_in : Option (Sought ℕ) → Option (Announced ℕ)
found_in None = None
found_in (Some s) = Some (record {
  querier = s.querier;
  robustness = s.robustness;
  query_seconds = s.query_seconds;
  response_interval = s.response_interval;
  last_member_interval = s.last_member_interval;
  beside = s.others;
})

-- the effect of a packet on what is known
abbrev pub TakesLooked : Family → PlacedPacket → (old new : Option (Sought ℕ)) → Result (Unit {0}) PcapFault → Type 0
TakesLooked family packet old new (Ok u) = new ≡ with_packet family packet old
TakesLooked family packet old new (Err f) = ⊥

-- the querier of a capture, by the capture's header
abbrev pub sought_of : Family → Result Form PcapFault → List Captured → Option (Sought ℕ)
sought_of family (Err f) packets = None
sought_of family (Ok form) packets = sought_in family form.link at_first packets None

-- the capture was read to its end, or up to a fault that later bytes don't change, or a read failed
abbrev pub IsReadBy : (is_read : Bool) → Result Form PcapFault → (end : Option PcapFault) → (bytes : List ℕ) → (old new : InputState) → PcapFault → Type 0
IsReadBy true header end bytes old new f = new.failed ≡ true
IsReadBy false header end bytes old new f =
    (end ≡ Some f) × IsOfTheFile header f bytes new × (new.failed ≡ old.failed)

abbrev pub IsRead : Result Form PcapFault → (end : Option PcapFault) → (bytes : List ℕ) → (old new : InputState) → Result (Unit {0}) PcapFault → Type 0
IsRead header end bytes old new (Ok done) = (end ≡ None) × IsAtEnd new.ahead × (new.failed ≡ old.failed)
IsRead header end bytes old new (Err f) = IsReadBy (is_read f) header end bytes old new f

-- a capture was looked at
pub record LooksIn (family : Family) (old new : InputState) (sought : Option (Sought ℕ)) (r : Result (Unit {0}) PcapFault) : Type 0 where
  pub bytes : List ℕ
  pub header : Result Form PcapFault
  pub packets : List Captured
  pub end : Option PcapFault
  pub takes : Takes old new bytes
  pub capture : Captures bytes header packets end
  pub is_found : sought ≡ sought_of family header packets
  pub ended : IsRead header end bytes old new r

-- the result by what was found and by how the reading ended
abbrev pub by_found : {X : Type 0} → Option X → PcapFault → Result (Option X) CaptureFault
by_found None f = Err (answer.Pcap f)
by_found (Some x) f = Ok (Some x)

abbrev pub by_fault : {X : Type 0} → (is_read : Bool) → Option X → PcapFault → Result (Option X) CaptureFault
by_fault true found f = Err (answer.Pcap f)
by_fault false found f = by_found found f

abbrev pub concluded : {X Y : Type 0} → Option X → Result Y PcapFault → Result (Option X) CaptureFault
concluded found (Ok done) = Ok found
concluded found (Err f) = by_fault (is_read f) found f

-- Memory was refused. Or a capture was looked at, and what was found in it, or the reason why nothing can be said, is
-- the result.
abbrev pub Announces : Family → (old new : InputState) → Result (Option (Announced ℕ)) CaptureFault → Type 0
Announces family old new (Err answer.Memory) = Unit {0}
Announces family old new (Err answer.Write) = ⊥
Announces family old new (Err (answer.Gap number)) = ⊥
Announces family old new (Err (answer.Waiting number)) = ⊥
Announces family old new r =
    (sought : Option (Sought ℕ)) × (read : Result (Unit {0}) PcapFault) × LooksIn family old new sought read
    × (r ≡ concluded (found_in sought) read)
