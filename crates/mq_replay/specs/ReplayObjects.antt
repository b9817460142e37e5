-- The objects of JSON of a replay's events.
use Rattle.std.specs.Prelude.{ℕ, Bool, true, List, ◌++◌, Option, None, Some, codes}
use Rattle.std.specs.Fmt.{decimal}
use Rattle.std.specs.FinMap as map
use Rattle.hex.specs.Hex.{encode_lower}
use Rattle.mq_wire.specs.declared.message.Message.TheVariants.{Query as AQuery}
use Rattle.mq_wire.specs.declared.query.Query.{Query}
use Rattle.mq_wire.specs.declared.query.QueryVersion.{QueryVersion}
use Rattle.mq_wire.specs.declared.query.QueryVersion.TheVariants.{Older, Current}
use Rattle.mq_wire.specs.Family.{Family}
use Rattle.mq_wire.specs.RoundTrip.{interval_lowered, response_lowered}
use Rattle.mq_table.specs.declared.timers.FilterMode.{FilterMode}
use Rattle.mq_table.specs.declared.timers.FilterMode.TheVariants.{Include, Exclude}
use Rattle.mq_table.specs.declared.timers.SourceTimer.{SourceTimer}
use Rattle.mq_table.specs.declared.timers.SourceTimer.TheVariants.{Stopped, Running}
use Rattle.mq_table.specs.Group.{GroupState}
use Rattle.mq_pcap.specs.Frame.{Carried}
use Rattle.mq_link.specs.declared.answers.DropReason.{DropReason}
use Rattle.mq_link.specs.declared.answers.DropReason.TheVariants.{Truncated, Checksum, UnknownType, QueryLength, BadSource, HopLimit, NoAlert, OwnOrZero, OlderQuery, BadGroup}
use Rattle.mq_link.specs.declared.answers.Received.{Received}
use Rattle.mq_link.specs.declared.answers.Received.TheVariants.{Taken, Dropped}
use Rattle.mq_link.specs.Counters.{Counters, reason_number}
use Rattle.mq_link.specs.Sent.{Outgoing}
use Rattle.mq_lines.specs.Objects.{address_object, comma_before, items_from, truth_object}
use Rattle.mq_lines.specs.Messages.{message_in}
use Rattle.mq_replay.specs.ReplayLines.{skipped_text}

-- the start of an object, with the moment and the name of its event
unfoldable pub event_start : (moment : ℕ) → (name : List ℕ) → List ℕ
event_start moment name = codes "{\"time\":" ++ decimal moment ++ codes ",\"event\":\"" ++ name ++ codes "\""

-- a field with a number
unfoldable pub number_field : (name : List ℕ) → ℕ → List ℕ
number_field name number = name ++ decimal number

-- the start of the object of a packet, with its number, and with its source too
unfoldable pub packet_start : (moment : ℕ) (name : List ℕ) (number : ℕ) → List ℕ
packet_start moment name number = event_start moment name ++ number_field (codes ",\"packet\":") number

unfoldable pub sender_start : Family → (moment : ℕ) (name : List ℕ) (number source : ℕ) → List ℕ
sender_start family moment name number source =
    packet_start moment name number ++ codes ",\"source\":" ++ address_object family source

-- A query as a host reads it: its times are those of their codes.
abbrev pub version_said : QueryVersion ℕ → QueryVersion ℕ
version_said (Older version) = Older version
version_said (Current fields) = Current (record fields { interval = interval_lowered fields.interval })

abbrev pub query_said : Family → Query ℕ → Query ℕ
query_said family query = record {
  group = query.group;
  response = response_lowered family query.response;
  version = version_said query.version;
}

-- a query that is sent: its destination, its bytes, and what they say
unfoldable pub send_start : Family → (moment to : ℕ) → List ℕ
send_start family moment to =
    event_start moment (codes "send") ++ codes ",\"destination\":" ++ address_object family to ++ codes ",\"hex\":\""

abbrev pub said_field : Family → Query ℕ → List ℕ
said_field family query = codes "\",\"message\":" ++ message_in true family (AQuery (query_said family query))

abbrev pub send_object : Family → (moment : ℕ) → Outgoing → List ℕ
send_object family moment query =
    send_start family moment query.to ++ (encode_lower query.bytes ++ (said_field family query.query ++ codes "}\n"))

-- the reason to drop a datagram
abbrev pub reason_text : DropReason → List ℕ
reason_text Truncated = codes "truncated"
reason_text Checksum = codes "checksum"
reason_text UnknownType = codes "unknown type"
reason_text QueryLength = codes "query length"
reason_text BadSource = codes "source"
reason_text HopLimit = codes "hop limit"
reason_text NoAlert = codes "router alert"
reason_text OwnOrZero = codes "own query"
reason_text OlderQuery = codes "query of version 1"
reason_text BadGroup = codes "group"

-- a datagram that the link received: taken, with the numbers of its records, or dropped
abbrev pub receipt_object : Family → (moment number source : ℕ) → Received → List ℕ
receipt_object family moment number source (Taken applied ignored refused) =
    sender_start family moment (codes "receive") number source ++ number_field (codes ",\"applied\":") applied
    ++ number_field (codes ",\"ignored\":") ignored ++ number_field (codes ",\"refused\":") refused ++ codes "}\n"
receipt_object family moment number source (Dropped reason) =
    sender_start family moment (codes "drop") number source ++ number_field (codes ",\"number\":") (reason_number reason)
    ++ codes ",\"reason\":\"" ++ reason_text reason ++ codes "\"}\n"

-- a packet that isn't for the link
abbrev pub skip_object : (moment number : ℕ) → Carried → List ℕ
skip_object moment number carried =
    packet_start moment (codes "skip") number ++ codes ",\"skipped\":\"" ++ skipped_text carried ++ codes "\"}\n"

-- the end of the replay
abbrev pub end_object : (moment : ℕ) → (is_querier : Bool) → List ℕ
end_object moment is_querier =
    event_start moment (codes "end") ++ codes ",\"querier\":" ++ truth_object is_querier ++ codes "}\n"

-- the deadline of a timer, if it runs
abbrev pub deadline_object : Option ℕ → List ℕ
deadline_object None = codes "null"
deadline_object (Some deadline) = decimal deadline

abbrev pub timer_object : SourceTimer → List ℕ
timer_object Stopped = codes "null"
timer_object (Running deadline retransmissions) = decimal deadline

-- the filter mode with the deadline of the group timer, which only EXCLUDE has
unfoldable pub mode_fields : FilterMode → List ℕ
mode_fields Include = codes ",\"filter\":\"include\",\"timer\":null"
mode_fields (Exclude deadline) = codes ",\"filter\":\"exclude\",\"timer\":" ++ decimal deadline

-- a source with its timer
abbrev pub timer_item : Family → (is_first : Bool) → ℕ × SourceTimer → List ℕ
timer_item family is_first e =
    comma_before is_first ++ codes "{\"source\":" ++ address_object family e.0 ++ codes ",\"timer\":" ++ timer_object e.1 ++ codes "}"

-- the state of a group: its filter mode, its sources in the order of their addresses, and the timers of older hosts
abbrev pub state_start : Family → (moment : ℕ) (name : List ℕ) (group : ℕ) → FilterMode → List ℕ
state_start family moment name group mode =
    event_start moment name ++ codes ",\"group\":" ++ address_object family group ++ mode_fields mode ++ codes ",\"sources\":["

abbrev pub state_end : (v1 v2 : Option ℕ) → List ℕ
state_end v1 v2 = codes "],\"v1\":" ++ deadline_object v1 ++ codes ",\"v2\":" ++ deadline_object v2 ++ codes "}\n"

abbrev pub state_object : Family → (moment : ℕ) (name : List ℕ) (group : ℕ) → GroupState → List ℕ
state_object family moment name group g =
    state_start family moment name group g.mode
    ++ (items_from (timer_item family) true (map.entries g.sources) ++ state_end g.v1 g.v2)

-- the counters
abbrev pub counts_object : Counters → List ℕ
counts_object c =
    number_field (codes "{\"event\":\"counts\",\"received\":") c.received ++ number_field (codes ",\"dropped\":") c.dropped
    ++ number_field (codes ",\"applied\":") c.applied ++ number_field (codes ",\"ignored\":") c.ignored
    ++ number_field (codes ",\"refused\":") c.refused ++ number_field (codes ",\"sent\":") c.sent
    ++ number_field (codes ",\"unsent\":") c.unsent ++ codes "}\n"
