-- The effect of a datagram on a link (RFC 3376 sections 4, 6.4 and 7.3.2, RFC 3810 sections 5, 7.4 and 8.3.2).
use Rattle.std.specs.Prelude.{ℕ, ◌==◌, Bool, true, false, not, ◌||◌, List, [], ◌∷◌, ◌++◌, length, Option, None, Some, Result, Ok, Err}
use Rattle.std.specs.Option.{option_map}
use Rattle.std.specs.List.{count_by}
use Rattle.std.specs.FinMap as map
use Rattle.mq_count.specs.declared.versions.OlderVersion.TheVariants.{V1, V2}
use Rattle.mq_wire.specs.declared.message.Message.{Message}
use Rattle.mq_wire.specs.declared.message.Message.TheVariants.{Query as QueryMessage, OldReport, Leave as LeaveMessage, Report as ReportMessage}
use Rattle.mq_wire.specs.declared.message.WireFault.{WireFault}
use Rattle.mq_wire.specs.declared.message.WireFault.TheVariants.{Truncated as TruncatedAt, Checksum as WrongChecksum, UnknownType as UnlistedType, QueryLength as WrongLength}
use Rattle.mq_wire.specs.declared.query.QueryVersion.{QueryVersion}
use Rattle.mq_wire.specs.declared.query.QueryVersion.TheVariants.{Older, Current}
use Rattle.mq_wire.specs.Family.{Family, Igmp, Mld}
use Rattle.mq_wire.specs.PseudoHeader.{pseudo_header}
use Rattle.mq_wire.specs.Spelling.{type_named, type_of, message_of, fault_of}
use Rattle.mq_link.specs.declared.answers.DropReason.{DropReason}
use Rattle.mq_link.specs.declared.answers.DropReason.TheVariants.{Truncated, Checksum, UnknownType, QueryLength, BadSource, HopLimit, NoAlert, OwnOrZero, OlderQuery, BadGroup}
use Rattle.mq_link.specs.declared.answers.MessageKind.{MessageKind}
use Rattle.mq_link.specs.declared.answers.MessageKind.TheVariants.{Query as QueryKind, OlderQuery as OlderQueryKind, OlderReport as OlderReportKind, Leave as LeaveKind, Report as ReportKind}
use Rattle.mq_link.specs.declared.answers.Received.{Received}
use Rattle.mq_link.specs.declared.answers.Received.TheVariants.{Taken, Dropped}
use Rattle.mq_link.specs.Tests.{first_named}
use Rattle.mq_link.specs.Family.{is_admitted, is_link_local}
use Rattle.mq_link.specs.Configuration.{Configuration}
use Rattle.mq_link.specs.Counters.{Counters, Verdict, count_received, count_spelled, count_dropped, count_verdicts, is_applied, is_ignored, is_refused}
use Rattle.mq_link.specs.State.{LinkState}
use Rattle.mq_link.specs.Tick.{Step, tick_of}
use Rattle.mq_link.specs.Record.{Setting, OlderJoin, OlderLeave, Outcomes, stated_alone, all_judged, alone}
use Rattle.mq_link.specs.Heard.{query_heard}

-- The facts of a datagram beside its bytes. They are its source, and for MLD its destination, its hop limit, and
-- whether it has a Router Alert option. IGMP looks at the source alone.
pub record Envelope : Type 0 where
  pub source : ℕ
  pub destination : ℕ
  pub hop_limit : ℕ
  pub alert : Bool

-- the bytes before the message that the checksum covers
abbrev pub pseudo_of : Family → Envelope → List ℕ → List ℕ
pseudo_of Igmp envelope bytes = []
pseudo_of Mld envelope bytes = pseudo_header envelope.source envelope.destination (length bytes)

-- the message of the bytes, if their type is listed
abbrev pub message_in : Family → List ℕ → Option (Message ℕ)
message_in family bytes = option_map (λ kind. message_of family kind bytes) (type_named family (type_of bytes))

abbrev pub unless_faulty : Option WireFault → Option (Message ℕ) → Result (Message ℕ) WireFault
unless_faulty (Some fault) message = Err fault
unless_faulty None None = Err UnlistedType
unless_faulty None (Some message) = Ok message

-- the fault of the bytes, or else the message that they encode
unfoldable pub read_of : Family → (pseudo bytes : List ℕ) → Result (Message ℕ) WireFault
read_of family pseudo bytes = unless_faulty (fault_of family pseudo bytes) (message_in family bytes)

-- the reasons of the numbers 1 to 4, which are faults of the bytes
abbrev pub reason_of_fault : WireFault → DropReason
reason_of_fault (TruncatedAt place) = Truncated
reason_of_fault WrongChecksum = Checksum
reason_of_fault UnlistedType = UnknownType
reason_of_fault WrongLength = QueryLength

-- the tests of the reasons 5 to 7, which MLD alone has (RFC 3810 sections 5.1.14, 5.2.13, 7.4 and 7.6)
abbrev pub envelope_tests : Family → Envelope → List (DropReason × Bool)
envelope_tests Igmp envelope = []
envelope_tests Mld envelope =
    (BadSource, not (is_link_local envelope.source))
    ∷ (HopLimit, not (envelope.hop_limit == 1))
    ∷ (NoAlert, not envelope.alert)
    ∷ []

-- a query of IGMPv1, which takes no part in the election (RFC 3376 section 7.1)
abbrev pub is_of_igmpv1 : Family → QueryVersion ℕ → Bool
is_of_igmpv1 Igmp (Older V1) = true
is_of_igmpv1 Igmp (Older V2) = false
is_of_igmpv1 Igmp (Current fields) = false
is_of_igmpv1 Mld version = false

abbrev pub is_zero_of_igmp : Family → ℕ → Bool
is_zero_of_igmp Igmp source = source == 0
is_zero_of_igmp Mld source = false

-- the tests of the reasons 8 to 10, by the type of the message
abbrev pub message_tests : Configuration → (source : ℕ) → Message ℕ → List (DropReason × Bool)
message_tests config source (QueryMessage query) =
    (OwnOrZero, source == config.own || is_zero_of_igmp config.family source)
    ∷ (OlderQuery, is_of_igmpv1 config.family query.version)
    ∷ []
message_tests config source (OldReport version group) = (BadGroup, not (is_admitted config.family group)) ∷ []
message_tests config source (LeaveMessage group) = (BadGroup, not (is_admitted config.family group)) ∷ []
message_tests config source (ReportMessage records) = []

-- the reason to drop a datagram, if there is one: the reason with the lowest number that holds
abbrev pub drop_reason : Configuration → Envelope → Result (Message ℕ) WireFault → Option DropReason
drop_reason config envelope (Err fault) = Some (reason_of_fault fault)
drop_reason config envelope (Ok message) =
    first_named (envelope_tests config.family envelope ++ message_tests config envelope.source message)

-- the kind of a parsed message, as it is counted
abbrev pub kind_of_version : QueryVersion ℕ → MessageKind
kind_of_version (Older version) = OlderQueryKind
kind_of_version (Current fields) = QueryKind

abbrev pub kind_of : Message ℕ → MessageKind
kind_of (QueryMessage query) = kind_of_version query.version
kind_of (OldReport version group) = OlderReportKind
kind_of (LeaveMessage group) = LeaveKind
kind_of (ReportMessage records) = ReportKind

abbrev pub count_read : Result (Message ℕ) WireFault → Counters → Counters
count_read (Err fault) c = count_received c
count_read (Ok message) c = count_spelled (kind_of message) (count_received c)

-- The result of a datagram: the state, the queries to send with their timing, and the answer.
pub record Receipt : Type 0 where
  pub step : Step
  pub answer : Received

abbrev pub taken : List Verdict → Received
taken verdicts = Taken (count_by is_applied verdicts) (count_by is_ignored verdicts) (count_by is_refused verdicts)

-- the receipt with the outcomes of records
abbrev pub with_outcomes : Step → Outcomes → Receipt
with_outcomes tick outcomes =
    let before = tick.state in
    record {
      step = record {
        state = record before { groups = outcomes.groups; counters = count_verdicts outcomes.verdicts before.counters };
        queries = tick.queries ++ outcomes.queries;
        timing = tick.timing;
      };
      answer = taken outcomes.verdicts;
    }

-- the receipt with another state, if nothing more is sent
abbrev pub with_state : Step → LinkState → Received → Receipt
with_state tick state answer =
    record { step = record { state = state; queries = tick.queries; timing = tick.timing }; answer = answer }

-- the election and the moment for the records of a datagram: those after the tick
abbrev pub setting_of : Configuration → LinkState → Setting
setting_of config state = record { config = config; election = state.election; now = state.last }

-- the receipt of a message that isn't dropped
unfoldable pub taken_in : Configuration → Envelope → Message ℕ → Step → Receipt
taken_in config envelope (QueryMessage query) tick =
    with_state tick (query_heard config tick.state.last envelope.source query tick.state) (taken [])
taken_in config envelope (OldReport version group) tick =
    with_outcomes tick (alone (stated_alone (setting_of config tick.state) group (OlderJoin version) tick.state.groups))
taken_in config envelope (LeaveMessage group) tick =
    with_outcomes tick (alone (stated_alone (setting_of config tick.state) group OlderLeave tick.state.groups))
taken_in config envelope (ReportMessage records) tick =
    with_outcomes tick (all_judged (setting_of config tick.state) map.empty records tick.state.groups)

-- the receipt of a message that is dropped: it is counted, and no more
abbrev pub dropped_for : DropReason → Step → Receipt
dropped_for reason tick =
    let before = tick.state in
    with_state tick (record before { counters = count_dropped reason before.counters }) (Dropped reason)

-- the tick with its datagram counted
abbrev pub counting_read : Result (Message ℕ) WireFault → Step → Step
counting_read read tick =
    let before = tick.state in
    record tick { state = record before { counters = count_read read before.counters } }

-- the receipt after the tick, by what was read
abbrev pub taken_or_dropped : Configuration → Envelope → Step → Result (Message ℕ) WireFault → Option DropReason → Receipt
taken_or_dropped config envelope tick read (Some reason) = dropped_for reason (counting_read read tick)
taken_or_dropped config envelope tick (Err fault) None = dropped_for (reason_of_fault fault) (counting_read (Err fault) tick)
taken_or_dropped config envelope tick (Ok message) None = taken_in config envelope message (counting_read (Ok message) tick)

abbrev pub receipt_after : Configuration → Envelope → Result (Message ℕ) WireFault → Step → Receipt
receipt_after config envelope read tick = taken_or_dropped config envelope tick read (drop_reason config envelope read)

-- The receipt of a datagram at a moment. First comes what a tick does then. Then the datagram is read, and dropped or
-- taken.
abbrev pub receipt_of : Configuration → Envelope → List ℕ → (now : ℕ) → LinkState → Receipt
receipt_of config envelope bytes now state =
    receipt_after config envelope (read_of config.family (pseudo_of config.family envelope bytes) bytes)
    (tick_of config now state)
