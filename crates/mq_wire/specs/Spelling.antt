-- Bytes that encode a message, and the fault of bytes that encode none (RFC 3376 section 4, RFC 3810 section 5). A
-- message follows from its bytes alone: its type, its length and its counts say which fields it has, and each field
-- stands at its place.
use Rattle.std.specs.Prelude.{◌≡◌, ◌⊎◌, ◌≤◌, ℕ, ◌+◌, nat_le, ◌==◌, ◌||◌, if◌then◌else◌, Bool, true, false, List, [], ◌∷◌, ◌++◌, Option, None, Some, Result, Ok, Err, length, slice_index, option_and_then}
use Rattle.mq_count.specs.declared.versions.OlderVersion.TheVariants.{V1, V2}
use Rattle.mq_wire.specs.declared.message.Message.{Message}
use Rattle.mq_wire.specs.declared.message.Message.TheVariants.{Query, OldReport, Leave, Report}
use Rattle.mq_wire.specs.declared.message.MessageType.{MessageType}
use Rattle.mq_wire.specs.declared.message.MessageType.TheVariants.{Query as QueryType, OlderReport as OlderReportType, Leave as LeaveType, Report as ReportType}
use Rattle.mq_wire.specs.declared.message.WireFault.{WireFault}
use Rattle.mq_wire.specs.declared.message.WireFault.TheVariants.{Checksum, UnknownType, QueryLength}
use Rattle.mq_wire.specs.declared.query.Query.{Query as QueryOf}
use Rattle.mq_wire.specs.declared.records.RecordView.{RecordView}
use Rattle.mq_wire.specs.Checksum.{IsRight, is_right}
use Rattle.mq_wire.specs.Family.{Family, Igmp, Mld, address_width, group_place, group_end}
use Rattle.mq_wire.specs.Fields.{number_at, first_cut, cut_from}
use Rattle.mq_wire.specs.Numbered.{numbered_message, numbered_query}
use Rattle.mq_wire.specs.Queries.{query_of, older_spans, query_spans}
use Rattle.mq_wire.specs.Records.{report_spans, report_records}

-- The listed types. IGMP: RFC 1112 appendix I (0x12), RFC 2236 section 2.1 (0x11, 0x12, 0x16, 0x17), RFC 3376 section 4
-- (0x22). MLD: RFC 2710 section 3.1 (130, 131, 132), RFC 3810 section 5.2 (143).
abbrev pub type_named : Family → ℕ → Option MessageType
type_named Igmp code =
    if code == 0x11 then Some QueryType
    else if code == 0x12 then Some (OlderReportType V1)
    else if code == 0x16 then Some (OlderReportType V2)
    else if code == 0x17 then Some LeaveType
    else if code == 0x22 then Some ReportType
    else None
type_named Mld code =
    if code == 130 then Some QueryType
    else if code == 131 then Some (OlderReportType V1)
    else if code == 132 then Some LeaveType
    else if code == 143 then Some ReportType
    else None

-- the type of a message, its first byte
abbrev pub type_of : List ℕ → ℕ
type_of bytes = slice_index bytes 0

-- A query has the length of some version: that of an older one, or at least that of the family's own.
-- RFC 3376 section 7.1, RFC 3810 section 8.1.
abbrev pub HasLength : Family → MessageType → ℕ → Type 0
HasLength family QueryType len = (len ≡ group_end family) ⊎ (group_end family + 4 ≤ len)
HasLength family (OlderReportType version) len = Unit {0}
HasLength family LeaveType len = Unit {0}
HasLength family ReportType len = Unit {0}

-- the widths of a message's consecutive fields
abbrev pub spans_of : Family → MessageType → List ℕ → List ℕ
spans_of family QueryType bytes = if length bytes == group_end family then older_spans family else query_spans family bytes
spans_of family (OlderReportType version) bytes = older_spans family
spans_of family LeaveType bytes = older_spans family
spans_of family ReportType bytes = report_spans family bytes

-- the group of an older Report, a Leave or a Done
abbrev pub group_of : Family → List ℕ → ℕ
group_of family bytes = number_at (group_place family) (address_width family) bytes

-- the message of the fields
abbrev pub message_of : Family → MessageType → List ℕ → Message ℕ
message_of family QueryType bytes = Query (query_of family bytes)
message_of family (OlderReportType version) bytes = OldReport version (group_of family bytes)
message_of family LeaveType bytes = Leave (group_of family bytes)
message_of family ReportType bytes = Report (report_records family bytes)

-- The bytes encode the message. Bytes after its last field are free, but the checksum covers them. It also covers the
-- pseudo-header before the bytes, which is empty in IGMP.
pub record Spells (family : Family) (pseudo bytes : List ℕ) (message : Message ℕ) : Type 0 where
  pub checksum : IsRight (pseudo ++ bytes)
  pub kind : MessageType
  pub listed : type_named family (type_of bytes) ≡ Some kind
  pub has_length : HasLength family kind (length bytes)
  pub whole : first_cut (length bytes) 0 (spans_of family kind bytes) ≡ None
  pub says : message ≡ message_of family kind bytes

-- the fault of bytes with a truncated span: the place of the first
abbrev pub cut_in : List ℕ → List ℕ → Option WireFault
cut_in bytes widths = cut_from (length bytes) 0 widths

-- the fault of a wrong checksum
abbrev pub wrong_checksum : List ℕ → Option WireFault
wrong_checksum covered = if is_right covered then None else Some Checksum

-- the fault of an unlisted type
abbrev pub unlisted : Option MessageType → Option WireFault
unlisted None = Some UnknownType
unlisted (Some kind) = None

-- the fault of a query of a length that no version has
abbrev pub wrong_length : Family → MessageType → ℕ → Option WireFault
wrong_length family QueryType len = if len == group_end family || nat_le (group_end family + 4) len then None else Some QueryLength
wrong_length family (OlderReportType version) len = None
wrong_length family LeaveType len = None
wrong_length family ReportType len = None

-- the first of these faults that holds
abbrev pub first_of : List (Option WireFault) → Option WireFault
first_of [] = None
first_of (None ∷ faults) = first_of faults
first_of (Some fault ∷ faults) = Some fault

-- the fault of a message of this type: a query's length, or a truncated field
abbrev pub fault_within : Family → List ℕ → MessageType → Option WireFault
fault_within family bytes kind =
    first_of (wrong_length family kind (length bytes) ∷ cut_in bytes (spans_of family kind bytes) ∷ [])

-- The fault of bytes that encode no message: the first of these that holds. Fewer bytes than the type, a byte and the
-- checksum take; a wrong checksum; an unlisted type; a query's length that no version has; a truncated field.
unfoldable pub fault_of : Family → (pseudo bytes : List ℕ) → Option WireFault
fault_of family pseudo bytes = first_of (
    cut_in bytes (1 ∷ 1 ∷ 2 ∷ [])
    ∷ wrong_checksum (pseudo ++ bytes)
    ∷ unlisted (type_named family (type_of bytes))
    ∷ option_and_then (fault_within family bytes) (type_named family (type_of bytes))
    ∷ [])

-- The result of parsing: a message that the bytes encode, or their fault. An address may have any type; the first
-- argument gives its number.
abbrev pub ReadsAs : {K : Type 0} → (K → ℕ) → Family → (pseudo bytes : List ℕ) → Result (Message K) WireFault → Type 0
ReadsAs number family pseudo bytes (Ok message) = Spells family pseudo bytes (numbered_message number message)
ReadsAs number family pseudo bytes (Err fault) = fault_of family pseudo bytes ≡ Some fault

-- the result of parsing bytes of a listed type with a right checksum
abbrev pub ReadsWithin : {K : Type 0} → (K → ℕ) → Family → MessageType → List ℕ → Result (Message K) WireFault → Type 0
ReadsWithin number family kind bytes (Ok message) =
    (fault_within family bytes kind ≡ None) × (numbered_message number message ≡ message_of family kind bytes)
ReadsWithin number family kind bytes (Err fault) = fault_within family bytes kind ≡ Some fault

-- the same for a query
abbrev pub ReadsQuery : {K : Type 0} → (K → ℕ) → Family → List ℕ → Result (QueryOf K) WireFault → Type 0
ReadsQuery number family bytes (Ok query) = (fault_within family bytes QueryType ≡ None) × (numbered_query number query ≡ query_of family bytes)
ReadsQuery number family bytes (Err fault) = fault_within family bytes QueryType ≡ Some fault

-- the version by the length of a query: an older one, the family's own, or a fault if no version has the length
abbrev pub LengthSays : Family → ℕ → Result Bool WireFault → Type 0
LengthSays family len (Ok true) = len ≡ group_end family
LengthSays family len (Ok false) = group_end family + 4 ≤ len
LengthSays family len (Err fault) = wrong_length family QueryType len ≡ Some fault

-- the same for the group of a message of one group
abbrev pub ReadsGroup : {K : Type 0} → (K → ℕ) → Family → List ℕ → Result K WireFault → Type 0
ReadsGroup number family bytes (Ok group) = (cut_in bytes (older_spans family) ≡ None) × (number group ≡ group_of family bytes)
ReadsGroup number family bytes (Err fault) = cut_in bytes (older_spans family) ≡ Some fault

-- the same for the records of a Report
abbrev pub ReadsReport : Family → List ℕ → Result (List (RecordView ℕ)) WireFault → Type 0
ReadsReport family bytes (Ok records) = (cut_in bytes (report_spans family bytes) ≡ None) × (records ≡ report_records family bytes)
ReadsReport family bytes (Err fault) = cut_in bytes (report_spans family bytes) ≡ Some fault
