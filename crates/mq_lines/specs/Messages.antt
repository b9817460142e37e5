-- The texts of messages and of faults: as an object of JSON if `json` is true, otherwise in words.
use Rattle.std.specs.Prelude.{ℕ, ◌==◌, Bool, true, false, length, List, [], ◌++◌, if◌then◌else◌, codes, Result, Ok, Err}
use Rattle.std.specs.Fmt.{decimal}
use Rattle.mq_count.specs.declared.versions.OlderVersion.{OlderVersion}
use Rattle.mq_wire.specs.declared.message.Message.{Message}
use Rattle.mq_wire.specs.declared.message.Message.TheVariants.{Query as AQuery, OldReport, Leave, Report}
use Rattle.mq_wire.specs.declared.query.Query.{Query}
use Rattle.mq_wire.specs.declared.query.QueryVersion.{QueryVersion}
use Rattle.mq_wire.specs.declared.query.QueryVersion.TheVariants.{Older, Current}
use Rattle.mq_wire.specs.declared.message.WireFault.{WireFault}
use Rattle.mq_wire.specs.declared.message.WireFault.TheVariants.{Truncated, Checksum, UnknownType, QueryLength}
use Rattle.mq_wire.specs.declared.records.RecordView.{RecordView}
use Rattle.mq_wire.specs.Family.{Family}
use Rattle.mq_lines.specs.Objects.{address_object, comma_before, items_from, truth_object}
use Rattle.mq_lines.specs.Text.{address_text, current_version, flag_text, has_response, older_version, query_sources, query_version}

-- the first text in an object, the second in words
abbrev pub either : (json : Bool) → (object words : List ℕ) → List ℕ
either true object words = object
either false object words = words

abbrev pub address_in : (json : Bool) → Family → ℕ → List ℕ
address_in json family address = either json (address_object family address) (address_text family address)

abbrev pub response_in : (json : Bool) → ℕ → List ℕ
response_in json response = either json (codes ",\"response\":") (codes " response ") ++ decimal response

abbrev pub flag_in : (json : Bool) → Bool → List ℕ
flag_in json flag = either json (truth_object flag) (flag_text flag)

-- the start of a list; words have the count of its items
abbrev pub list_start : (json : Bool) → (object words : List ℕ) → (count : ℕ) → List ℕ
list_start json object words count = either json object (words ++ decimal count)

abbrev pub sources_start : (json : Bool) → (count : ℕ) → List ℕ
sources_start json count = list_start json (codes ",\"sources\":[") (codes " sources ") count

-- the fields that only a query of IGMPv3 or MLDv2 has, up to its sources
abbrev pub fields_in : (json : Bool) → (s : Bool) → (robustness interval sources : ℕ) → List ℕ
fields_in json s robustness interval sources =
    either json (codes ",\"s\":") (codes " s ") ++ flag_in json s
    ++ either json (codes ",\"qrv\":") (codes " qrv ") ++ decimal robustness
    ++ either json (codes ",\"interval\":") (codes " interval ") ++ decimal interval ++ sources_start json sources

-- the fields of a query after its group, up to its sources
abbrev pub version_start : (json : Bool) → Family → ℕ → QueryVersion ℕ → List ℕ
version_start json family response (Older version) = if has_response family version then response_in json response else []
version_start json family response (Current fields) =
    response_in json response ++ fields_in json fields.suppress fields.robustness fields.interval (length fields.sources)

-- a version and a group
abbrev pub subject : (json : Bool) → Family → (version group : ℕ) → List ℕ
subject json family version group =
    decimal version ++ either json (codes ",\"group\":") (codes " group ") ++ address_in json family group

abbrev pub query_start : (json : Bool) → Family → Query ℕ → List ℕ
query_start json family query =
    either json (codes "{\"type\":\"query\",\"version\":") (codes "query v")
    ++ subject json family (query_version family query.version) query.group
    ++ version_start json family query.response query.version

-- the end of a query after its sources, if its version has any
abbrev pub query_end : (json : Bool) → QueryVersion ℕ → List ℕ
query_end json (Older version) = either json (codes "}") []
query_end json (Current fields) = either json (codes "]}") []

-- a source: in an object with a comma before it, unless it is the first; in words after a space
abbrev pub source_item : (json : Bool) → Family → (is_first : Bool) → ℕ → List ℕ
source_item json family is_first source = either json (comma_before is_first) (codes " ") ++ address_in json family source

abbrev pub source_items : (json : Bool) → Family → List ℕ → List ℕ
source_items json family sources = items_from (source_item json family) true sources

-- the type of a record by name (RFC 3376 section 4.2.12, RFC 3810 section 5.2.12), otherwise its number
abbrev pub kind_in : (json : Bool) → ℕ → List ℕ
kind_in json kind =
    if kind == 1 then either json (codes "\"IS_IN\"") (codes "IS_IN")
    else if kind == 2 then either json (codes "\"IS_EX\"") (codes "IS_EX")
    else if kind == 3 then either json (codes "\"TO_IN\"") (codes "TO_IN")
    else if kind == 4 then either json (codes "\"TO_EX\"") (codes "TO_EX")
    else if kind == 5 then either json (codes "\"ALLOW\"") (codes "ALLOW")
    else if kind == 6 then either json (codes "\"BLOCK\"") (codes "BLOCK")
    else either json [] (codes "TYPE ") ++ decimal kind

-- a record of a Report, up to its sources; in words in brackets after a space
abbrev pub record_start : (json : Bool) → Family → (is_first : Bool) → (kind group : ℕ) → List ℕ
record_start json family is_first kind group =
    either json (comma_before is_first ++ codes "{\"kind\":") (codes " [") ++ kind_in json kind
    ++ either json (codes ",\"group\":") (codes " ") ++ address_in json family group ++ either json (codes ",\"sources\":[") []

abbrev pub record_item : (json : Bool) → Family → (is_first : Bool) → RecordView ℕ → List ℕ
record_item json family is_first view =
    record_start json family is_first view.kind view.group
    ++ (source_items json family view.sources ++ either json (codes "]}") (codes "]"))

abbrev pub record_items : (json : Bool) → Family → List (RecordView ℕ) → List ℕ
record_items json family records = items_from (record_item json family) true records

-- a Report of the family's own version, up to its records
abbrev pub report_start : (json : Bool) → Family → (count : ℕ) → List ℕ
report_start json family count =
    either json (codes "{\"type\":\"report\",\"version\":") (codes "report v") ++ decimal (current_version family)
    ++ list_start json (codes ",\"records\":[") (codes " records ") count

abbrev pub older_report : (json : Bool) → Family → OlderVersion → (group : ℕ) → List ℕ
older_report json family version group =
    either json (codes "{\"type\":\"report\",\"version\":") (codes "report v")
    ++ subject json family (older_version version) group ++ either json (codes "}") []

abbrev pub leave : (json : Bool) → Family → (group : ℕ) → List ℕ
leave json family group =
    either json (codes "{\"type\":\"leave\",\"group\":") (codes "leave group ") ++ address_in json family group
    ++ either json (codes "}") []

abbrev pub message_in : (json : Bool) → Family → Message ℕ → List ℕ
message_in json family (AQuery query) =
    query_start json family query ++ (source_items json family (query_sources query.version) ++ query_end json query.version)
message_in json family (OldReport version group) = older_report json family version group
message_in json family (Leave group) = leave json family group
message_in json family (Report records) =
    report_start json family (length records) ++ (record_items json family records ++ either json (codes "]}") [])

-- a fault with its number, and its place if it has one
abbrev pub fault_in : (json : Bool) → WireFault → List ℕ
fault_in json (Truncated at) =
    either json (codes "{\"type\":\"fault\",\"number\":1,\"reason\":\"truncated\",\"at\":") (codes "fault 1 truncated at ")
    ++ decimal at ++ either json (codes "}") []
fault_in json Checksum =
    either json (codes "{\"type\":\"fault\",\"number\":2,\"reason\":\"checksum\"}") (codes "fault 2 checksum")
fault_in json UnknownType =
    either json (codes "{\"type\":\"fault\",\"number\":3,\"reason\":\"unknown type\"}") (codes "fault 3 unknown type")
fault_in json QueryLength =
    either json (codes "{\"type\":\"fault\",\"number\":4,\"reason\":\"query length\"}") (codes "fault 4 query length")

-- the text of a message or a fault
abbrev pub answer_in : (json : Bool) → Family → Result (Message ℕ) WireFault → List ℕ
answer_in json family (Ok message) = message_in json family message
answer_in json family (Err fault) = fault_in json fault
