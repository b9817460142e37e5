-- The lines of a check, and the sections of the standards that findings cite.
use Rattle.std.specs.Prelude.{ℕ, ◌==◌, ◌&&◌, not, Bool, true, false, if◌then◌else◌, List, [], ◌++◌, Option, None, Some, is_none, codes, filter}
use Rattle.std.specs.List.{flat_map}
use Rattle.std.specs.Fmt.{decimal}
use Rattle.mq_wire.specs.Family.{Family, Igmp, Mld}
use Rattle.mq_lines.specs.Objects.{address_object, truth_object}
use Rattle.mq_lines.specs.Text.{address_text}
pub use Rattle.mq_lines.specs.Text.{flag_text}
use Rattle.mq_check.specs.declared.asked.Asked.{Asked}
use Rattle.mq_check.specs.declared.asked.Asked.TheVariants.{AllGroups, Group, Source}
use Rattle.mq_check.specs.declared.check_terms.Additions.{Additions}
use Rattle.mq_check.specs.declared.finding.Difference.{Difference}
use Rattle.mq_check.specs.declared.finding.Difference.TheVariants.{Version, Response, Suppress, Robustness, QueryInterval, Destination}
use Rattle.mq_check.specs.declared.finding.Finding.{Finding}
use Rattle.mq_check.specs.declared.finding.Finding.TheVariants.{Missing, Extra, PossiblyMissing, PossiblyExtra, Differs, Interval, Silence, Packet}
use Rattle.mq_check.specs.declared.finding.ExtraReason.{ExtraReason}
use Rattle.mq_check.specs.declared.finding.ExtraReason.TheVariants.{NoChange, OlderHost, NotQuerier}
use Rattle.mq_check.specs.declared.headers.HeaderFault.{HeaderFault}
use Rattle.mq_check.specs.declared.headers.HeaderFault.TheVariants.{TimeToLive, NoRouterAlert, Precedence, HeaderChecksum, WrongChecksum, ReservedBits, AdditionalData}
use Rattle.mq_check.specs.declared.querier_address.QuerierAddress.{QuerierAddress}
use Rattle.mq_check.specs.declared.querier_address.QuerierAddress.TheVariants.{V4, V6}
use Rattle.mq_check.specs.declared.basis.Basis.{Basis}
use Rattle.mq_check.specs.declared.basis.CheckedVariables.{CheckedVariables}
use Rattle.mq_check.specs.declared.totals.KindCounts.{KindCounts}
use Rattle.mq_check.specs.declared.totals.Totals.{Totals}
use Rattle.mq_check.specs.declared.unjudged.Unjudged.{Unjudged}
use Rattle.mq_check.specs.declared.unjudged.Unjudged.TheVariants.{NotUnderstood, OutOfOrder, NoMessage, LimitsExceeded, NoQuery}
use Rattle.mq_check.specs.Basis.{is_unseen, unjudged_by}

-- a group, or the group and the source; all groups are the group zero
abbrev pub asked_text : Family → Asked ℕ → List ℕ
asked_text family AllGroups = address_text family 0
asked_text family (Group group) = address_text family group
asked_text family (Source group source) = address_text family group ++ codes " " ++ address_text family source

-- a name, then the seen and the wanted number
abbrev pub numbers_text : (name : List ℕ) → (seen wanted : ℕ) → List ℕ
numbers_text name seen wanted = name ++ decimal seen ++ codes ", wanted " ++ decimal wanted

-- a field under its name in the lines of queries, with the seen and the wanted value
abbrev pub difference_text : Family → Difference ℕ → List ℕ
difference_text family (Version seen wanted) = numbers_text (codes "version ") seen wanted
difference_text family (Response seen wanted) = numbers_text (codes "response ") seen wanted
difference_text family (Suppress seen wanted) = codes "s " ++ flag_text seen ++ codes ", wanted " ++ flag_text wanted
difference_text family (Robustness seen wanted) = numbers_text (codes "qrv ") seen wanted
difference_text family (QueryInterval seen wanted) = numbers_text (codes "interval ") seen wanted
difference_text family (Destination seen wanted) =
    codes "to " ++ address_text family seen ++ codes ", wanted " ++ address_text family wanted

-- a moment, and the text after it
unfoldable pub at_moment : (moment : ℕ) (what : List ℕ) → List ℕ
at_moment moment what = decimal moment ++ what

-- a time, and the wanted one
unfoldable pub interval_text : (passed wanted : ℕ) → List ℕ
interval_text passed wanted = decimal passed ++ codes ", wanted " ++ decimal wanted

-- the number of a packet, and a fault of its headers or of its query
unfoldable pub header_fault_text : (number : ℕ) → HeaderFault → List ℕ
header_fault_text number (TimeToLive ttl) = decimal number ++ codes " ttl " ++ decimal ttl ++ codes ", wanted 1"
header_fault_text number NoRouterAlert = decimal number ++ codes " alert 0"
header_fault_text number (Precedence precedence) =
    decimal number ++ codes " precedence " ++ decimal precedence ++ codes ", wanted 6"
header_fault_text number HeaderChecksum = decimal number ++ codes " header checksum"
header_fault_text number WrongChecksum = decimal number ++ codes " checksum"
header_fault_text number ReservedBits = decimal number ++ codes " reserved"
header_fault_text number AdditionalData = decimal number ++ codes " additional"

abbrev pub finding_text : Family → Finding ℕ → List ℕ
finding_text family (Missing moment packet asked) = at_moment moment (codes " missing ") ++ asked_text family asked
finding_text family (Extra moment packet asked reason) = at_moment moment (codes " extra ") ++ asked_text family asked
finding_text family (PossiblyMissing moment packet asked) =
    at_moment moment (codes " possible missing ") ++ asked_text family asked
finding_text family (PossiblyExtra moment packet asked) =
    at_moment moment (codes " possible extra ") ++ asked_text family asked
finding_text family (Differs moment packet asked difference) =
    at_moment moment (codes " differs ") ++ asked_text family asked ++ codes ": " ++ difference_text family difference
finding_text family (Interval moment packet after wanted) =
    at_moment moment (codes " general after ") ++ interval_text after wanted
finding_text family (Silence moment after wanted) =
    at_moment moment (codes " general none for ") ++ interval_text after wanted
finding_text family (Packet moment number fault) = at_moment moment (codes " packet ") ++ header_fault_text number fault

-- the value for IGMP, or that for MLD
abbrev pub of_family : {X : Type 0} → Family → (igmp mld : X) → X
of_family Igmp igmp mld = igmp
of_family Mld igmp mld = mld

-- The section that says how queries for a group and for sources are built and sent: RFC 3376 sections 6.6.3.1 and
-- 6.6.3.2, RFC 3810 sections 7.6.3.1 and 7.6.3.2. For all groups it is that of the end of the other querier (6.6.2;
-- 7.6.2).
abbrev pub sending_section : Family → Asked ℕ → List ℕ
sending_section family AllGroups = of_family family (codes "6.6.2") (codes "7.6.2")
sending_section family (Group group) = of_family family (codes "6.6.3.1") (codes "7.6.3.1")
sending_section family (Source group source) = of_family family (codes "6.6.3.2") (codes "7.6.3.2")

-- The section of an extra query. If no change asks for it, it is that of sending it. Otherwise it is that of older hosts
-- (RFC 3376 section 7.3.2, RFC 3810 section 8.3.2), or of the other querier (6.6.2; 7.6.2).
abbrev pub extra_section : Family → ExtraReason → Asked ℕ → List ℕ
extra_section family NoChange asked = sending_section family asked
extra_section family OlderHost asked = of_family family (codes "7.3.2") (codes "8.3.2")
extra_section family NotQuerier asked = of_family family (codes "6.6.2") (codes "7.6.2")

-- The section of the response. A general query has the Query Response Interval, any other the Last Member (Last
-- Listener) Query Interval.
abbrev pub response_section : Family → Asked ℕ → List ℕ
response_section family AllGroups = of_family family (codes "8.3") (codes "9.3")
response_section family (Group group) = of_family family (codes "8.8") (codes "9.8")
response_section family (Source group source) = of_family family (codes "8.8") (codes "9.8")

-- the section of S: for a group or for sources it is that of sending the query
abbrev pub suppress_section : Family → Asked ℕ → List ℕ
suppress_section family AllGroups = of_family family (codes "4.1.5") (codes "5.1.7")
suppress_section family (Group group) = sending_section family (Group group)
suppress_section family (Source group source) = sending_section family (Source group source)

abbrev pub field_section : Family → Asked ℕ → Difference ℕ → List ℕ
field_section family asked (Version seen wanted) = of_family family (codes "7.1") (codes "8.1")
field_section family asked (Response seen wanted) = response_section family asked
field_section family asked (Suppress seen wanted) = suppress_section family asked
field_section family asked (Robustness seen wanted) = of_family family (codes "4.1.6") (codes "5.1.8")
field_section family asked (QueryInterval seen wanted) = of_family family (codes "4.1.7") (codes "5.1.9")
field_section family asked (Destination seen wanted) = of_family family (codes "4.1.12") (codes "5.1.15")

-- the section of a fault of the headers: that of the packet, or of a field of the query
abbrev pub fault_section : Family → HeaderFault → List ℕ
fault_section family (TimeToLive ttl) = of_family family (codes "4") (codes "5")
fault_section family NoRouterAlert = of_family family (codes "4") (codes "5")
fault_section family (Precedence precedence) = of_family family (codes "4") (codes "5")
fault_section family HeaderChecksum = of_family family (codes "4") (codes "5")
fault_section family WrongChecksum = of_family family (codes "4.1.2") (codes "5.1.2")
fault_section family ReservedBits = of_family family (codes "4.1.4") (codes "5.1")
fault_section family AdditionalData = of_family family (codes "4.1.10") (codes "5.1.12")

-- the section of RFC 3376 or RFC 3810 that a finding violates; for intervals that of the Query Interval
abbrev pub section_of : Family → Finding ℕ → List ℕ
section_of family (Missing moment packet asked) = sending_section family asked
section_of family (Extra moment packet asked reason) = extra_section family reason asked
section_of family (PossiblyMissing moment packet asked) = sending_section family asked
section_of family (PossiblyExtra moment packet asked) = sending_section family asked
section_of family (Differs moment packet asked difference) = field_section family asked difference
section_of family (Interval moment packet after wanted) = of_family family (codes "8.2") (codes "9.2")
section_of family (Silence moment after wanted) = of_family family (codes "8.2") (codes "9.2")
section_of family (Packet moment number fault) = fault_section family fault

-- the standard and its section after a finding, if they are requested, and the end of the line
abbrev pub citation_text : Family → (cite : Bool) → Finding ℕ → List ℕ
citation_text family false finding = codes "\n"
citation_text family true finding =
    codes " (RFC " ++ of_family family (codes "3376") (codes "3810") ++ codes " section " ++ section_of family finding
    ++ codes ")" ++ codes "\n"

-- The number of a finding's packet. A silence has none, and the text of a fault of the headers has it already: then it
-- is 0. A missing query has that of the last packet before it is wanted, and any other finding that of the seen query.
abbrev pub packet_in : Finding ℕ → ℕ
packet_in (Missing moment packet asked) = packet
packet_in (Extra moment packet asked reason) = packet
packet_in (PossiblyMissing moment packet asked) = packet
packet_in (PossiblyExtra moment packet asked) = packet
packet_in (Differs moment packet asked difference) = packet
packet_in (Interval moment packet after wanted) = packet
packet_in (Silence moment after wanted) = 0
packet_in (Packet moment number fault) = 0

-- the number of a packet, and whether it is printed: if it is requested and isn't 0
unfoldable pub number_text : (number : ℕ) → List ℕ
number_text number = codes " packet " ++ decimal number

abbrev pub packet_text : (packets : Bool) → Finding ℕ → List ℕ
packet_text packets finding =
    if packets && not (packet_in finding == 0) then number_text (packet_in finding) else []

-- the additions to the line of a finding: the number of the packet, then the section
abbrev pub additions_text : Family → Additions → Finding ℕ → List ℕ
additions_text family additions finding =
    packet_text additions.packets finding ++ citation_text family additions.cite finding

-- The fields of a finding in its object, with its moment, its kind, and whether it is certain.
unfoldable pub kind_start : (moment : ℕ) → (kind : List ℕ) → (is_certain : Bool) → List ℕ
kind_start moment kind is_certain =
    codes "{\"time\":" ++ at_moment moment (codes ",\"finding\":\"") ++ kind ++ codes "\",\"certain\":" ++ truth_object is_certain

-- the subject of its query
unfoldable pub asked_fields : Family → Asked ℕ → List ℕ
asked_fields family AllGroups = codes ",\"group\":" ++ address_object family 0 ++ codes ",\"source\":null"
asked_fields family (Group group) = codes ",\"group\":" ++ address_object family group ++ codes ",\"source\":null"
asked_fields family (Source group source) =
    codes ",\"group\":" ++ address_object family group ++ codes ",\"source\":" ++ address_object family source

abbrev pub no_asked : List ℕ
no_asked = codes ",\"group\":null,\"source\":null"

abbrev pub finding_start : Family → Finding ℕ → List ℕ
finding_start family (Missing moment packet asked) = kind_start moment (codes "missing") true ++ asked_fields family asked
finding_start family (Extra moment packet asked reason) = kind_start moment (codes "extra") true ++ asked_fields family asked
finding_start family (PossiblyMissing moment packet asked) = kind_start moment (codes "missing") false ++ asked_fields family asked
finding_start family (PossiblyExtra moment packet asked) = kind_start moment (codes "extra") false ++ asked_fields family asked
finding_start family (Differs moment packet asked difference) = kind_start moment (codes "differs") true ++ asked_fields family asked
finding_start family (Interval moment packet after wanted) = kind_start moment (codes "interval") true ++ no_asked
finding_start family (Silence moment after wanted) = kind_start moment (codes "silence") true ++ no_asked
finding_start family (Packet moment number fault) = kind_start moment (codes "header") true ++ no_asked

-- a field, with the seen and the wanted value
unfoldable pub number_values : (field : List ℕ) → (seen wanted : ℕ) → List ℕ
number_values field seen wanted =
    codes ",\"field\":" ++ field ++ codes ",\"seen\":" ++ decimal seen ++ codes ",\"wanted\":" ++ decimal wanted

unfoldable pub difference_values : Family → Difference ℕ → List ℕ
difference_values family (Version seen wanted) = number_values (codes "\"version\"") seen wanted
difference_values family (Response seen wanted) = number_values (codes "\"response\"") seen wanted
difference_values family (Suppress seen wanted) =
    codes ",\"field\":\"s\",\"seen\":" ++ truth_object seen ++ codes ",\"wanted\":" ++ truth_object wanted
difference_values family (Robustness seen wanted) = number_values (codes "\"qrv\"") seen wanted
difference_values family (QueryInterval seen wanted) = number_values (codes "\"interval\"") seen wanted
difference_values family (Destination seen wanted) =
    codes ",\"field\":\"destination\",\"seen\":" ++ address_object family seen ++ codes ",\"wanted\":" ++ address_object family wanted

unfoldable pub header_values : HeaderFault → List ℕ
header_values (TimeToLive ttl) = number_values (codes "\"ttl\"") ttl 1
header_values NoRouterAlert = codes ",\"field\":\"alert\",\"seen\":false,\"wanted\":true"
header_values (Precedence precedence) = number_values (codes "\"precedence\"") precedence 6
header_values HeaderChecksum = codes ",\"field\":\"header checksum\",\"seen\":null,\"wanted\":null"
header_values WrongChecksum = codes ",\"field\":\"checksum\",\"seen\":null,\"wanted\":null"
header_values ReservedBits = codes ",\"field\":\"reserved\",\"seen\":null,\"wanted\":null"
header_values AdditionalData = codes ",\"field\":\"additional\",\"seen\":null,\"wanted\":null"

abbrev pub no_values : List ℕ
no_values = codes ",\"field\":null,\"seen\":null,\"wanted\":null"

unfoldable pub finding_values : Family → Finding ℕ → List ℕ
finding_values family (Missing moment packet asked) = no_values
finding_values family (Extra moment packet asked reason) = no_values
finding_values family (PossiblyMissing moment packet asked) = no_values
finding_values family (PossiblyExtra moment packet asked) = no_values
finding_values family (Differs moment packet asked difference) = difference_values family difference
finding_values family (Interval moment packet after wanted) = number_values (codes "null") after wanted
finding_values family (Silence moment after wanted) = number_values (codes "null") after wanted
finding_values family (Packet moment number fault) = header_values fault

-- the number of its packet; 0 stands for none
abbrev pub number_of : Finding ℕ → ℕ
number_of (Packet moment number fault) = number
number_of finding = packet_in finding

abbrev pub number_object : ℕ → List ℕ
number_object number = if number == 0 then codes "null" else decimal number

-- the number of its packet, the standard, and the section
abbrev pub finding_rest : Family → Finding ℕ → List ℕ
finding_rest family finding =
    finding_values family finding ++ codes ",\"packet\":" ++ number_object (number_of finding)
    ++ codes ",\"rfc\":" ++ of_family family (codes "3376") (codes "3810") ++ codes ",\"sections\":[\"" ++ section_of family finding
    ++ codes "\"]}\n"

-- A finding that depends on what was there before the capture. Any other is certain.
abbrev pub is_possible : Finding ℕ → Bool
is_possible (Missing moment packet asked) = false
is_possible (Extra moment packet asked reason) = false
is_possible (PossiblyMissing moment packet asked) = true
is_possible (PossiblyExtra moment packet asked) = true
is_possible (Differs moment packet asked difference) = false
is_possible (Interval moment packet after wanted) = false
is_possible (Silence moment after wanted) = false
is_possible (Packet moment number fault) = false

-- The number of its kind: a missing or an extra query, a field that differs, an interval, a silence, a fault of headers.
-- A possible finding has none.
abbrev pub kind_number : Finding ℕ → ℕ
kind_number (Missing moment packet asked) = 1
kind_number (Extra moment packet asked reason) = 2
kind_number (PossiblyMissing moment packet asked) = 0
kind_number (PossiblyExtra moment packet asked) = 0
kind_number (Differs moment packet asked difference) = 3
kind_number (Interval moment packet after wanted) = 4
kind_number (Silence moment after wanted) = 5
kind_number (Packet moment number fault) = 6

abbrev pub is_kind : (kind : ℕ) → Finding ℕ → Bool
is_kind kind finding = kind_number finding == kind

abbrev pub is_certain : Finding ℕ → Bool
is_certain finding = not (is_possible finding)

abbrev pub certain_in : List (Finding ℕ) → List (Finding ℕ)
certain_in findings = filter is_certain findings

abbrev pub possible_in : List (Finding ℕ) → List (Finding ℕ)
possible_in findings = filter is_possible findings

-- the certain ones of a kind
abbrev pub of_kind : (kind : ℕ) → List (Finding ℕ) → List (Finding ℕ)
of_kind kind findings = filter (is_kind kind) findings

-- a finding as a line of text, or as an object of JSON
abbrev pub finding_in_form : (json : Bool) → Family → Additions → Finding ℕ → List ℕ
finding_in_form true family additions finding = finding_start family finding ++ finding_rest family finding
finding_in_form false family additions finding = finding_text family finding ++ additions_text family additions finding

-- the line of a finding; a possible one has a line only if it is requested
abbrev pub line_unless : (is_left_out : Bool) → Family → Additions → Finding ℕ → List ℕ
line_unless true family additions finding = []
line_unless false family additions finding = finding_in_form additions.json family additions finding

abbrev pub finding_line : Family → Additions → Finding ℕ → List ℕ
finding_line family additions finding =
    line_unless (is_possible finding && not additions.possible) family additions finding

-- the lines of findings, in order
abbrev pub finding_lines : Family → Additions → List (Finding ℕ) → List ℕ
finding_lines family additions findings = flat_map (finding_line family additions) findings

-- a name and a count
unfoldable pub count_text : (name : List ℕ) → (count : ℕ) → List ℕ
count_text name count = name ++ decimal count

-- the number of possible findings, if there are any
abbrev pub possible_line : (possible : ℕ) → List ℕ
possible_line possible =
    if possible == 0
    then []
    else count_text (codes "possible ") possible ++ codes ": another reading or an earlier state may explain them\n"

-- the numbers of general queries, of other queries and of certain findings, and that of possible ones
abbrev pub counts_line : Totals → List ℕ
counts_line totals =
    count_text (codes "checked general ") totals.general ++ count_text (codes " specific ") totals.specific
    ++ count_text (codes ": ") totals.findings ++ codes " findings\n"

abbrev pub totals_line : Totals → List ℕ
totals_line totals = counts_line totals ++ possible_line totals.possible

-- a name and a count, if there are any
abbrev pub count_if : (name : List ℕ) → (count : ℕ) → List ℕ
count_if name count = if count == 0 then [] else count_text name count

-- The number of unread packets. Then those of packets whose stamps go back, and of records that the link refused, if there
-- are any.
abbrev pub unread_text : Basis → List ℕ
unread_text b =
    count_text (codes " unread ") b.unread ++ count_if (codes " back ") b.back ++ count_if (codes " refused ") b.refused

-- the numbers of packets, of messages of the family, and of malformed, truncated and unread packets
abbrev pub packets_line : Basis → List ℕ
packets_line b =
    count_text (codes "packets ") b.packets ++ count_text (codes " messages ") b.messages
    ++ count_text (codes " malformed ") b.malformed ++ count_text (codes " cut ") b.cut
    ++ unread_text b ++ codes "; groups held before 0 are unknown\n"

abbrev pub querier_text : QuerierAddress → List ℕ
querier_text (V4 address) = address_text Igmp address
querier_text (V6 address) = address_text Mld address

-- The text on losses of the role: their number, the last one's moment, the last other querier, and the moment of the
-- return.
abbrev pub again_text : Basis → List ℕ
again_text b = if b.is_querier then codes ", again at " ++ at_moment b.again_at [] else []

abbrev pub lost_text : Basis → List ℕ
lost_text b =
    if b.lost == 0
    then []
    else count_text (codes ", lost ") b.lost ++ codes ", last at " ++ at_moment b.lost_at (codes ", other ")
    ++ querier_text b.other ++ again_text b

-- the word for a router from which nothing came, beside one with a higher address
abbrev pub unseen_text : Basis → List ℕ
unseen_text b = if is_unseen b then codes ", unseen" else []

-- the checked router, and when it was querier
abbrev pub querier_line : Basis → List ℕ
querier_line b = codes "querier " ++ querier_text b.own ++ codes " from 0" ++ unseen_text b ++ lost_text b ++ codes "\n"

-- The object of the totals: what was judged, the queries seen, and the findings.
abbrev pub why_object : Option Unjudged → List ℕ
why_object None = codes "null"
why_object (Some NotUnderstood) = codes "\"unread\""
why_object (Some OutOfOrder) = codes "\"order\""
why_object (Some NoMessage) = codes "\"no message\""
why_object (Some NoQuery) = codes "\"no query\""
why_object (Some LimitsExceeded) = codes "\"limits\""

unfoldable pub judged_fields : Option Unjudged → List ℕ
judged_fields why = codes "{\"summary\":{\"judged\":" ++ truth_object (is_none why) ++ codes ",\"why\":" ++ why_object why

abbrev pub querier_object : QuerierAddress → List ℕ
querier_object querier = codes "\"" ++ querier_text querier ++ codes "\""

abbrev pub summary_start : Totals → List ℕ
summary_start totals =
    judged_fields (unjudged_by totals) ++ count_text (codes ",\"general\":") totals.general
    ++ count_text (codes ",\"specific\":") totals.specific ++ count_text (codes ",\"findings\":") totals.findings
    ++ count_text (codes ",\"possible\":") totals.possible

-- the numbers of findings of each kind
abbrev pub kinds_field : KindCounts → List ℕ
kinds_field kinds =
    count_text (codes ",\"kinds\":{\"missing\":") kinds.missing ++ count_text (codes ",\"extra\":") kinds.extra
    ++ count_text (codes ",\"differs\":") kinds.differs ++ count_text (codes ",\"interval\":") kinds.interval
    ++ count_text (codes ",\"silence\":") kinds.silence ++ count_text (codes ",\"header\":") kinds.header ++ codes "}"

-- the checked router, and the variables with which it is checked
abbrev pub variables_field : CheckedVariables → List ℕ
variables_field v =
    count_text (codes ",\"variables\":{\"rv\":") v.rv ++ count_text (codes ",\"qi\":") v.qi ++ count_text (codes ",\"qri\":") v.qri
    ++ count_text (codes ",\"lmqi\":") v.lmqi ++ codes "}"

abbrev pub checked_fields : Basis → List ℕ
checked_fields b = codes ",\"querier\":" ++ querier_object b.own ++ variables_field b.variables

-- the moment since which the router is querier again, and the last loss of the role
abbrev pub again_object : Basis → List ℕ
again_object b = if b.is_querier then at_moment b.again_at [] else codes "null"

unfoldable pub last_lost : Basis → List ℕ
last_lost b =
    if b.lost == 0
    then codes ",\"last_at\":null,\"other\":null,\"again_at\":null"
    else codes ",\"last_at\":" ++ at_moment b.lost_at (codes ",\"other\":") ++ querier_object b.other
    ++ codes ",\"again_at\":" ++ again_object b

abbrev pub roles_field : Basis → List ℕ
roles_field b =
    count_text (codes ",\"roles\":{\"lost\":") b.lost ++ last_lost b ++ codes ",\"unseen\":" ++ truth_object (is_unseen b)
    ++ codes "}"

abbrev pub packets_field : Basis → List ℕ
packets_field b =
    count_text (codes ",\"packets\":{\"packets\":") b.packets ++ count_text (codes ",\"messages\":") b.messages
    ++ count_text (codes ",\"malformed\":") b.malformed ++ count_text (codes ",\"cut\":") b.cut
    ++ count_text (codes ",\"unread\":") b.unread ++ count_text (codes ",\"back\":") b.back
    ++ count_text (codes ",\"refused\":") b.refused ++ codes "}}}\n"

-- the totals and their basis at the end, as lines of text or as an object of JSON
abbrev pub last_lines : (json : Bool) → Totals → List ℕ
last_lines true totals =
    summary_start totals
    ++ (kinds_field totals.kinds ++ (checked_fields totals.basis ++ (roles_field totals.basis ++ packets_field totals.basis)))
last_lines false totals = totals_line totals ++ packets_line totals.basis ++ querier_line totals.basis
