-- The canonical bytes of a query of IGMPv3 or MLDv2 (RFC 3376 section 4.1, RFC 3810 section 5.1). Reserved fields and
-- the code of ICMPv6 are 0, times are lowered to values of codes, the message ends with its last source, and its
-- checksum is in its field.
use Rattle.std.specs.Prelude.{ℕ, ◌+◌, ◌/◌, ◌%◌, ◌==◌, Bool, true, false, if◌then◌else◌, ◌≡◌, ◌<◌, ◌≤◌, List, [], ◌∷◌, ◌++◌, length, drop, Result, Ok, Err}
use Rattle.std.specs.List.{flat_map}
use Rattle.byteorder.specs.Endian.{big_bytes}
use Rattle.mq_wire.specs.declared.query.Query.{Query}
use Rattle.mq_wire.specs.declared.query.QuerierFields.{QuerierFields}
use Rattle.mq_wire.specs.declared.query.QueryVersion.{QueryVersion}
use Rattle.mq_wire.specs.declared.query.QueryVersion.TheVariants.{Older, Current}
use Rattle.mq_wire.specs.declared.writing.Small.{Small}
use Rattle.mq_wire.specs.Checksum.{checksum_behind, with_field}
use Rattle.mq_wire.specs.Codes.{code8_of, code16_of}
use Rattle.mq_wire.specs.Family.{Family, Igmp, Mld, address_width}
use Rattle.mq_wire.specs.PseudoHeader.{pseudo_header}

-- The bytes before the group, with a checksum of 0.
-- They are the type, and the response in whole tenths of a second in IGMP, in milliseconds in MLD.
abbrev pub first_bytes : Family → (response : ℕ) → List ℕ
first_bytes Igmp response = 0x11 ∷ code8_of (response / 100) ∷ 0 ∷ 0 ∷ []
first_bytes Mld response = 130 ∷ 0 ∷ 0 ∷ 0 ∷ big_bytes 2 (code16_of response) ++ 0 ∷ 0 ∷ []

-- the S flag, the fifth bit from the highest, and the QRV in the three lowest
abbrev pub flags_byte : Bool → ℕ → ℕ
flags_byte true robustness = 8 + robustness
flags_byte false robustness = robustness

-- the flags, the interval, the number of sources, and the sources
abbrev pub fields_bytes : {K : Type 0} → (width : ℕ) → QuerierFields K → List ℕ
fields_bytes width fields =
    flags_byte fields.suppress fields.robustness ∷ code8_of fields.interval
    ∷ big_bytes 2 (length fields.sources) ++ flat_map (big_bytes width) fields.sources

-- the bytes after the group; no query of an older version is written
abbrev pub behind_group : Family → QueryVersion ℕ → List ℕ
behind_group family (Older version) = []
behind_group family (Current fields) = fields_bytes (address_width family) fields

-- the whole query with a checksum of 0
abbrev pub without_checksum : Family → Query ℕ → List ℕ
without_checksum family query =
    first_bytes family query.response ++ big_bytes (address_width family) query.group
    ++ behind_group family query.version

-- all nodes of an IPv6 link, ff02::1, the destination of general queries (RFC 3810 section 5.1.15)
abbrev pub all_nodes : ℕ
all_nodes = 0xff020000000000000000000000000001

-- the destination of an MLD query: all nodes for a general query, otherwise the group
abbrev pub mld_destination : (group : ℕ) → ℕ
mld_destination group = if group == 0 then all_nodes else group

-- the bytes before the message that the checksum covers: none in IGMP
abbrev pub covered_before : Family → (source group len : ℕ) → List ℕ
covered_before Igmp source group len = []
covered_before Mld source group len = pseudo_header source (mld_destination group) len

-- the message with its checksum, which also covers the pseudo-header, in its field
abbrev pub with_checksum : (pseudo message : List ℕ) → List ℕ
with_checksum pseudo message =
    let checksum = checksum_behind pseudo message in
    with_field (checksum / 256) (checksum % 256) message

-- the bytes of the query from the router at `source`
abbrev pub canon : Family → (source : ℕ) → Query ℕ → List ℕ
canon family source query =
    let message = without_checksum family query in
    with_checksum (covered_before family source query.group (length message)) message

-- the query has a version that is written: IGMPv3 or MLDv2
abbrev pub IsCurrent : {K : Type 0} → QueryVersion K → Type 0
IsCurrent (Older version) = ⊥
IsCurrent (Current fields) = Unit {0}

-- the number of sources of a query
abbrev pub source_count : {K : Type 0} → QueryVersion K → ℕ
source_count (Older version) = 0
source_count (Current fields) = length fields.sources

-- The text was written at the front of the bytes and the rest did not change. Or the bytes were too few, and none
-- changed.
abbrev pub Writes : (text old new : List ℕ) → Result ℕ Small → Type 0
Writes text old new (Ok len) = (len ≡ length text) × (len ≤ length old) × (new ≡ text ++ drop len old)
Writes text old new (Err small) = (small.needed ≡ length text) × (length old < small.needed) × (new ≡ old)
