-- The contents of queries. RFC 3376 section 4.1, RFC 2236 sections 2.1 to 2.4; RFC 3810 section 5.1, RFC 2710 section
-- 3.
use Rattle.std.specs.Prelude.{◌≡◌, ℕ, ◌+◌, ◌*◌, ◌/◌, ◌%◌, ◌==◌, Bool, if◌then◌else◌, List, [], ◌∷◌, ◌++◌, length, slice_index, drop, replicate, None, Some, Result, Ok, Err}
use Rattle.std.specs.Option.{option_map}
use Rattle.mq_count.specs.declared.versions.OlderVersion.{OlderVersion}
use Rattle.mq_count.specs.declared.versions.OlderVersion.TheVariants.{V1, V2}
use Rattle.mq_wire.specs.declared.query.Query.{Query}
use Rattle.mq_wire.specs.declared.query.QuerierFields.{QuerierFields}
use Rattle.mq_wire.specs.declared.query.QueryVersion.TheVariants.{Older, Current}
use Rattle.mq_wire.specs.declared.message.WireFault.{WireFault}
use Rattle.mq_wire.specs.declared.message.WireFault.TheVariants.{Truncated}
use Rattle.mq_wire.specs.Codes.{value8, value16}
use Rattle.mq_wire.specs.Family.{Family, Igmp, Mld, address_width, group_place, group_end}
use Rattle.mq_wire.specs.Fields.{number_at, addresses, first_cut}

-- a message of one group: its type, its code, its checksum, in MLD the delay and a reserved field, the group
abbrev pub older_spans : Family → List ℕ
older_spans Igmp = 1 ∷ 1 ∷ 2 ∷ 4 ∷ []
older_spans Mld = 1 ∷ 1 ∷ 2 ∷ 2 ∷ 2 ∷ 16 ∷ []

-- the widths of the sources, which begin 4 bytes after the group
abbrev pub source_spans : (place width : ℕ) → List ℕ → List ℕ
source_spans place width bytes = replicate (number_at (place + 2) 2 bytes) width

-- a query of IGMPv3 or MLDv2: the same, then the flags, the interval code, the number of sources, and the sources
abbrev pub query_spans : Family → List ℕ → List ℕ
query_spans family bytes = older_spans family ++ 1 ∷ 1 ∷ 2 ∷ source_spans (group_end family) (address_width family) bytes

-- the S flag and the QRV: the fifth bit from the highest of the byte, and the three lowest
abbrev pub suppress_of : ℕ → Bool
suppress_of flags = flags / 8 % 2 == 1

abbrev pub robustness_of : ℕ → ℕ
robustness_of flags = flags % 8

-- the fields of a query of IGMPv3 or MLDv2 after its group, which ends at a place
abbrev pub querier_fields : {K : Type 0} → (place width : ℕ) → List ℕ → QuerierFields K
querier_fields place width bytes =
    record {
      suppress = suppress_of (slice_index bytes place);
      robustness = robustness_of (slice_index bytes place);
      interval = value8 (slice_index bytes (place + 1));
      sources = addresses width (number_at (place + 2) 2 bytes) (drop (place + 4) bytes);
    }

-- the parsed fields: all of them, or the place of the first truncated source
abbrev pub FieldsAt : {K : Type 0} → (place width : ℕ) → List ℕ → Result (QuerierFields K) WireFault → Type 0
FieldsAt place width bytes (Ok fields) =
    (first_cut (length bytes) (place + 4) (source_spans place width bytes) ≡ None) × (fields ≡ querier_fields place width bytes)
FieldsAt place width bytes (Err fault) =
    option_map (λ at. Truncated at) (first_cut (length bytes) (place + 4) (source_spans place width bytes)) ≡ Some fault

-- The response in milliseconds and the version of a query with the length of an older one. In IGMP the code is in
-- tenths of a second, and is 0 in version 1 (RFC 3376 section 7.1). In MLD the delay is in milliseconds.
abbrev pub older_response : Family → List ℕ → ℕ
older_response Igmp bytes = slice_index bytes 1 * 100
older_response Mld bytes = number_at 4 2 bytes

abbrev pub older_version : Family → List ℕ → OlderVersion
older_version Igmp bytes = if slice_index bytes 1 == 0 then V1 else V2
older_version Mld bytes = V1

-- the response in milliseconds of a query of IGMPv3, whose code is in tenths of a second, or of MLDv2
abbrev pub current_response : Family → List ℕ → ℕ
current_response Igmp bytes = value8 (slice_index bytes 1) * 100
current_response Mld bytes = value16 (number_at 4 2 bytes)

-- the query, by its length
abbrev pub older_query : Family → List ℕ → Query ℕ
older_query family bytes =
    record {
      group = number_at (group_place family) (address_width family) bytes;
      response = older_response family bytes;
      version = Older (older_version family bytes);
    }

abbrev pub current_query : Family → List ℕ → Query ℕ
current_query family bytes =
    record {
      group = number_at (group_place family) (address_width family) bytes;
      response = current_response family bytes;
      version = Current (querier_fields (group_end family) (address_width family) bytes);
    }

abbrev pub query_of : Family → List ℕ → Query ℕ
query_of family bytes = if length bytes == group_end family then older_query family bytes else current_query family bytes
