-- The records of a Report of IGMPv3 or MLDv2. RFC 3376 sections 4.2.4 to 4.2.10, RFC 3810 sections 5.2.4 to 5.2.10. The
-- bytes of a record follow from its place and its counts, for addresses of either width.
use Rattle.std.specs.Prelude.{◌≡◌, ℕ, zero, suc, ◌+◌, ◌*◌, List, [], ◌∷◌, ◌++◌, Some, None, Result, Ok, Err, length, slice_index, drop, replicate, sum}
use Rattle.mq_wire.specs.declared.records.RecordView.{RecordView}
use Rattle.mq_wire.specs.Family.{Family, address_width}
use Rattle.mq_wire.specs.declared.message.WireFault.{WireFault}
use Rattle.mq_wire.specs.Fields.{number_at, addresses, first_cut, cut_from}

-- the number of sources of the record at a place
abbrev pub record_source_count : (place : ℕ) → List ℕ → ℕ
record_source_count place bytes = number_at (place + 2) 2 bytes

-- the bytes of its auxiliary data, whose length is in words of 32 bits
abbrev pub auxiliary_length : (place : ℕ) → List ℕ → ℕ
auxiliary_length place bytes = 4 * slice_index bytes (place + 1)

-- The widths of its fields: type, length of auxiliary data, number of sources, group, sources.
-- The auxiliary data follows as one field.
abbrev pub record_spans : (width place : ℕ) → List ℕ → List ℕ
record_spans width place bytes =
    1 ∷ 1 ∷ 2 ∷ width ∷ replicate (record_source_count place bytes) width ++ auxiliary_length place bytes ∷ []

-- the place of the next record
abbrev pub record_end : (width place : ℕ) → List ℕ → ℕ
record_end width place bytes = place + sum (record_spans width place bytes)

-- the record; its type may be any byte
abbrev pub record_at : (width place : ℕ) → List ℕ → RecordView ℕ
record_at width place bytes =
    record {
      kind = slice_index bytes place;
      group = number_at (place + 4) width bytes;
      sources = addresses width (record_source_count place bytes) (drop (place + 4 + width) bytes);
    }

-- the widths of the fields of `count` consecutive records from a place on
abbrev pub spans_of_records : (width count place : ℕ) → List ℕ → List ℕ
spans_of_records width zero place bytes = []
spans_of_records width (suc count) place bytes =
    record_spans width place bytes ++ spans_of_records width count (record_end width place bytes) bytes

-- these records
abbrev pub records_at : (width count place : ℕ) → List ℕ → List (RecordView ℕ)
records_at width zero place bytes = []
records_at width (suc count) place bytes =
    record_at width place bytes ∷ records_at width count (record_end width place bytes) bytes

-- the parsed records: all of them, or the fault of the first truncated field
abbrev pub ReadsRecords : (width count place : ℕ) → List ℕ → Result (List (RecordView ℕ)) WireFault → Type 0
ReadsRecords width count place bytes (Ok records) =
    (first_cut (length bytes) place (spans_of_records width count place bytes) ≡ None)
    × (records ≡ records_at width count place bytes)
ReadsRecords width count place bytes (Err fault) =
    cut_from (length bytes) place (spans_of_records width count place bytes) ≡ Some fault

-- the number of records of a Report (RFC 3376 section 4.2.3, RFC 3810 section 5.2.3)
abbrev pub record_count : List ℕ → ℕ
record_count bytes = number_at 6 2 bytes

-- A Report: type, reserved field, checksum, reserved field, number of records, records.
-- The first record begins at 8 (RFC 3376 section 4.2, RFC 3810 section 5.2).
abbrev pub report_spans : Family → List ℕ → List ℕ
report_spans family bytes = 1 ∷ 1 ∷ 2 ∷ 2 ∷ 2 ∷ spans_of_records (address_width family) (record_count bytes) 8 bytes

-- the records of a Report, in order
abbrev pub report_records : Family → List ℕ → List (RecordView ℕ)
report_records family bytes = records_at (address_width family) (record_count bytes) 8 bytes
