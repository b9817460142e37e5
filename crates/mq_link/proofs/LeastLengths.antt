-- The least length of a message's bytes: each named source takes at least four bytes, and
-- each record eight besides.
use Rattle.mq_link.proofs.Common.{◌≡◌, ℕ, zero, suc, ◌+◌, ◌*◌, ◌≤◌, Bool, true, false, cond, List, [], ◌∷◌, ◌++◌, length, Ok, drop, replicate, sum, arith}
use Rattle.mq_link.proofs.Common.{mul-le-mul_left, sum_by-cons, sum_by, Message, RecordView, Family, Igmp, Mld, address_width, group_end, number_at}
use Rattle.mq_link.proofs.Common.{older_spans, query_spans, source_spans, older_query, current_query, record_spans, record_end, record_at, record_source_count}
use Rattle.mq_link.proofs.Common.{auxiliary_length, record_count, records_at, spans_of_records, report_spans, report_records, least_length, read_of}
use Rattle.mq_wire.specs.declared.message.Message.TheVariants.{Query, Report}
use Rattle.mq_wire.proofs.{Addresses.length_addresses, Spans.ends_within, Spans.sum-append, Spans.sum-replicate}
use Rattle.mq_link.proofs.SpelledMessages.{AreWhole, where_read}

-- so many addresses
four_each : (n width : ℕ) → 4 ≤ width → n * 4 ≤ sum (replicate n width)
four_each n width wide = let all = mul-le-mul_left n wide in let is = sum-replicate n width in omega (arith, all, is)

least_record : (width place : ℕ) (bytes : List ℕ) → 4 ≤ width → 8 + 4 * record_source_count place bytes ≤ sum (record_spans width place bytes)
least_record width place bytes wide =
    let n = record_source_count place bytes in
    let auxiliary = auxiliary_length place bytes in
    let head = sum-append (1 ∷ 1 ∷ 2 ∷ width ∷ []) (replicate n width ++ auxiliary ∷ []) in
    let behind = sum-append (replicate n width) (auxiliary ∷ []) in
    omega (arith, head, behind, four_each n width wide)

abbrev least_of : RecordView ℕ → ℕ
least_of r = 8 + 4 * length r.sources

least_records : (width count place : ℕ) (bytes : List ℕ) → 4 ≤ width →
    sum_by least_of (records_at width count place bytes) ≤ sum (spans_of_records width count place bytes)
least_records width zero place bytes wide = omega arith
least_records width (suc count) place bytes wide =
    let next = record_end width place bytes in
    let first = least_record width place bytes wide in
    let rest = least_records width count next bytes wide in
    let all = sum-append (record_spans width place bytes) (spans_of_records width count next bytes) in
    let named = length_addresses width (record_source_count place bytes) (drop (place + 4 + width) bytes) in
    let sums = sum_by-cons least_of (record_at width place bytes) (records_at width count next bytes) in
    omega (arith, first, rest, all, named, sums)

wide : (family : Family) → 4 ≤ address_width family
wide Igmp = omega arith
wide Mld = omega arith

least_older : (family : Family) → 8 ≤ sum (older_spans family)
least_older Igmp = omega arith
least_older Mld = omega arith

all_within : (bytes widths : List ℕ) → AreWhole bytes widths → sum widths ≤ length bytes
all_within bytes widths whole = let ends = ends_within (length bytes) 0 widths (omega arith) whole in omega (arith, ends)

abbrev IsLong : List ℕ → Message ℕ → Type 0
IsLong bytes message = least_length message ≤ length bytes

long_report : (family : Family) (bytes : List ℕ) → AreWhole bytes (report_spans family bytes) → IsLong bytes (Report (report_records family bytes))
long_report family bytes whole =
    let records = spans_of_records (address_width family) (record_count bytes) 8 bytes in
    omega (
      arith,
      all_within bytes (report_spans family bytes) whole,
      sum-append (1 ∷ 1 ∷ 2 ∷ 2 ∷ 2 ∷ []) records,
      least_records (address_width family) (record_count bytes) 8 bytes (wide family),
    )

long_query : (family : Family) (bytes : List ℕ) (b : Bool) → AreWhole bytes (cond b (older_spans family) (query_spans family bytes)) →
    IsLong bytes (Query (cond b (older_query family bytes) (current_query family bytes)))
long_query family bytes true whole = omega (arith, all_within bytes (older_spans family) whole, least_older family)
long_query family bytes false whole =
    let n = number_at (group_end family + 2) 2 bytes in
    let behind = source_spans (group_end family) (address_width family) bytes in
    let head = sum-append (older_spans family) (1 ∷ 1 ∷ 2 ∷ behind) in
    let fields = sum-append (1 ∷ 1 ∷ 2 ∷ []) behind in
    let named = length_addresses (address_width family) n (drop (group_end family + 4) bytes) in
    omega (arith, all_within bytes (query_spans family bytes) whole, least_older family, head, fields, four_each n (address_width family) (wide family), named)

long_older : (family : Family) (bytes : List ℕ) → AreWhole bytes (older_spans family) → 8 ≤ length bytes
long_older family bytes whole = omega (arith, all_within bytes (older_spans family) whole, least_older family)

pub long_where_read : (family : Family) (pseudo bytes : List ℕ) (message : Message ℕ) → read_of family pseudo bytes ≡ Ok message →
    least_length message ≤ length bytes
long_where_read = where_read (λ family bytes message. IsLong bytes message) long_query long_report (λ family bytes version. long_older family bytes) long_older
