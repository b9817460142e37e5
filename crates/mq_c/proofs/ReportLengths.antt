-- The most records of a datagram, and the most sources that they name.
use Rattle.mq_c.proofs.Common.{◌≡◌, ℕ, zero, suc, ◌+◌, ◌*◌, ◌≤◌, List, [], ◌∷◌, ◌++◌, length, Bool, cond, Ok, drop, sum_by, ap, ◌∙◌, arith, add-mul, suc-mul}
use Rattle.mq_c.proofs.Common.{sum_by-cons, Message, OldReport, RecordView, Family, Igmp, Mld, address_width, read_of, records_in_body, sources_in_body}
use Rattle.std.proofs.Common.{replicate, sum}
use Rattle.mq_wire.specs.declared.message.Message.TheVariants.{Query, Leave, Report}
use Rattle.mq_wire.specs.{Queries.older_query, Queries.current_query, Records.report_spans, Records.report_records}
use Rattle.mq_wire.specs.Records.{record_spans, record_end, record_at, record_source_count, auxiliary_length, record_count, records_at, spans_of_records}
use Rattle.mq_wire.proofs.{Addresses.length_addresses, Spans.ends_within, Spans.sum-append, Spans.sum-replicate}
use Rattle.mq_link.proofs.SpelledMessages.{AreWhole, where_read}

-- the number of a record's sources
abbrev pub sources_named : RecordView ℕ → ℕ
sources_named r = length r.sources

-- the bytes of a record are its head and its addresses at least
module _ (width : ℕ) (bytes : List ℕ) where
  record_bytes : (place : ℕ) → 4 + width + record_source_count place bytes * width ≤ sum (record_spans width place bytes)
  record_bytes place =
      let n = record_source_count place bytes in
      let auxiliary = auxiliary_length place bytes in
      let head = sum-append (1 ∷ 1 ∷ 2 ∷ width ∷ []) (replicate n width ++ auxiliary ∷ []) in
      let behind = sum-append (replicate n width) (auxiliary ∷ []) in
      omega (arith, head, behind, sum-replicate n width)

  records_bytes : (count place : ℕ)
      → (let rs = records_at width count place bytes in
      length rs * (4 + width) + sum_by sources_named rs * width ≤ sum (spans_of_records width count place bytes))
  records_bytes zero place = omega arith
  records_bytes (suc count) place =
      let next = record_end width place bytes in
      let r = record_at width place bytes in
      let rs = records_at width count next bytes in
      let first = record_bytes place in
      let rest = records_bytes count next in
      let all = sum-append (record_spans width place bytes) (spans_of_records width count next bytes) in
      let heads = suc-mul (length rs) (4 + width) in
      let named = length_addresses width (record_source_count place bytes) (drop (place + 4 + width) bytes) in
      let addresses : sum_by sources_named (r ∷ rs) * width ≡ record_source_count place bytes * width + sum_by sources_named rs * width =
      ap (λ n. n * width) (sum_by-cons sources_named r rs ∙ ap (λ n. n + sum_by sources_named rs) named) ∙ add-mul (record_source_count place bytes)
      (sum_by sources_named rs) width in
      omega (arith, first, rest, all, heads, addresses)

-- so much of a message that a body holds
abbrev pub IsWithin : (longest : ℕ) → Family → Message ℕ → Type 0
IsWithin longest family (Query query) = Unit {0}
IsWithin longest family (OldReport version group) = Unit {0}
IsWithin longest family (Leave group) = Unit {0}
IsWithin longest family (Report records) = (length records ≤ records_in_body longest family) × (sum_by sources_named records ≤ sources_in_body longest family)

few_of : (longest : ℕ) (family : Family) (records named len : ℕ) → records * (4 + address_width family) + named * address_width family ≤ len → len ≤ longest
    → (records ≤ records_in_body longest family) × (named ≤ sources_in_body longest family)
few_of longest Igmp records named len within short = (omega (arith, within, short), omega (arith, within, short))
few_of longest Mld records named len within short = (omega (arith, within, short), omega (arith, within, short))

of_report : (longest : ℕ) (family : Family) (bytes : List ℕ) → AreWhole bytes (report_spans family bytes) → length bytes ≤ longest →
    IsWithin longest family (Report (report_records family bytes))
of_report longest family bytes whole short =
    let records = spans_of_records (address_width family) (record_count bytes) 8 bytes in
    let ends = ends_within (length bytes) 0 (report_spans family bytes) (omega arith) whole in
    let head = sum-append (1 ∷ 1 ∷ 2 ∷ 2 ∷ 2 ∷ []) records in
    let rs = report_records family bytes in
    few_of longest family (length rs) (sum_by sources_named rs) (length bytes)
    (omega (arith, ends, head, records_bytes (address_width family) bytes (record_count bytes) 8)) short

of_query : (longest : ℕ) (family : Family) (bytes : List ℕ) (b : Bool) → length bytes ≤ longest →
    IsWithin longest family (Query (cond b (older_query family bytes) (current_query family bytes)))
of_query longest family bytes b short = tt

pub within_where_read : (longest : ℕ) (family : Family) (pseudo bytes : List ℕ) (message : Message ℕ) → read_of family pseudo bytes ≡ Ok message →
    length bytes ≤ longest → IsWithin longest family message
within_where_read longest =
    where_read (λ family bytes message. length bytes ≤ longest → IsWithin longest family message)
    (λ family bytes b whole. of_query longest family bytes b) (of_report longest) (λ family bytes version whole short. tt) (λ family bytes whole short. tt)
