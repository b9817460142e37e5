-- The whole spans of a message.
use Rattle.mq_wire.proofs.Common.{◌≡◌, ℕ, zero, suc, ◌+◌, ◌<◌, ◌≤◌, List, [], ◌∷◌, ◌++◌, length, None, inl, inr, ap, ◌∙◌, arith, nat_tests, leb_tells}
use Rattle.mq_wire.proofs.Common.{eqb_tells, MessageType, Query, OlderReport, Leave, Report, Family, Igmp, Mld, group_end, address_width, first_cut}
use Rattle.mq_wire.proofs.Common.{older_spans, query_spans, source_spans, spans_of_records, record_count, spans_of}
use Rattle.mq_wire.proofs.Spans.{step}

-- the fields of a message of one group, before others
pub behind_group : (family : Family) (len : ℕ) (widths : List ℕ) → group_end family ≤ len → first_cut len 0 (older_spans family ++ widths)
    ≡ first_cut len (group_end family) widths
behind_group Igmp len widths whole = grind (arith, nat_tests)
behind_group Mld len widths whole = grind (arith, nat_tests)

-- the fields of a query of IGMPv3 or MLDv2, as far as the number of sources
pub behind_count : (family : Family) (bytes : List ℕ) → group_end family + 4 ≤ length bytes → first_cut (length bytes) 0 (query_spans family bytes)
    ≡ first_cut (length bytes) (group_end family + 4) (source_spans (group_end family) (address_width family) bytes)
behind_count family bytes whole =
    let sources = source_spans (group_end family) (address_width family) bytes in
    let place : group_end family + 1 + 1 + 2 ≡ group_end family + 4 = omega arith in
    behind_group family (length bytes) (1 ∷ 1 ∷ 2 ∷ sources) (omega arith)
    ∙ step (length bytes) (group_end family) 1 (1 ∷ 2 ∷ sources) (omega arith)
    ∙ step (length bytes) (group_end family + 1) 1 (2 ∷ sources) (omega arith)
    ∙ step (length bytes) (group_end family + 1 + 1) 2 sources (omega arith)
    ∙ ap (λ (at : ℕ). first_cut (length bytes) at sources) place

header_cut : (len : ℕ) (widths : List ℕ) → len < 4 → first_cut len 0 (1 ∷ 1 ∷ 2 ∷ widths) ≡ None → ⊥
header_cut zero widths short whole = cc
header_cut (suc zero) widths short whole = cc
header_cut (suc (suc zero)) widths short whole = cc
header_cut (suc (suc (suc zero))) widths short whole = cc
header_cut (suc (suc (suc (suc len)))) widths short whole = absurd (omega arith)

-- the type, the code and the checksum
pub header : (len : ℕ) (widths : List ℕ) → first_cut len 0 (1 ∷ 1 ∷ 2 ∷ widths) ≡ None → 4 ≤ len
header len widths whole =
    elim (leb_tells 4 len) [
      | inl long ↦ long.1
      | inr short ↦ absurd (header_cut len widths short.1 whole)
    ]

header_older : (family : Family) (len : ℕ) → first_cut len 0 (older_spans family) ≡ None → 4 ≤ len
header_older Igmp len whole = header len (4 ∷ []) whole
header_older Mld len whole = header len (2 ∷ 2 ∷ 16 ∷ []) whole

header_query : (family : Family) (bytes : List ℕ) → first_cut (length bytes) 0 (query_spans family bytes) ≡ None → 4 ≤ length bytes
header_query Igmp bytes whole = header (length bytes) (4 ∷ 1 ∷ 1 ∷ 2 ∷ source_spans 8 4 bytes) whole
header_query Mld bytes whole = header (length bytes) (2 ∷ 2 ∷ 16 ∷ 1 ∷ 1 ∷ 2 ∷ source_spans 24 16 bytes) whole

-- a message of any type has them
pub long_enough : (family : Family) (kind : MessageType) (bytes : List ℕ) → first_cut (length bytes) 0 (spans_of family kind bytes) ≡ None → 4 ≤ length bytes
long_enough family (OlderReport version) bytes whole = header_older family (length bytes) whole
long_enough family Leave bytes whole = header_older family (length bytes) whole
long_enough family Report bytes whole =
    header (length bytes) (2 ∷ 2 ∷ spans_of_records (address_width family) (record_count bytes) 8 bytes) whole
long_enough family Query bytes whole =
    elim (eqb_tells (length bytes) (group_end family)) [
      | inl older ↦ header_older family (length bytes) (rw older.0 at whole)
      | inr other ↦ header_query family bytes (rw other.0 at whole)
    ]
