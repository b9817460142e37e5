-- The one encoding of a query.
use Rattle.mq_laws.proofs.Common.{◌≡◌, ℕ, ◌+◌, ◌*◌, ◌/◌, ◌%◌, ◌<◌, ◌≤◌, List, [], ◌∷◌, ◌++◌, ◌^◌, length, ap, sym, subst, refl, arith, flat_map, big_bytes}
use Rattle.mq_laws.proofs.Common.{big_number, big_number-reads_back, Query, QueryMessage, value8, value16, code8_of, code16_of, Family, Igmp, Mld, All, Current}
use Rattle.mq_laws.proofs.Common.{flags_byte, checksum_behind, sum_of_words, with_field, code_is_greatest, sum_of_both}
use Rattle.mq_wire.specs.{declared.query.QuerierFields.QuerierFields, declared.query.QueryVersion.QueryVersion, RoundTrip.response_lowered, Spelling.Spells}
use Rattle.mq_wire.specs.Canon.{canon, covered_before, without_checksum}
use Rattle.mq_wire.proofs.{SpelledQueries.spells_query, WrittenParts.length_with_checksum}
use Rattle.mq_laws.specs.Messages.{ChecksumIsBelow, ReadsBack, ValuesOfCodesStay, greatest_code, lowered, response_of_code}
use Rattle.mq_laws.proofs.{OneCode.come_back, CompletedSums.checksum_below, CompletedSums.completed_behind}
use Rattle.mq_laws.proofs.ReadBack.{igmp_bytes, mld_bytes, igmp_back, mld_back, length_igmp, length_mld}

-- a query of IGMPv3 or MLDv2 of its parts
abbrev query_with : (group response : ℕ) → QuerierFields ℕ → Query ℕ
query_with group response fields = record { group = group; response = response; version = Current fields }

igmp_spells : (source group response : ℕ) (fields : QuerierFields ℕ) → group < 256 ^ 4 → fields.robustness ≤ 7 → length fields.sources ≤ 65535 →
    All (λ (s : ℕ). s < 256 ^ 4) fields.sources → Spells Igmp [] (canon Igmp source (query_with group response fields))
    (QueryMessage (lowered Igmp (query_with group response fields) fields))
igmp_spells source group response fields fits small counted fit =
    let count = length fields.sources in
    let message = without_checksum Igmp (query_with group response fields) in
    let checksum = checksum_behind [] message in
    let code = code8_of (response / 100) in
    let interval = code8_of fields.interval in
    let flags = flags_byte fields.suppress fields.robustness in
    let long : 4 ≤ length message = (let all = length_igmp code 0 0 group flags interval count fields.sources in omega (arith, all)) in
    let is_count : big_number 2 (big_bytes 2 count ++ flat_map (big_bytes 4) fields.sources) ≡ count =
    big_number-reads_back 2 count (flat_map (big_bytes 4) fields.sources) (omega (arith, counted)) in
    spells_query Igmp [] (igmp_bytes code (checksum / 256) (checksum % 256) group flags interval count fields.sources) count
    (lowered Igmp (query_with group response fields) fields) refl (completed_behind [] message refl long) is_count
    (length_igmp code (checksum / 256) (checksum % 256) group flags interval count fields.sources)
    (igmp_back code (checksum / 256) (checksum % 256) group fields.suppress fields.robustness interval fields.sources fits small counted fit)

mld_spells : (source group response : ℕ) (fields : QuerierFields ℕ) → group < 256 ^ 16 → fields.robustness ≤ 7 → length fields.sources ≤ 65535 →
    All (λ (s : ℕ). s < 256 ^ 16) fields.sources →
    Spells Mld (covered_before Mld source group (length (without_checksum Mld (query_with group response fields))))
    (canon Mld source (query_with group response fields)) (QueryMessage (lowered Mld (query_with group response fields) fields))
mld_spells source group response fields fits small counted fit =
    let count = length fields.sources in
    let message = without_checksum Mld (query_with group response fields) in
    let before = covered_before Mld source group (length message) in
    let checksum = checksum_behind before message in
    let code = code16_of response in
    let interval = code8_of fields.interval in
    let flags = flags_byte fields.suppress fields.robustness in
    let small_code : code < 65536 = (let fits_code = (code_is_greatest 12 response).fits in omega (arith, fits_code)) in
    let long : 4 ≤ length message = (let all = length_mld code 0 0 group flags interval count fields.sources in omega (arith, all)) in
    let is_count : big_number 2 (big_bytes 2 count ++ flat_map (big_bytes 16) fields.sources) ≡ count =
    big_number-reads_back 2 count (flat_map (big_bytes 16) fields.sources) (omega (arith, counted)) in
    spells_query Mld before (mld_bytes code (checksum / 256) (checksum % 256) group flags interval count fields.sources) count
    (lowered Mld (query_with group response fields) fields) refl (completed_behind before message refl long) is_count
    (length_mld code (checksum / 256) (checksum % 256) group flags interval count fields.sources)
    (mld_back code (checksum / 256) (checksum % 256) group fields.suppress fields.robustness interval fields.sources small_code fits small counted fit)

-- a query is that of its parts
abbrev same_version : (query : Query ℕ) (version : QueryVersion ℕ) → Query ℕ
same_version query version = record { group = query.group; response = query.response; version = version }

pub reads_back : ReadsBack
reads_back Igmp source query w =
    subst (λ (version : QueryVersion ℕ). Spells Igmp [] (canon Igmp source (same_version query version)) (QueryMessage (lowered Igmp query w.fields)))
    (sym w.current) (igmp_spells source query.group query.response w.fields w.group w.robustness w.counted w.sources)
reads_back Mld source query w =
    let message = without_checksum Mld query in
    let long : 4 ≤ length message = omega arith in
    let same_length = length_with_checksum (covered_before Mld source query.group (length message)) message long in
    subst (λ (len : ℕ). Spells Mld (covered_before Mld source query.group len) (canon Mld source query) (QueryMessage (lowered Mld query w.fields)))
    (sym same_length) (subst (λ (version : QueryVersion ℕ). Spells Mld
    (covered_before Mld source query.group (length (without_checksum Mld (same_version query version))))
    (canon Mld source (same_version query version)) (QueryMessage (lowered Mld query w.fields))) (sym w.current)
    (mld_spells source query.group query.response w.fields w.group w.robustness w.counted w.sources))

responses_stay : (family : Family) (code : ℕ) → code ≤ greatest_code family → response_lowered family (response_of_code family code)
    ≡ response_of_code family code
responses_stay Igmp code fits =
    let whole : value8 code * 100 / 100 ≡ value8 code = omega arith in
    let same = come_back 4 code (code8_of (value8 code)) fits (code_is_greatest 4 (value8 code)) in
    rw (whole, same) refl
responses_stay Mld code fits = ap value16 (come_back 12 code (code16_of (value16 code)) fits (code_is_greatest 12 (value16 code)))

pub values_stay : ValuesOfCodesStay
values_stay = (responses_stay, λ code fits. ap value8 (come_back 4 code (code8_of (value8 code)) fits (code_is_greatest 4 (value8 code))))

-- a message that begins with a byte that isn't zero
below_with : (before message rest : List ℕ) (kind second : ℕ) → length before % 2 ≡ 0 → 0 < kind → with_field 0 0 message ≡ kind ∷ second ∷ rest →
    checksum_behind before message < 65535
below_with before message rest kind second even some parts =
    let both = sum_of_both before (with_field 0 0 message) even in
    let words : sum_of_words (with_field 0 0 message) ≡ kind * 256 + second + sum_of_words rest = ap sum_of_words parts in
    checksum_below before message (omega (arith, both, words, some))

pub below : ChecksumIsBelow
below Igmp source query = below_with [] (without_checksum Igmp query) _ 0x11 _ refl (omega arith) refl
below Mld source query =
    below_with (covered_before Mld source query.group (length (without_checksum Mld query))) (without_checksum Mld query) _ 130 0 refl (omega arith) refl
