-- A query that was written is read again.
use Rattle.mq_laws.proofs.Common.{◌≡◌, ℕ, suc, ◌+◌, ◌*◌, ◌/◌, ◌%◌, ◌^◌, ◌<◌, ◌≤◌, Bool, true, false, List, [], ◌∷◌, ◌++◌, length, drop, ap, ◌∙◌, refl, arith}
use Rattle.mq_laws.proofs.Common.{drop-append_seam, flat_map, big_bytes, big_number, length-bytes_high_first, big_number-reads_back, Query, value8, value16}
use Rattle.mq_laws.proofs.Common.{Igmp, Mld, All, flags_byte, Current}
use Rattle.mq_wire.specs.{Fields.addresses, Queries.suppress_of, Queries.robustness_of, Queries.current_query}
use Rattle.mq_wire.proofs.WrittenParts.{length_sources}

abbrev current : (group response : ℕ) (suppress : Bool) (robustness interval : ℕ) (sources : List ℕ) → Query ℕ
current group response suppress robustness interval sources =
    record {
      group = group;
      response = response;
      version = Current (record { suppress = suppress; robustness = robustness; interval = interval; sources = sources });
    }

-- the S flag and the QRV of their byte
pub suppress_back : (suppress : Bool) (robustness : ℕ) → robustness ≤ 7 → suppress_of (flags_byte suppress robustness) ≡ suppress
suppress_back true robustness small =
    let bit : (8 + robustness) / 8 % 2 ≡ 1 = omega (arith, small) in rw bit refl
suppress_back false robustness small =
    let bit : robustness / 8 % 2 ≡ 0 = omega (arith, small) in rw bit refl

pub robustness_back : (suppress : Bool) (robustness : ℕ) → robustness ≤ 7 → robustness_of (flags_byte suppress robustness) ≡ robustness
robustness_back true robustness small = omega (arith, small)
robustness_back false robustness small = omega (arith, small)

drop_written : (n : ℕ) (piece behind : List ℕ) → length piece ≡ n → drop n (piece ++ behind) ≡ behind
drop_written n piece behind long = rw (← long) (drop-append_seam piece behind)

-- addresses that were written one after the other
pub addresses_back : (width : ℕ) (sources : List ℕ) → All (λ (s : ℕ). s < 256 ^ width) sources →
    addresses width (length sources) (flat_map (big_bytes width) sources) ≡ sources
addresses_back width [] fit = refl
addresses_back width (source ∷ sources) fit =
    let behind = flat_map (big_bytes width) sources in
    let first : big_number width (big_bytes width source ++ behind) ≡ source = big_number-reads_back width source behind (fit 0 0 (omega arith)) in
    let long = length-bytes_high_first width source in
    let others : drop width (big_bytes width source ++ behind) ≡ behind = drop_written width (big_bytes width source) behind long in
    let rest = addresses_back width sources (λ k d less. fit (suc k) d (omega (arith, less))) in
    rw (first, others, rest) refl

-- the first 12 bytes of a query of IGMPv3, and the 28 of one of MLDv2, and its sources
abbrev pub igmp_bytes : (code high low group flags interval count : ℕ) → List ℕ → List ℕ
igmp_bytes code high low group flags interval count sources =
    0x11 ∷ code ∷ high ∷ low ∷ (big_bytes 4 group ++ (flags ∷ interval ∷ (big_bytes 2 count ++ flat_map (big_bytes 4) sources)))

abbrev pub mld_bytes : (code high low group flags interval count : ℕ) → List ℕ → List ℕ
mld_bytes code high low group flags interval count sources =
    130 ∷ 0 ∷ high ∷ low ∷ (big_bytes 2 code ++ (0 ∷ 0 ∷ (big_bytes 16 group ++ (flags ∷ interval ∷ (big_bytes 2 count ++ flat_map (big_bytes 16) sources)))))

-- a query from its parts
same_query : (group group' response response' : ℕ) (suppress suppress' : Bool) (robustness robustness' interval interval' : ℕ)
    (sources sources' : List ℕ) → group ≡ group' → response ≡ response' → suppress ≡ suppress' → robustness ≡ robustness' → interval ≡ interval' →
    sources ≡ sources' → current group response suppress robustness interval sources ≡ current group' response' suppress' robustness' interval' sources'
same_query group group' response response' suppress suppress' robustness robustness' interval interval' sources sources' a b c d e f =
    rw (a, b, c, d, e, f) refl

pub igmp_back : (code high low group : ℕ) (suppress : Bool) (robustness interval : ℕ) (sources : List ℕ) → group < 256 ^ 4 → robustness ≤ 7 →
    length sources ≤ 65535 → All (λ (s : ℕ). s < 256 ^ 4) sources →
    current_query Igmp (igmp_bytes code high low group (flags_byte suppress robustness) interval (length sources) sources)
    ≡ current group (value8 code * 100) suppress robustness (value8 interval) sources
igmp_back code high low group suppress robustness interval sources fits small counted fit =
    let behind = flags_byte suppress robustness ∷ interval ∷ (big_bytes 2 (length sources) ++ flat_map (big_bytes 4) sources) in
    let is_group : big_number 4 (big_bytes 4 group ++ behind) ≡ group = big_number-reads_back 4 group behind fits in
    let is_count : big_number 2 (big_bytes 2 (length sources) ++ flat_map (big_bytes 4) sources) ≡ length sources =
    big_number-reads_back 2 (length sources) (flat_map (big_bytes 4) sources) (omega (arith, counted)) in
    let is_sources = ap (λ (n : ℕ). addresses 4 n (flat_map (big_bytes 4) sources)) is_count ∙ addresses_back 4 sources fit in
    same_query _ _ _ _ _ _ _ _ _ _ _ _ is_group refl (suppress_back suppress robustness small) (robustness_back suppress robustness small) refl is_sources

pub mld_back : (code high low group : ℕ) (suppress : Bool) (robustness interval : ℕ) (sources : List ℕ) → code < 65536 → group < 256 ^ 16 →
    robustness ≤ 7 → length sources ≤ 65535 → All (λ (s : ℕ). s < 256 ^ 16) sources →
    current_query Mld (mld_bytes code high low group (flags_byte suppress robustness) interval (length sources) sources)
    ≡ current group (value16 code) suppress robustness (value8 interval) sources
mld_back code high low group suppress robustness interval sources fits_code fits small counted fit =
    let behind = flags_byte suppress robustness ∷ interval ∷ (big_bytes 2 (length sources) ++ flat_map (big_bytes 16) sources) in
    let is_code : big_number 2 (big_bytes 2 code ++ (0 ∷ 0 ∷ (big_bytes 16 group ++ behind))) ≡ code =
    big_number-reads_back 2 code (0 ∷ 0 ∷ (big_bytes 16 group ++ behind)) (omega (arith, fits_code)) in
    let is_group : big_number 16 (big_bytes 16 group ++ behind) ≡ group = big_number-reads_back 16 group behind fits in
    let is_count : big_number 2 (big_bytes 2 (length sources) ++ flat_map (big_bytes 16) sources) ≡ length sources =
    big_number-reads_back 2 (length sources) (flat_map (big_bytes 16) sources) (omega (arith, counted)) in
    let is_sources = ap (λ (n : ℕ). addresses 16 n (flat_map (big_bytes 16) sources)) is_count ∙ addresses_back 16 sources fit in
    same_query _ _ _ _ _ _ _ _ _ _ _ _ is_group (ap value16 is_code) (suppress_back suppress robustness small)
    (robustness_back suppress robustness small) refl is_sources

-- the number of these bytes
pub length_igmp : (code high low group flags interval count : ℕ) (sources : List ℕ) →
    length (igmp_bytes code high low group flags interval count sources) ≡ 12 + length sources * 4
length_igmp code high low group flags interval count sources = let all = length_sources 4 sources in omega (arith, all)

pub length_mld : (code high low group flags interval count : ℕ) (sources : List ℕ) →
    length (mld_bytes code high low group flags interval count sources) ≡ 28 + length sources * 16
length_mld code high low group flags interval count sources = let all = length_sources 16 sources in omega (arith, all)
