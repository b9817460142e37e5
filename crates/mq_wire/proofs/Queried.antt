-- The fields of a query, as the code reads its bytes.
use Rattle.mq_wire.proofs.Common.{◌≡◌, ◌+◌, ◌-◌, ◌%◌, ◌≤◌, ℕ, List, ◌==◌, nat_lt, if◌then◌else◌, length, slice_index, take, drop, replicate, false, inr, Ok}
use Rattle.mq_wire.proofs.Common.{None, ap, sym, ◌∙◌, refl, arith, ne_eqb, big_number, Query, QuerierFields, QueryOf, QueryVersion, Current, Family}
use Rattle.mq_wire.proofs.Common.{address_width, group_end, group_place, nat_tests, value8, addresses, first_cut, number_at, numbered_version, FieldsAt}
use Rattle.mq_wire.proofs.Common.{current_query, current_response, query_of, suppress_of, ReadsQuery, group_of, spans_of}
use Rattle.mq_wire.proofs.{Addresses.all_behind, Cuts.behind_count, Spelled.no_fault_within}

-- the fields after the group of a query of IGMPv3 or MLDv2, by the values read
pub fields_read : {K : Type 0} (place width : ℕ) (bytes : List ℕ) (robustness interval count : ℕ) (sources : List ℕ) →
    count ≡ number_at (place + 2) 2 bytes → first_cut (length bytes) (place + 4) (replicate count width) ≡ None →
    robustness ≡ (if nat_lt 7 (slice_index bytes place % 8) then 0 else slice_index bytes place % 8) →
    interval ≡ value8 (slice_index bytes (place + 1)) → sources ≡ addresses width count (take (length bytes - (place + 4)) (drop (place + 4) bytes)) →
    FieldsAt {K = K} place width bytes
    (Ok (record { suppress = suppress_of (slice_index bytes place); robustness = robustness; interval = interval; sources = sources }))
fields_read place width bytes robustness interval count sources is_count whole is_robustness is_interval are_sources =
    let test : nat_lt 7 (slice_index bytes place % 8) ≡ false = grind (arith, nat_tests) in
    let is_number : robustness ≡ slice_index bytes place % 8 = rw test at is_robustness in
    let are_addresses : sources ≡ addresses width (number_at (place + 2) 2 bytes) (drop (place + 4) bytes) =
    are_sources ∙ ap (addresses width count) (all_behind (place + 4) bytes)
    ∙ ap (λ (n : ℕ). addresses width n (drop (place + 4) bytes)) is_count in (
      ap (λ (n : ℕ). first_cut (length bytes) (place + 4) (replicate n width)) (sym is_count) ∙ whole,
      rw (is_number, is_interval, are_addresses) refl,
    )

-- the group, read at its place
group_read : (family : Family) (bytes : List ℕ) (n width place : ℕ) → width ≡ address_width family → place ≡ group_place family →
    n ≡ big_number width (take (length bytes - place) (drop place bytes)) → n ≡ group_of family bytes
group_read family bytes n width place is_width is_place read =
    read ∙ ap (big_number width) (all_behind place bytes)
    ∙ ap (λ (w : ℕ). big_number w (drop place bytes)) is_width
    ∙ ap (λ (p : ℕ). big_number (address_width family) (drop p bytes)) is_place

same_query : (n response : ℕ) (version : QueryVersion ℕ) (query : QueryOf ℕ) → n ≡ query.group → response ≡ query.response → version ≡ query.version →
    ◌≡◌ {A = QueryOf ℕ} (record { group = n; response = response; version = version }) query
same_query n response version query group is_response is_version = rw (group, is_response, is_version) refl

pub current_read : {K : Type 0} (number : K → ℕ) (family : Family) (bytes : List ℕ) (group : K) (width place end response : ℕ)
    (fields : QuerierFields K) → group_end family + 4 ≤ length bytes → width ≡ address_width family → place ≡ group_place family →
    end ≡ group_end family → number group ≡ big_number width (take (length bytes - place) (drop place bytes)) →
    response ≡ current_response family bytes → FieldsAt end width bytes (Ok fields) →
    ReadsQuery number family bytes (Ok (record { group = group; response = response; version = Current fields }))
current_read {K} number family bytes group width place end response fields long is_width is_place is_end read is_response at =
    let other : length bytes ≡ group_end family → ⊥ = λ same. absurd (omega (arith, same)) in
    let test : (length bytes == group_end family) ≡ false = ne_eqb (length bytes) (group_end family) other in
    let fields_at : FieldsAt (group_end family) (address_width family) bytes (Ok fields) = rw (is_end, is_width) at at in
    let whole : first_cut (length bytes) 0 (spans_of family Query bytes) ≡ None = rw test (behind_count family bytes long ∙ fields_at.0) in
    let says : query_of family bytes ≡ current_query family bytes = rw test refl in (
      no_fault_within family bytes Query (inr long) whole,
      same_query (number group) response (numbered_version (Current fields)) (current_query family bytes)
          (group_read family bytes (number group) width place is_width is_place read) is_response
          (ap (λ (f : QuerierFields K). numbered_version (Current f)) fields_at.1) ∙ sym says,
    )
