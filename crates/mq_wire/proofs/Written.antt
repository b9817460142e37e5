-- The one encoding of a query, as the code writes it.
use Rattle.mq_wire.proofs.Common.{◌≡◌, ℕ, ◌+◌, ◌*◌, List, ◌++◌, length, ap, sym, ◌∙◌, refl, big_bytes, QuerierFields, Current, Mld, first_bytes, fields_bytes}
use Rattle.mq_wire.proofs.Common.{with_checksum, mld_destination, covered_before, canon, without_checksum}
use Rattle.mq_wire.{specs.declared.query.Query.Query, specs.PseudoHeader.pseudo_header, proofs.WrittenParts.length_query}

-- an MLD query behind its pseudo-header, from what was computed
pub mld_written : (source : ℕ) (query : Query ℕ) (fields : QuerierFields ℕ) (first pseudo : List ℕ) (destination len : ℕ) →
    query.version ≡ Current fields → first ≡ first_bytes Mld query.response → destination ≡ mld_destination query.group →
    len ≡ length first + 16 + 4 + length fields.sources * 16 → pseudo ≡ pseudo_header source destination len →
    with_checksum pseudo (first ++ big_bytes 16 query.group ++ fields_bytes 16 fields) ≡ canon Mld source query
mld_written source query fields first pseudo destination len is_current is_first is_destination is_len is_pseudo =
    let message = first ++ big_bytes 16 query.group ++ fields_bytes 16 fields in
    let whole : message ≡ without_checksum Mld query = rw (is_first, is_current) refl in
    let long : len ≡ length (without_checksum Mld query) = is_len ∙ sym (length_query 16 query.group first fields) ∙ ap length whole in
    let before = covered_before Mld source query.group (length (without_checksum Mld query)) in
    let covered : pseudo ≡ before = is_pseudo ∙ rw (is_destination, long) refl in
    ap (λ (p : List ℕ). with_checksum p message) covered ∙ ap (λ (m : List ℕ). with_checksum before m) whole
