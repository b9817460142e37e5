-- Bytes of a query encode it.
use Rattle.mq_wire.proofs.Common.{◌≡◌, ℕ, ◌+◌, ◌*◌, ◌≤◌, false, ◌==◌, inr, List, ◌++◌, length, replicate, None, Some, ap, sym, ◌∙◌, arith, nat_tests}
use Rattle.mq_wire.proofs.Common.{QueryMessage, QueryType, IsRight, Family, group_end, address_width, number_at, first_cut, source_spans, current_query, Spells}
use Rattle.mq_wire.proofs.Common.{type_named, type_of}
use Rattle.mq_wire.{specs.declared.query.Query.Query, proofs.Cuts.behind_count, proofs.Spans.whole_at}

-- They have as many bytes as they name sources, and the checksum is right.
pub spells_query : (family : Family) (pseudo bytes : List ℕ) (count : ℕ) (query : Query ℕ) → type_named family (type_of bytes) ≡ Some QueryType →
    IsRight (pseudo ++ bytes) → number_at (group_end family + 2) 2 bytes ≡ count → length bytes ≡ group_end family + 4 + count * address_width family
    → current_query family bytes ≡ query → Spells family pseudo bytes (QueryMessage query)
spells_query family pseudo bytes count query listed right is_count long says =
    let other : (length bytes == group_end family) ≡ false = grind (arith, nat_tests, long) in
    let room : group_end family + 4 ≤ length bytes = omega (arith, long) in
    let spans : source_spans (group_end family) (address_width family) bytes ≡ replicate count (address_width family) =
    ap (λ (n : ℕ). replicate n (address_width family)) is_count in
    let sources : first_cut (length bytes) (group_end family + 4) (source_spans (group_end family) (address_width family) bytes) ≡ None =
    rw spans (whole_at count (address_width family) (length bytes) (group_end family + 4) (omega (arith, long))) in
    record {
      checksum = right;
      kind = QueryType;
      listed = listed;
      has_length = inr room;
      whole = rw other (behind_count family bytes room ∙ sources);
      says = rw other (ap QueryMessage (sym says));
    }
