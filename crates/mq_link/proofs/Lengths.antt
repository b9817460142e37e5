-- The bytes of a query in one message.
use Rattle.mq_link.proofs.Common.{◌≡◌, ℕ, ◌+◌, ◌*◌, ◌≤◌, ◌++◌, Bool, false, List, [], length, take, drop, arith, ◌∙◌, refill, take-append-le, take-take, canon}
use Rattle.mq_link.proofs.Common.{first_bytes, without_checksum, covered_before, Family, Igmp, Mld, Timing, SentQuery, GeneralQuery, GroupQuery, SourcesQuery}
use Rattle.mq_link.proofs.Common.{per_query, Terms, outgoing_on, FitsOne, query_with}
use Rattle.mq_wire.specs.declared.query.QuerierFields.{QuerierFields}
use Rattle.mq_wire.proofs.WrittenParts.{length_query, length_with_checksum}

fields_of : Timing → Bool → List ℕ → QuerierFields ℕ
fields_of timing s sources =
    record { suppress = s; robustness = timing.robustness; interval = timing.query_seconds; sources = sources }

signed : (family : Family) (own group response : ℕ) (timing : Timing) (s : Bool) (sources : List ℕ) (n : ℕ)
    → length (without_checksum family (query_with timing group response s sources)) ≡ n → 4 ≤ n
    → length (canon family own (query_with timing group response s sources)) ≡ n
signed family own group response timing s sources n is some =
    let message = without_checksum family (query_with timing group response s sources) in
    length_with_checksum (covered_before family own group (length message)) message (omega (arith, is, some)) ∙ is

length_sent : (family : Family) (own group response : ℕ) (timing : Timing) (s : Bool) (sources : List ℕ)
    → length sources ≤ per_query family → length (canon family own (query_with timing group response s sources)) ≤ 1476
unfolding fields_of
length_sent Igmp own group response timing s sources fits =
    let long : length (without_checksum Igmp (query_with timing group response s sources)) ≡ 12 + length sources * 4 =
    (let all = length_query 4 group (first_bytes Igmp response) (fields_of timing s sources) in omega (arith, all)) in
    let same = signed Igmp own group response timing s sources (12 + length sources * 4) long (omega arith) in
    omega (arith, same, fits)
length_sent Mld own group response timing s sources fits =
    let long : length (without_checksum Mld (query_with timing group response s sources)) ≡ 28 + length sources * 16 =
    (let all = length_query 16 group (first_bytes Mld response) (fields_of timing s sources) in omega (arith, all)) in
    let same = signed Mld own group response timing s sources (28 + length sources * 16) long (omega arith) in
    omega (arith, same, fits)

none_fits : (family : Family) → 0 ≤ per_query family
none_fits family = omega arith

-- no message is longer than 1476 bytes
pub within_longest : (family : Family) (terms : Terms) (query : SentQuery) → FitsOne family query
    → length (outgoing_on family terms query).bytes ≤ 1476
within_longest family terms GeneralQuery fits =
    let t = terms.timing in length_sent family terms.own 0 t.response_interval t false [] (none_fits family)
within_longest family terms (GroupQuery group s) fits =
    let t = terms.timing in length_sent family terms.own group t.last_member_interval t s [] (none_fits family)
within_longest family terms (SourcesQuery group s sources) fits =
    let t = terms.timing in length_sent family terms.own group t.last_member_interval t s sources fits

-- the front of a list that was given and returned
pub written_back : (n count : ℕ) (before after : List ℕ) → count ≤ n → count ≤ length after → take count (refill n before after) ≡ take count after
written_back n count before after within inside =
    take-take count n (after ++ drop (length after) before) within
    ∙ take-append-le count after (drop (length after) before) inside
