-- The bytes of a tick's queries.
use Rattle.mq_c.proofs.Common.{◌≡◌, ℕ, ◌+◌, ◌*◌, ◌<◌, ◌≤◌, ◌^◌, Bool, false, List, [], ◌∷◌, length, sum_by, ap, arith, ◌∙◌, add-mul, suc-mul, list_map}
use Rattle.mq_c.proofs.Common.{sum_by-cons, Family, Igmp, Mld, address_width, Timing, SentQuery, GeneralQuery, GroupQuery, SourcesQuery, Configuration}
use Rattle.mq_c.proofs.Common.{per_query, named_in, outgoing, query_head}
use Rattle.mq_wire.specs.{declared.query.QuerierFields.QuerierFields, Canon.canon, Canon.first_bytes, Canon.without_checksum, Canon.covered_before}
use Rattle.mq_wire.proofs.WrittenParts.{length_query, length_with_checksum}
use Rattle.mq_sched.specs.Rounds.{AllFit}
use Rattle.mq_link.specs.Sent.{query_with}
use Rattle.mq_c.proofs.RoomSuffices.{taken_by, AreTold}

module _ (timing : Timing) (s : Bool) (sources : List ℕ) where
  fields : QuerierFields ℕ
  fields = record { suppress = s; robustness = timing.robustness; interval = timing.query_seconds; sources = sources }

  length_unsigned : (family : Family) (group response : ℕ)
      → length (without_checksum family (query_with timing group response s sources)) ≡ query_head family + length sources * address_width family
  unfolding fields
  length_unsigned Igmp group response = let all = length_query 4 group (first_bytes Igmp response) fields in omega (arith, all)
  length_unsigned Mld group response = let all = length_query 16 group (first_bytes Mld response) fields in omega (arith, all)

  length_sent : (family : Family) (own group response : ℕ)
      → length (canon family own (query_with timing group response s sources)) ≡ query_head family + length sources * address_width family
  length_sent family own group response =
      let message = without_checksum family (query_with timing group response s sources) in
      let long = length_unsigned family group response in
      length_with_checksum (covered_before family own group (length message)) message (omega (arith, long)) ∙ long

module _ (config : Configuration) (timing : Timing) where
  length_outgoing : (query : SentQuery) → length (outgoing config timing query).bytes ≡ query_head config.family + named_in query * address_width config.family
  length_outgoing GeneralQuery = length_sent timing false [] config.family config.own 0 timing.response_interval
  length_outgoing (GroupQuery group s) = length_sent timing s [] config.family config.own group timing.last_member_interval
  length_outgoing (SourcesQuery group s sources) = length_sent timing s sources config.family config.own group timing.last_member_interval

  -- all that some queries take: each its head, and each source its address
  pub taken_by_all : (width : ℕ) (queries : List SentQuery)
      → sum_by (taken_by width) (list_map (outgoing config timing) queries)
      ≡ length queries * (width + (2 + query_head config.family)) + sum_by named_in queries * address_width config.family
  taken_by_all width [] = omega arith
  taken_by_all width (query ∷ queries) =
      let here = length_outgoing query in
      let rest = taken_by_all width queries in
      let bytes = sum_by-cons (taken_by width) (outgoing config timing query) (list_map (outgoing config timing) queries) in
      let named = sum_by-cons named_in query queries in
      let head = width + (2 + query_head config.family) in
      let heads = suc-mul (length queries) head in
      let more : sum_by named_in (query ∷ queries) * address_width config.family
      ≡ named_in query * address_width config.family + sum_by named_in queries * address_width config.family =
      ap (λ n. n * address_width config.family) named ∙ add-mul (named_in query) (sum_by named_in queries) (address_width config.family) in
      bytes ∙ omega (arith, here, rest, heads, more)

  few_bytes : (family : Family) (n : ℕ) → n ≤ per_query family → query_head family + n * address_width family < 2 ^ 16
  few_bytes Igmp n few = omega (arith, few)
  few_bytes Mld n few = omega (arith, few)

  told_one : (query : SentQuery) → named_in query ≤ per_query config.family → length (outgoing config timing query).bytes < 2 ^ 16
  told_one query few = omega (arith, length_outgoing query, few_bytes config.family (named_in query) few)

  -- two bytes tell the length of each that one message holds
  pub all_told : (queries : List SentQuery) → AllFit (per_query config.family) queries → AreTold (list_map (outgoing config timing) queries)
  all_told [] fit = tt
  all_told (GeneralQuery ∷ queries) fit = (told_one GeneralQuery (omega arith), all_told queries fit)
  all_told (GroupQuery group s ∷ queries) fit = (told_one (GroupQuery group s) (omega arith), all_told queries fit)
  all_told (SourcesQuery group s sources ∷ queries) fit = (told_one (SourcesQuery group s sources) fit.0, all_told queries fit.1)
