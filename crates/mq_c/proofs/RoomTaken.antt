-- The room for few queries.
use Rattle.mq_c.proofs.Common.{ℕ, ◌+◌, ◌*◌, ◌/◌, ◌≤◌, List, length, sum_by, arith, list_map, Family, Igmp, Mld, address_width, Timing, SentQuery, Configuration}
use Rattle.mq_c.proofs.Common.{per_query, outgoing, query_head}
use Rattle.std.proofs.Math.Nat.{mul-le-mul_left}
use Rattle.mq_c.{specs.Rooms.room_of, proofs.QueryCounts.AreFew, proofs.QueryLengths.taken_by_all, proofs.RoomSuffices.taken_by}

-- these runs of these sources
at_most : (family : Family) (count runs sources : ℕ) → count * per_query family ≤ runs * per_query family + sources → count ≤ runs + sources / per_query family
at_most Igmp count runs sources few = omega (arith, few)
at_most Mld count runs sources few = omega (arith, few)

pub room_taken : (width : ℕ) (config : Configuration) (timing : Timing) (queries : List SentQuery) (runs sources : ℕ) →
    AreFew (per_query config.family) runs sources queries
    → sum_by (taken_by width) (list_map (outgoing config timing) queries) ≤ room_of width config.family (runs + sources / per_query config.family) sources
room_taken width config timing queries runs sources few =
    let head = width + (2 + query_head config.family) in
    let bytes = taken_by_all config timing width queries in
    let count = at_most config.family (length queries) runs sources few.count in
    let heads = mul-le-mul_left head count in
    let addresses = mul-le-mul_left (address_width config.family) few.named in
    omega (arith, bytes, heads, addresses)
