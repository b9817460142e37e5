-- The memory that suffices for the queries of a tick, and for those of a datagram.
use Rattle.std.specs.Prelude.{ℕ, ◌+◌, ◌*◌, ◌/◌, min}
use Rattle.mq_wire.specs.Family.{Family, address_width, group_end}
use Rattle.mq_link.specs.Configuration.{Configuration}
use Rattle.mq_link.specs.Family.{per_query}

-- the bytes of a query without its sources; after its group come the flags, the interval and the number of sources
abbrev pub query_head : Family → ℕ
query_head family = group_end family + 4

-- The bytes of `queries` queries that name `sources` sources together. Each query comes after its destination of
-- `width` bytes and its length.
abbrev pub room_of : (width : ℕ) → Family → (queries sources : ℕ) → ℕ
room_of width family queries sources = (width + (2 + query_head family)) * queries + address_width family * sources

-- The most queries of a tick. They are a general one, two for each schedule (with the S flag and without it), and one
-- more for each full query of sources that can be held.
abbrev pub tick_queries : Configuration → ℕ
tick_queries config = 1 + 2 * config.limits.scheduled + config.limits.sources / per_query config.family

abbrev pub tick_room : (width : ℕ) → Configuration → ℕ
tick_room width config = room_of width config.family (tick_queries config) config.limits.sources

-- The most records of a body of this length, with one for an older message, and the most sources of these records. A
-- record begins with its type, the length of its auxiliary data, the number of its sources, and its group.
abbrev pub records_in_body : (longest : ℕ) → Family → ℕ
records_in_body longest family = 1 + longest / (4 + address_width family)

abbrev pub sources_in_body : (longest : ℕ) → Family → ℕ
sources_in_body longest family = longest / address_width family

-- The most records of a body that ask for something. They are four for each group, since a fifth is refused. A record
-- that makes a group asks nothing, and no record deletes a group.
abbrev pub asking_records : (longest : ℕ) → Configuration → ℕ
asking_records longest config = min (4 * config.limits.groups) (records_in_body longest config.family)

-- The most sources that the queries of a datagram name. The queries of the tick before it name no source twice. Its
-- records only ask for sources that their groups have then. These were held before, or were named by a record that met
-- the group.
abbrev pub most_asked : (longest : ℕ) → Configuration → ℕ
most_asked longest config = config.limits.sources + 4 * (config.limits.sources + sources_in_body longest config.family)

-- The most queries of a datagram. They are those of the tick, three for each record that asks, and one more for each
-- full query of what is asked for. The three are one for its group and two for its sources.
abbrev pub receive_queries : (longest : ℕ) → Configuration → ℕ
receive_queries longest config =
    1 + 2 * config.limits.scheduled + 3 * asking_records longest config + most_asked longest config / per_query config.family

-- the memory that suffices if no body is longer than this
abbrev pub receive_room : (width longest : ℕ) → Configuration → ℕ
receive_room width longest config = room_of width config.family (receive_queries longest config) (most_asked longest config)
