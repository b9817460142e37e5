-- The changes of hosts after which some querier sends a query. The link may hold another state than that querier (RFC 3376
-- sections 6.4.2 and 7.3.2, RFC 3810 sections 7.4.2 and 8.3.2).
use Rattle.std.specs.Prelude.{ℕ, ◌==◌, ◌||◌, if◌then◌else◌, List, [], ◌∷◌, ◌++◌, map as list_map, flat_map, Option, None, Some, Result, Ok, Err}
use Rattle.mq_wire.specs.declared.message.Message.{Message}
use Rattle.mq_wire.specs.declared.message.Message.TheVariants.{Query, OldReport, Leave, Report}
use Rattle.mq_wire.specs.declared.message.WireFault.{WireFault}
use Rattle.mq_wire.specs.declared.records.RecordView.{RecordView}
use Rattle.mq_wire.specs.Family.{Family}
use Rattle.mq_link.specs.Family.{is_admitted}
use Rattle.mq_link.specs.Receive.{Envelope, read_of, pseudo_of, envelope_tests}
use Rattle.mq_link.specs.Tests.{first_named}
use Rattle.mq_walk.specs.Datagrams.{Datagram}
use Rattle.mq_check.specs.declared.asked.Asked.{Asked}
use Rattle.mq_check.specs.declared.asked.Asked.TheVariants.{Group, Source}

-- these sources, and the source zero for all sources of the group
abbrev pub with_all : (group : ℕ) → (sources : List ℕ) → List (Asked ℕ)
with_all group sources = list_map (Source group) sources ++ Source group 0 ∷ []

-- A record BLOCK (6) or TO_EX (4) asks for its sources, and a record TO_IN (3) for the group and its other sources. A record
-- IS_EX (2) ends what is asked of sources.
abbrev pub causes_of_kind : (kind group : ℕ) → (sources : List ℕ) → List (Asked ℕ)
causes_of_kind kind group sources =
    if kind == 6 || kind == 4
    then with_all group sources
    else if kind == 3
    then Group group ∷ Source group 0 ∷ []
    else if kind == 2 then Source group 0 ∷ [] else []

-- Hosts report no other groups.
abbrev pub causes_if : Family → (kind group : ℕ) → (sources : List ℕ) → List (Asked ℕ)
causes_if family kind group sources = if is_admitted family group then causes_of_kind kind group sources else []

abbrev pub causes_by : Family → RecordView ℕ → List (Asked ℕ)
causes_by family r = causes_if family r.kind r.group r.sources

-- The changes of all records of a Report. A Leave or Done is a record TO_IN without sources, and a Report of an older version
-- a record IS_EX.
abbrev pub causes_of : Family → Result (Message ℕ) WireFault → List (Asked ℕ)
causes_of family (Err fault) = []
causes_of family (Ok (Query query)) = []
causes_of family (Ok (OldReport version group)) = causes_if family 2 group []
causes_of family (Ok (Leave group)) = causes_if family 3 group []
causes_of family (Ok (Report records)) = flat_map (causes_by family) records

unfoldable pub causes_spelled : Family → Envelope → (bytes : List ℕ) → List (Asked ℕ)
causes_spelled family envelope bytes = causes_of family (read_of family (pseudo_of family envelope bytes) bytes)

-- A router drops the message if its packet has a fault.
abbrev pub unless_dropped : {X : Type 0} → (fault : Option X) → List (Asked ℕ) → List (Asked ℕ)
unless_dropped None asked = asked
unless_dropped (Some fault) asked = []

abbrev pub causes_in : Family → Datagram → List (Asked ℕ)
causes_in family datagram = unless_dropped
    (first_named (envelope_tests family datagram.envelope))
    (causes_spelled family datagram.envelope datagram.body)
