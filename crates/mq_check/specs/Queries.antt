-- Subjects and terms of queries (RFC 3376 sections 4.1, 4.1.11 and 7.1, RFC 3810 sections 5.1, 5.1.13 and 8.1).
-- Addresses are numbers.
use Rattle.std.specs.Prelude.{ℕ, ◌==◌, ◌&&◌, Bool, true, false, if◌then◌else◌, List, [], ◌∷◌, map as list_map, Option, None, Some, Result, Ok, Err}
use Rattle.mq_wire.specs.declared.message.Message.{Message}
use Rattle.mq_wire.specs.declared.message.Message.TheVariants.{Query as AQuery, OldReport, Leave, Report}
use Rattle.mq_wire.specs.declared.message.WireFault.{WireFault}
use Rattle.mq_wire.specs.declared.query.Query.{Query}
use Rattle.mq_wire.specs.declared.query.QueryVersion.{QueryVersion}
use Rattle.mq_wire.specs.declared.query.QueryVersion.TheVariants.{Older, Current}
use Rattle.mq_wire.specs.Family.{Family}
use Rattle.mq_wire.specs.RoundTrip.{response_lowered, interval_lowered}
use Rattle.mq_table.specs.declared.timing.Timing.{Timing}
use Rattle.mq_link.specs.Family.{general_destination}
use Rattle.mq_link.specs.Receive.{Envelope, read_of, pseudo_of, envelope_tests}
use Rattle.mq_link.specs.Configuration.{Configuration}
use Rattle.mq_link.specs.Tests.{first_named}
use Rattle.mq_lines.specs.Text.{current_version, has_response, query_sources, query_version}
use Rattle.mq_walk.specs.Datagrams.{Datagram}
use Rattle.mq_check.specs.declared.asked.Asked.{Asked}
use Rattle.mq_check.specs.declared.asked.Asked.TheVariants.{AllGroups, Group, Source}
use Rattle.mq_check.specs.declared.terms.Terms.{Terms}
use Rattle.mq_check.specs.declared.terms.QuerierTerms.{QuerierTerms}

abbrev pub is_empty : List ℕ → Bool
is_empty [] = true
is_empty (x ∷ xs) = false

-- The subjects of a query: all groups, a group, or each source of a group. Sources in one query count like sources in
-- one query each. A source that a query names twice is a subject twice.
abbrev pub asked_for_group : (group : ℕ) → Asked ℕ
asked_for_group group = if group == 0 then AllGroups else Group group

abbrev pub asked_by : (group : ℕ) (sources : List ℕ) → List (Asked ℕ)
asked_by group [] = asked_for_group group ∷ []
asked_by group (source ∷ sources) = list_map (Source group) (source ∷ sources)

abbrev pub asked_in : Query ℕ → List (Asked ℕ)
asked_in query = asked_by query.group (query_sources query.version)

-- a general query, without a group and without sources
abbrev pub is_general : Query ℕ → Bool
is_general query = query.group == 0 && is_empty (query_sources query.version)

-- two subjects are equal
abbrev pub is_same : (a b : Asked ℕ) → Bool
is_same AllGroups AllGroups = true
is_same AllGroups (Group g) = false
is_same AllGroups (Source g s) = false
is_same (Group g) AllGroups = false
is_same (Group g) (Group g') = g == g'
is_same (Group g) (Source g' s) = false
is_same (Source g s) AllGroups = false
is_same (Source g s) (Group g') = false
is_same (Source g s) (Source g' s') = (g == g') && (s == s')

-- the response of a query, rounded by its code, which one of IGMPv1 doesn't have
abbrev pub response_said : Family → (response : ℕ) → QueryVersion ℕ → Option ℕ
response_said family response (Older version) = if has_response family version then Some response else None
response_said family response (Current fields) = Some (response_lowered family response)

-- the S flag, QRV and the interval of QQIC, rounded by its code, which older queries don't have
abbrev pub querier_terms : QueryVersion ℕ → Option QuerierTerms
querier_terms (Older version) = None
querier_terms (Current fields) = Some (record {
  suppress = fields.suppress;
  robustness = fields.robustness;
  interval = interval_lowered fields.interval;
})

-- the version, the fields and the destination of a query, and the number of a packet
abbrev pub terms_of : Family → (packet to : ℕ) → Query ℕ → Terms ℕ
terms_of family packet to query = record {
  version = query_version family query.version;
  response = response_said family query.response query.version;
  querier = querier_terms query.version;
  to = to;
  packet = packet;
}

-- the S flag, QRV and the interval of QQIC under the timing in force, with S clear
abbrev pub in_force_terms : Timing → QuerierTerms
in_force_terms in_force = record {
  suppress = false;
  robustness = in_force.robustness;
  interval = interval_lowered in_force.query_seconds;
}

-- The terms of a general query. The response is the Query Response Interval, and QRV and QQIC are those in force, each
-- rounded by its code. S is clear. RFC 3376 sections 4.1.1, 4.1.5 to 4.1.7, 4.1.12 and 8.3, RFC 3810 sections 5.1.3,
-- 5.1.7 to 5.1.9, 5.1.15 and 9.3.
abbrev pub general_terms : Configuration → (in_force : Timing) → Terms ℕ
general_terms config in_force = record {
  version = current_version config.family;
  response = Some (response_lowered config.family config.timing.response_interval);
  querier = Some (in_force_terms in_force);
  to = general_destination config.family;
  packet = 0;
}

-- The terms of the first query for a group or for its sources, which a change in this packet asks for. The response is the
-- Last Member Query Interval. S is clear, since the timers were lowered.
abbrev pub specific_terms : Configuration → (in_force : Timing) → (packet group : ℕ) → Terms ℕ
specific_terms config in_force packet group = record {
  version = current_version config.family;
  response = Some (response_lowered config.family config.timing.last_member_interval);
  querier = Some (in_force_terms in_force);
  to = group;
  packet = packet;
}

-- the query that was read, if there is one
abbrev pub query_read : Result (Message ℕ) WireFault → Option (Query ℕ)
query_read (Err fault) = None
query_read (Ok (AQuery query)) = Some query
query_read (Ok (OldReport version group)) = None
query_read (Ok (Leave group)) = None
query_read (Ok (Report records)) = None

-- the query that the bytes of a datagram encode, if there is one
unfoldable pub query_spelled : Family → Envelope → (bytes : List ℕ) → Option (Query ℕ)
query_spelled family envelope bytes = query_read (read_of family (pseudo_of family envelope bytes) bytes)

-- A query of the router at the own address on which hosts act. A query that hosts drop for its packet or its bytes is
-- none (RFC 3376 section 4.1.2, RFC 3810 sections 5.1.2, 5.1.14 and 6.2).
abbrev pub if_acted_on : {X : Type 0} → (is_own : Bool) → (fault : Option X) → Option (Query ℕ) → Option (Query ℕ)
if_acted_on false fault query = None
if_acted_on true (Some fault) query = None
if_acted_on true None query = query

abbrev pub query_seen : Configuration → Datagram → Option (Query ℕ)
query_seen config datagram = if_acted_on
    (datagram.envelope.source == config.own)
    (first_named (envelope_tests config.family datagram.envelope))
    (query_spelled config.family datagram.envelope datagram.body)
