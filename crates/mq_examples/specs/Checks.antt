-- The data of the worked examples of checks: a query for the group 5 of a querier with the default variables. It is wanted and
-- seen in either order, once or several times, and expired entries are removed before each step. Or a host leaves the
-- group, which the link doesn't hold. The packet is always the seventh. The tolerance is 100 ms.
use Rattle.std.specs.Prelude.{ℕ, true, false, List, map as list_map, Some}
use Rattle.mq_table.specs.declared.timing.Timing.{Timing}
use Rattle.mq_check.specs.declared.asked.Asked.{Asked}
use Rattle.mq_check.specs.declared.asked.Asked.TheVariants.{Group}
use Rattle.mq_check.specs.declared.check_terms.CheckFlags.{CheckFlags}
use Rattle.mq_check.specs.declared.finding.Difference.TheVariants.{Robustness}
use Rattle.mq_check.specs.declared.finding.Finding.{Finding}
use Rattle.mq_check.specs.declared.finding.Finding.TheVariants.{Differs}
use Rattle.mq_check.specs.declared.phase.Phase.TheVariants.{NotQuerier}
use Rattle.mq_check.specs.declared.standing.Standing.{Standing}
use Rattle.mq_check.specs.declared.terms.Terms.{Terms}
use Rattle.mq_check.specs.Checking.{CheckingValue, checking_at_start, one_changed, purged, with_general, with_seen, with_wanted}
use Rattle.mq_check.specs.Standing.{plain}

abbrev pub timing : Timing
timing = record { robustness = 2; query_seconds = 125; response_interval = 10000; last_member_interval = 1000; last_member_query_count = 0 }

abbrev pub a_query : Terms ℕ
a_query = record {
  version = 3;
  response = Some 1000;
  querier = Some (record { suppress = false; robustness = 2; interval = 125 });
  to = 5;
  packet = 7;
}

-- Checks from the querier's beginning, strict and not. Then a check of a capture that begins at any time.
abbrev pub strict_from_the_beginning : CheckFlags
strict_from_the_beginning = record { began = true; strict = true; above_7 = false }

abbrev pub from_the_beginning : CheckFlags
from_the_beginning = record { began = true; strict = false; above_7 = false }

abbrev pub from_any_time : CheckFlags
from_any_time = record { began = false; strict = false; above_7 = false }

abbrev pub at_start : CheckFlags → CheckingValue
at_start flags = checking_at_start 100 timing flags

-- the standing of the group if an older host mutes Leave and TO_IN
abbrev pub muted : Standing
muted = record plain { is_muted = true }

-- a query for the group that is wanted, or seen, after expired entries are removed
abbrev pub then_wanted : (moment : ℕ) → CheckingValue → CheckingValue
then_wanted moment c = with_wanted moment false a_query (purged moment c) (Group 5)

abbrev pub then_seen : (moment : ℕ) → CheckingValue → CheckingValue
then_seen moment c = with_seen moment a_query plain (purged moment c) (Group 5)

abbrev pub then_met : (moment : ℕ) → CheckingValue → CheckingValue
then_met moment c = then_seen moment (then_wanted moment c)

-- a host leaves the group
abbrev pub then_left : (moment : ℕ) → CheckingValue → CheckingValue
then_left moment c = one_changed moment (λ group. a_query) (purged moment c) (Group 5)

-- the check after the query was wanted at a moment and seen at a later one, and in the other order
abbrev pub wanted_first : (wanted seen : ℕ) → CheckingValue
wanted_first wanted seen = then_seen seen (then_wanted wanted (at_start strict_from_the_beginning))

abbrev pub seen_first : (seen wanted : ℕ) → CheckingValue
seen_first seen wanted = then_wanted wanted (then_seen seen (at_start strict_from_the_beginning))

-- the check after a host left the group and a query was seen, and after one more
abbrev pub left_and_asked : CheckFlags → (left seen : ℕ) → CheckingValue
left_and_asked flags left seen = then_seen seen (then_left left (at_start flags))

-- the check after the query was seen if an older host mutes what asks for it, and if another router is querier
abbrev pub seen_muted : CheckingValue
seen_muted = with_seen 1000 a_query muted (at_start strict_from_the_beginning) (Group 5)

abbrev pub seen_as_host : CheckingValue
seen_as_host = with_seen 1000 a_query muted (record (at_start strict_from_the_beginning) { phase = NotQuerier }) (Group 5)

-- the check after a host left the group at 1000 and once more, the query was wanted at both moments, and seen at the first
abbrev pub left_twice : CheckFlags → (second : ℕ) → CheckingValue
left_twice flags second = then_wanted second (then_left second (then_met 1000 (then_left 1000 (at_start flags))))

-- the check after general queries as wanted, at two moments
abbrev pub two_general : (first second : ℕ) → CheckingValue
two_general first second =
    with_general 100 timing second a_query a_query
    (purged second (with_general 100 timing first a_query a_query (at_start strict_from_the_beginning)))

-- the findings of queries on a subject with these QRVs, if 2 is wanted
abbrev pub robustness_found : Asked ℕ → (seen : List ℕ) → List (Finding ℕ)
robustness_found asked seen = list_map (λ (robustness : ℕ). Differs 1000 7 asked (Robustness robustness 2)) seen
