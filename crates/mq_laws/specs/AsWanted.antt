-- The expected queries of a check, and the queries that are left out.
use Rattle.std.specs.Prelude.{◌≡◌, ℕ, ◌+◌, ◌<◌, Bool, true, false, List, [], ◌∷◌, map as list_map, ⊤}
use Rattle.mq_table.specs.declared.timing.Timing.{Timing}
use Rattle.mq_check.specs.declared.asked.Asked.{Asked}
use Rattle.mq_check.specs.declared.check_terms.CheckFlags.{CheckFlags}
use Rattle.mq_check.specs.declared.asked.Asked.TheVariants.{AllGroups, Group, Source}
use Rattle.mq_check.specs.declared.finding.Finding.{Finding}
use Rattle.mq_check.specs.declared.finding.Finding.TheVariants.{Missing}
use Rattle.mq_check.specs.declared.terms.Terms.{Terms}
use Rattle.mq_check.specs.Entries.{is_suppressed}
use Rattle.mq_laws.specs.Events.{CheckEvent}
use Rattle.mq_laws.specs.OnTime.{IsOnTime}
use Rattle.mq_laws.specs.Pairing.{Ask, Expected, Sent, LeftOut, AllLater, AreMoved, PairUp, asks_of, kept_for, seen_about, unnumbered, wanted_about}
use Rattle.mq_laws.specs.WantedAndSeen.{all_seen_in, all_wanted_in}

-- A query that was left out is missed. A query for sources with S set may be left out if a query for their group goes
-- at the same moment, so it isn't missed. The capture goes on for longer than the query is kept. The check is strict: otherwise
-- a query is only possibly missing if changes come close together.
abbrev pub HasToBeSent : Asked ℕ → Terms ℕ → Type 0
HasToBeSent AllGroups terms = ⊤
HasToBeSent (Group group) terms = ⊤
HasToBeSent (Source group source) terms = is_suppressed terms.querier ≡ false

pub record IsMissed (strict : Bool) (kept end : ℕ) (ask : Ask) : Type 0 where
  pub has_to_be_sent : HasToBeSent ask.asked ask.terms
  pub over : ask.moment + kept < end
  pub is_strict : strict ≡ true

abbrev pub AreMissed : (strict : Bool) → (kept end : ℕ) → List Expected → Type 0
AreMissed strict kept end [] = ⊤
AreMissed strict kept end (Sent ask ∷ xs) = AreMissed strict kept end xs
AreMissed strict kept end (LeftOut ask ∷ xs) = IsMissed strict kept end ask × AreMissed strict kept end xs

-- The capture begins before the querier, whose Robustness Variable is known: it isn't above 7.
pub record IsFromTheBeginning (flags : CheckFlags) : Type 0 where
  pub began : flags.began ≡ true
  pub known : flags.above_7 ≡ false

-- The queries are as expected. Those that were sent were seen, in order and within the tolerance of their moments, and
-- no others. The rest was left out.
pub record IsAsWanted (within : ℕ) (timing : Timing) (flags : CheckFlags) (end : ℕ) (expected : List Expected) (events : List CheckEvent) : Type 0 where
  pub on_time : IsOnTime within timing end events
  pub wanted : asks_of expected ≡ all_wanted_in within timing flags events
  pub pairs : (asked : Asked ℕ) → PairUp within (kept_for within timing flags) (wanted_about asked expected) (seen_about asked (all_seen_in within events))
  pub missed : AreMissed flags.strict (kept_for within timing flags) end expected

-- The queries that were seen about each thing are these, at their moments, in any packets. In the second definition they
-- are these within the tolerance.
abbrev pub AreSeen : (within : ℕ) → List Ask → List CheckEvent → Type 0
AreSeen within asks events = (asked : Asked ℕ)
    → list_map unnumbered (seen_about asked (all_seen_in within events)) ≡ list_map unnumbered (seen_about asked asks)

abbrev pub AreSeenWithin : (within : ℕ) → List Ask → List CheckEvent → Type 0
AreSeenWithin within asks events = (asked : Asked ℕ) → AreMoved within (seen_about asked asks) (seen_about asked (all_seen_in within events))

-- Some expected queries are taken out, each with all that it asks about. The next query about the same thing and the end
-- come after the time for which they are kept.
abbrev pub TakesOut : (strict : Bool) → (kept end : ℕ) → (taken behind : List Ask) → Type 0
TakesOut strict kept end [] behind = ⊤
TakesOut strict kept end (ask ∷ asks) behind =
    IsMissed strict kept end ask × AllLater (ask.moment + kept) (seen_about ask.asked behind) × TakesOut strict kept end asks behind

-- the findings that each of these queries is missing
abbrev pub all_missing : List Ask → List (Finding ℕ)
all_missing asks = list_map (λ (ask : Ask). Missing ask.moment ask.terms.packet ask.asked) asks
