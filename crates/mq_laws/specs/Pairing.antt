-- Terms of the laws of the pairing of queries.
use Rattle.std.specs.Prelude.{◌≡◌, ℕ, ◌+◌, ◌<◌, ◌≤◌, List, [], ◌∷◌, ◌++◌, map as list_map, filter, ⊤}
use Rattle.std.specs.List.{AllByRecursion}
use Rattle.mq_table.specs.declared.timing.Timing.{Timing}
use Rattle.mq_check.specs.declared.asked.Asked.{Asked}
use Rattle.mq_check.specs.declared.check_terms.CheckFlags.{CheckFlags}
use Rattle.mq_check.specs.declared.finding.Finding.{Finding}
use Rattle.mq_check.specs.declared.finding.Finding.TheVariants.{Missing}
use Rattle.mq_check.specs.declared.terms.Terms.{Terms}
use Rattle.mq_check.specs.Entries.{terms_differ}
use Rattle.mq_check.specs.Queries.{is_same}
use Rattle.mq_check.specs.Schedules.{keep_in}

-- A query about one thing: its moment, what it asks about, and its fields. It is expected, or was seen.
pub record Ask : Type 0 where
  pub moment : ℕ
  pub asked : Asked ℕ
  pub terms : Terms ℕ

-- A query without the number of its packet. A seen query has the number of its own packet, and an expected query has that of
-- the packet which makes the querier send it.
abbrev pub unnumbered_terms : Terms ℕ → Terms ℕ
unnumbered_terms terms = record terms { packet = 0 }

abbrev pub unnumbered : Ask → Ask
unnumbered ask = record ask { terms = unnumbered_terms ask.terms }

-- An expected query: the querier sent it, or left it out.
pub data Expected : Type 0 where
  Sent : Ask → Expected
  LeftOut : Ask → Expected

abbrev pub ask_of : Expected → Ask
ask_of (Sent ask) = ask
ask_of (LeftOut ask) = ask

-- the expected queries, sent or not
abbrev pub asks_of : List Expected → List Ask
asks_of [] = []
asks_of (x ∷ xs) = ask_of x ∷ asks_of xs

-- the queries about one thing, seen or expected
abbrev pub seen_about : (asked : Asked ℕ) → List Ask → List Ask
seen_about asked seen = filter (λ ask. is_same asked ask.asked) seen

abbrev pub wanted_about : (asked : Asked ℕ) → List Expected → List Expected
wanted_about asked wanted = filter (λ x. is_same asked (ask_of x).asked) wanted

-- A seen query answers an expected one: they are within the tolerance, and no field differs.
pub record Answers (within : ℕ) (wanted seen : Ask) : Type 0 where
  pub not_late : seen.moment ≤ wanted.moment + within
  pub not_early : wanted.moment ≤ seen.moment + within
  pub alike : terms_differ seen.terms wanted.terms ≡ []

-- The time for which a check keeps a query without a partner. In a strict check it is the tolerance, so the laws of strict
-- checks name no other time. In other checks it is longer, by at most a Last Member Query Interval. There a query that goes
-- on with a schedule may be the partner of a query from an interval before.
abbrev pub kept_for : (within : ℕ) → Timing → (flags : CheckFlags) → ℕ
kept_for within timing flags = keep_in within timing flags.strict

-- all of these were seen later than a moment
abbrev pub AllLater : (moment : ℕ) → List Ask → Type 0
AllLater moment seen = AllByRecursion (λ (ask : Ask). moment < ask.moment) seen

-- Queries about one thing pair up. Each sent query was answered, in order, by a query that was seen. A query that was left
-- out is kept for the time `kept`. The next seen query comes later, so it isn't taken for it.
abbrev pub PairUp : (within kept : ℕ) → (wanted : List Expected) → (seen : List Ask) → Type 0
PairUp within kept [] [] = ⊤
PairUp within kept [] (s ∷ ss) = ⊥
PairUp within kept (Sent w ∷ ws) [] = ⊥
PairUp within kept (Sent w ∷ ws) (s ∷ ss) = Answers within w s × PairUp within kept ws ss
PairUp within kept (LeftOut w ∷ ws) ss = AllLater (w.moment + kept) ss × PairUp within kept ws ss

-- the findings: each query that was left out is missing
abbrev pub missing_of : List Expected → List (Finding ℕ)
missing_of [] = []
missing_of (Sent ask ∷ xs) = missing_of xs
missing_of (LeftOut ask ∷ xs) = Missing ask.moment ask.terms.packet ask.asked ∷ missing_of xs

-- A query was seen within the tolerance of its moment, with the expected fields, in any packet.
pub record IsMoved (within : ℕ) (wanted seen : Ask) : Type 0 where
  pub not_late : seen.moment ≤ wanted.moment + within
  pub not_early : wanted.moment ≤ seen.moment + within
  pub terms : unnumbered_terms seen.terms ≡ unnumbered_terms wanted.terms

-- each of these queries was seen so, in order
abbrev pub AreMoved : (within : ℕ) → (wanted seen : List Ask) → Type 0
AreMoved within [] [] = ⊤
AreMoved within [] (s ∷ ss) = ⊥
AreMoved within (w ∷ ws) [] = ⊥
AreMoved within (w ∷ ws) (s ∷ ss) = IsMoved within w s × AreMoved within ws ss

-- the expected queries, all of them sent
abbrev pub all_sent : List Ask → List Expected
all_sent asks = list_map Sent asks

-- the expected queries, all of them left out; and all sent but those in `taken`
abbrev pub all_left_out : List Ask → List Expected
all_left_out asks = list_map LeftOut asks

abbrev pub sent_but : (before taken behind : List Ask) → List Expected
sent_but before taken behind = all_sent before ++ all_left_out taken ++ all_sent behind
