-- The findings if all queries were sent, or all but some.
use Rattle.mq_laws.proofs.Common.{◌≡◌, ℕ, Bool, List, [], ◌∷◌, ◌++◌, refl, ap, sym, ◌∙◌, Timing, CheckFlags, Finding, Missing, all_reported, reported, Ask}
use Rattle.mq_laws.proofs.Common.{Expected, Sent, LeftOut, all_sent, kept_for, missing_of, sent_but, seen_about, CheckEvent, HasRoom, found_by, AreAhead}
use Rattle.mq_laws.proofs.Common.{AreInOrder, IsOnTime, IsAsWanted, AreSeen, AreSeenWithin, TakesOut, all_missing, all_seen_in, all_wanted_in, CheckedCapture}
use Rattle.mq_laws.proofs.Common.{IsFromTheBeginning, Tells, TellsWhatHappened, ahead_in, end_in, events_in, LastDifferences}
use Rattle.mq_laws.proofs.{Found.found_is, Moved.missed-sent_but}
use Rattle.mq_laws.proofs.Moved.{moved_as, all_pair_up, all_but_some_pair_up, asks_of-sent, asks_of-sent_but, missing_of-sent, missing_of-sent_but, missed-sent}

pub moved_are_found : (within : ℕ) (timing : Timing) (flags : CheckFlags) (end : ℕ) (events : List CheckEvent) → IsOnTime within timing end events →
    AreSeenWithin within (all_wanted_in within timing flags events) events
    → IsAsWanted within timing flags end (all_sent (all_wanted_in within timing flags events)) events
moved_are_found within timing flags end events on_time are = record {
  on_time = on_time;
  wanted = asks_of-sent (all_wanted_in within timing flags events);
  pairs = all_pair_up within (kept_for within timing flags) (all_wanted_in within timing flags events) (all_seen_in within events) are;
  missed = missed-sent flags.strict (kept_for within timing flags) end (all_wanted_in within timing flags events);
}

pub none_of_moved : (within : ℕ) (timing : Timing) (flags : CheckFlags) (end : ℕ) (events ahead : List CheckEvent) → IsFromTheBeginning flags →
    AreInOrder 0 events end → AreAhead within end ahead → IsOnTime within timing end events → HasRoom within timing flags end events ahead
    → AreSeenWithin within (all_wanted_in within timing flags events) events → found_by within timing flags end events ahead ≡ []
none_of_moved within timing flags end events ahead began order after on_time room are =
    found_is within timing flags end (all_sent (all_wanted_in within timing flags events)) events ahead began order after
    (moved_are_found within timing flags end events on_time are) room ∙ missing_of-sent (all_wanted_in within timing flags events)

pub seen_are_moved : (within : ℕ) (asks : List Ask) (events : List CheckEvent) → AreSeen within asks events → AreSeenWithin within asks events
seen_are_moved within asks events are asked = moved_as within (seen_about asked asks) (seen_about asked (all_seen_in within events)) (are asked)

pub taken_are_missing : (within : ℕ) (timing : Timing) (flags : CheckFlags) (end : ℕ) (events ahead : List CheckEvent) (before taken behind : List Ask) →
    IsFromTheBeginning flags → AreInOrder 0 events end → AreAhead within end ahead → IsOnTime within timing end events →
    HasRoom within timing flags end events ahead → all_wanted_in within timing flags events ≡ before ++ taken ++ behind →
    TakesOut flags.strict (kept_for within timing flags) end taken behind →
    AreSeen within (before ++ behind) events → found_by within timing flags end events ahead ≡ all_missing taken
taken_are_missing within timing flags end events ahead before taken behind began order after on_time room wanted out are =
    found_is within timing flags end (sent_but before taken behind) events ahead began order after (record {
      on_time = on_time;
      wanted = asks_of-sent_but before taken behind ∙ sym wanted;
      pairs = all_but_some_pair_up within flags.strict (kept_for within timing flags) end before taken behind (all_seen_in within events) are out;
      missed = missed-sent_but flags.strict (kept_for within timing flags) end before taken behind out;
    }) room ∙ missing_of-sent_but before taken behind

-- the findings that a capture's check reports
pub tells_of : (c : CheckedCapture) (found : List (Finding ℕ)) → TellsWhatHappened c → found_by c.within c.config.timing c.flags (end_in c)
    (events_in c) (ahead_in c) ≡ found → Tells c (all_reported c.additions found)
tells_of c found told is = rw is at told.tells

-- each missing query is reported
pub missing_reported : (once : Bool) (last : LastDifferences) (xs : List Expected) → reported once last (missing_of xs) ≡ missing_of xs
missing_reported once last [] = refl
missing_reported once last (Sent ask ∷ xs) = missing_reported once last xs
missing_reported once last (LeftOut ask ∷ xs) =
    ap (λ (l : List (Finding ℕ)). Missing ask.moment ask.terms.packet ask.asked ∷ l) (missing_reported once last xs)
