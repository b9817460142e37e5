-- The counters of a link. Each stays at the greatest u64 once it has reached it.
use Rattle.std.specs.Prelude.{ℕ, ◌==◌, Bool, true, false, not, if◌then◌else◌, List, [], ◌∷◌}
use Rattle.std.specs.List.{count_by}
use Rattle.mq_count.specs.Streams.{counted_on}
use Rattle.mq_link.specs.declared.answers.DropReason.{DropReason}
use Rattle.mq_link.specs.declared.answers.DropReason.TheVariants.{Truncated, Checksum, UnknownType, QueryLength, BadSource, HopLimit, NoAlert, OwnOrZero, OlderQuery, BadGroup}
use Rattle.mq_link.specs.declared.answers.Refusal.{Refusal}
use Rattle.mq_link.specs.declared.answers.Refusal.TheVariants.{Long, Repeated, Groups, GroupSources, Sources, Scheduled, Memory}
use Rattle.mq_link.specs.declared.answers.MessageKind.{MessageKind}
use Rattle.mq_link.specs.declared.answers.MessageKind.TheVariants.{Query, OlderQuery as OlderQueryKind, OlderReport, Leave, Report}

-- the numbers of the reasons and names
abbrev pub reason_number : DropReason → ℕ
reason_number Truncated = 1
reason_number Checksum = 2
reason_number UnknownType = 3
reason_number QueryLength = 4
reason_number BadSource = 5
reason_number HopLimit = 6
reason_number NoAlert = 7
reason_number OwnOrZero = 8
reason_number OlderQuery = 9
reason_number BadGroup = 10

abbrev pub refusal_number : Refusal → ℕ
refusal_number Long = 1
refusal_number Repeated = 2
refusal_number Groups = 3
refusal_number GroupSources = 4
refusal_number Sources = 5
refusal_number Scheduled = 6
refusal_number Memory = 7

abbrev pub kind_number : MessageKind → ℕ
kind_number Query = 1
kind_number OlderQueryKind = 2
kind_number OlderReport = 3
kind_number Leave = 4
kind_number Report = 5

-- The verdict on a record. A record is also ignored if hosts may not ask for its group.
pub data Verdict : Type 0 where
  Applied : Verdict
  Ignored : Verdict
  Denied : Verdict
  Refused : (name : Refusal) → Verdict

-- The counts of datagrams, messages, records and queries. `dropped_by` counts dropped datagrams by reason. `spelled`
-- counts parsed messages by kind, with the dropped ones. `refused_by` counts refused records by name. `sent` and
-- `unsent` count the queries that the outlet received. `denied` counts the ignored records for groups for which hosts
-- may not ask.
pub record Counters : Type 0 where
  pub received : ℕ
  pub dropped : ℕ
  pub dropped_by : DropReason → ℕ
  pub spelled : MessageKind → ℕ
  pub applied : ℕ
  pub ignored : ℕ
  pub refused : ℕ
  pub refused_by : Refusal → ℕ
  pub sent : ℕ
  pub unsent : ℕ
  pub denied : ℕ

abbrev pub no_counts : Counters
no_counts = record {
  received = 0;
  dropped = 0;
  dropped_by = λ reason. 0;
  spelled = λ kind. 0;
  applied = 0;
  ignored = 0;
  refused = 0;
  refused_by = λ name. 0;
  sent = 0;
  unsent = 0;
  denied = 0;
}

-- the counts with n more at one name
abbrev pub counted_at : {X : Type 0} → (X → ℕ) → X → ℕ → (X → ℕ) → X → ℕ
counted_at number name n counts other =
    if number other == number name then counted_on (counts other) n else counts other

abbrev pub count_received : Counters → Counters
count_received c = record c { received = counted_on c.received 1 }

abbrev pub count_spelled : MessageKind → Counters → Counters
count_spelled kind c = record c { spelled = counted_at kind_number kind 1 c.spelled }

abbrev pub count_dropped : DropReason → Counters → Counters
count_dropped reason c = record c {
  dropped = counted_on c.dropped 1;
  dropped_by = counted_at reason_number reason 1 c.dropped_by;
}

abbrev pub count_verdict : Verdict → Counters → Counters
count_verdict Applied c = record c { applied = counted_on c.applied 1 }
count_verdict Ignored c = record c { ignored = counted_on c.ignored 1 }
count_verdict Denied c = record c { ignored = counted_on c.ignored 1; denied = counted_on c.denied 1 }
count_verdict (Refused name) c = record c {
  refused = counted_on c.refused 1;
  refused_by = counted_at refusal_number name 1 c.refused_by;
}

abbrev pub count_verdicts : List Verdict → Counters → Counters
count_verdicts [] c = c
count_verdicts (verdict ∷ verdicts) c = count_verdicts verdicts (count_verdict verdict c)

-- the counters after the outlet's answers to its queries
abbrev pub count_answers : List Bool → Counters → Counters
count_answers answers c = record c {
  sent = counted_on c.sent (count_by (λ b. b) answers);
  unsent = counted_on c.unsent (count_by not answers);
}

-- a record was applied, ignored or refused
abbrev pub is_applied : Verdict → Bool
is_applied Applied = true
is_applied Ignored = false
is_applied Denied = false
is_applied (Refused name) = false

abbrev pub is_ignored : Verdict → Bool
is_ignored Applied = false
is_ignored Ignored = true
is_ignored Denied = true
is_ignored (Refused name) = false

abbrev pub is_refused : Verdict → Bool
is_refused Applied = false
is_refused Ignored = false
is_refused Denied = false
is_refused (Refused name) = true
