-- The counters of a link, as C has them.
use Rattle.std.specs.Prelude.{◌≡◌, ℕ, List, [], ◌∷◌, ◌++◌, length, take, drop}
use Rattle.mq_link.specs.declared.answers.DropReason.TheVariants as reason
use Rattle.mq_link.specs.declared.answers.MessageKind.TheVariants as kind
use Rattle.mq_link.specs.declared.answers.Refusal.TheVariants as refusal
use Rattle.mq_link.specs.Counters.{Counters}

-- all counters; those by reason, by kind and by limit are in the order of the numbers
abbrev pub counted : Counters → List ℕ
counted c =
    c.received ∷ c.dropped
    ∷ c.dropped_by reason.Truncated ∷ c.dropped_by reason.Checksum ∷ c.dropped_by reason.UnknownType ∷ c.dropped_by reason.QueryLength
    ∷ c.dropped_by reason.BadSource ∷ c.dropped_by reason.HopLimit ∷ c.dropped_by reason.NoAlert ∷ c.dropped_by reason.OwnOrZero
    ∷ c.dropped_by reason.OlderQuery ∷ c.dropped_by reason.BadGroup
    ∷ c.spelled kind.Query ∷ c.spelled kind.OlderQuery ∷ c.spelled kind.OlderReport ∷ c.spelled kind.Leave ∷ c.spelled kind.Report
    ∷ c.applied ∷ c.ignored ∷ c.refused
    ∷ c.refused_by refusal.Long ∷ c.refused_by refusal.Repeated ∷ c.refused_by refusal.Groups ∷ c.refused_by refusal.GroupSources
    ∷ c.refused_by refusal.Sources ∷ c.refused_by refusal.Scheduled ∷ c.refused_by refusal.Memory
    ∷ c.sent ∷ c.unsent ∷ c.denied ∷ []

-- The counters are at the front of the memory, as many as there is room for, and the memory after them is unchanged.
-- The answer is the number of counters.
pub record IsCounted (c : Counters) (old new : List ℕ) (answer : ℕ) : Type 0 where
  pub counters : new ≡ take (length old) (counted c) ++ drop answer old
  pub count : answer ≡ length (counted c)
