-- Entries of the groups, and those of them for which nothing is done.
use Rattle.mq_link.proofs.Common.{◌≡◌, ℕ, List, [], Option, Some, ScheduledGroup, SentQuery}

abbrev pub GroupEntries : Type 0
GroupEntries = List (ℕ × ScheduledGroup)

-- The work on each entry: the entry that it leaves, if any, and the queries that it sends. It passes over an entry that stays and
-- has nothing to send.
pub record IsPassed (left : ℕ → ScheduledGroup → Option ScheduledGroup) (queries : ℕ × ScheduledGroup → List SentQuery) (e : ℕ × ScheduledGroup) : Type 0 where
  pub stays : left e.0 e.1 ≡ Some e.1
  pub silent : queries e ≡ []
