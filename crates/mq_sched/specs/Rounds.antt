-- Properties of rounds.
use Rattle.std.specs.Prelude.{ℕ, ◌+◌, ◌<◌, ◌≤◌, if◌then◌else◌, is_some, length, Bool, true, false, ◌||◌, ◌==◌, List, [], ◌∷◌, IfSome}
use Rattle.std.specs.List.{list_any}
use Rattle.mq_table.specs.Sets.{Set}
use Rattle.mq_sched.specs.Schedule.{ScheduleState}
use Rattle.mq_sched.specs.Sending.{SentQuery, GeneralQuery, GroupQuery, SourcesQuery, group_due, is_due}

-- some query of a round asks for the source
abbrev pub asked_in : List SentQuery → Set
asked_in [] s = false
asked_in (GeneralQuery ∷ queries) s = asked_in queries s
asked_in (GroupQuery group suppress ∷ queries) s = asked_in queries s
asked_in (SourcesQuery group suppress sources ∷ queries) s =
    list_any (λ x. s == x) sources || asked_in queries s

-- a round has a query to the group alone
abbrev pub asks_group : List SentQuery → Bool
asks_group [] = false
asks_group (GeneralQuery ∷ queries) = asks_group queries
asks_group (GroupQuery group suppress ∷ queries) = true
asks_group (SourcesQuery group suppress sources ∷ queries) = asks_group queries

-- nothing is due at or before a moment
pub record IsQuietAt (now : ℕ) (schedule : ScheduleState) : Type 0 where
  pub group : IfSome schedule.group_query (λ q. now < q.due)
  pub sources : IfSome schedule.sources_due (λ due. now < due)

-- something of a schedule is due at or before a moment
abbrev pub is_due_at : ℕ → ScheduleState → Bool
is_due_at now schedule = is_due now (group_due schedule.group_query) || is_due now schedule.sources_due

-- The moments compared to find whether something is due. They are that of the group query, and that of the sources
-- unless the group query is due.
abbrev pub compared_for : ℕ → ScheduleState → ℕ
compared_for now schedule =
    let query = if is_some schedule.group_query then 1 else 0 in
    let sources = if is_some schedule.sources_due then 1 else 0 in
    query + (if is_due now (group_due schedule.group_query) then 0 else sources)

-- no query has more sources than one message holds
abbrev pub AllFit : (per_query : ℕ) → List SentQuery → Type 0
AllFit per_query [] = Unit {0}
AllFit per_query (GeneralQuery ∷ queries) = AllFit per_query queries
AllFit per_query (GroupQuery group suppress ∷ queries) = AllFit per_query queries
AllFit per_query (SourcesQuery group suppress sources ∷ queries) =
    (length sources ≤ per_query) × AllFit per_query queries
