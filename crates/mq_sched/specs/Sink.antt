-- The queries that a sink receives.
use Rattle.std.specs.Prelude.{◌≡◌, ℕ, List, [], ◌∷◌, map}
use Rattle.mq_sched.specs.declared.sinks.QueryParts.{QueryParts}
use Rattle.mq_sched.specs.declared.sinks.QueryParts.TheVariants.{General, Group, Sources}
use Rattle.mq_sched.specs.Sending.{SentQuery, GeneralQuery, GroupQuery, SourcesQuery}

-- the query with these parts
abbrev pub query_of : {K : Type 0} → (K → ℕ) → QueryParts K → SentQuery
query_of number General = GeneralQuery
query_of number (Group group suppress) = GroupQuery (number group) suppress
query_of number (Sources group suppress sources) = SourcesQuery (number group) suppress (map number sources.now)

-- a sink has received these queries and no other, in order; `takes` states the effect of one call
abbrev pub Sends : {S : Type 0} → (takes : S → SentQuery → S → Type 0) → S → List SentQuery → S → Type 0
Sends takes old [] new = old ≡ new
Sends {S = S} takes old (query ∷ queries) new = (between : S) × takes old query between × Sends takes between queries new

-- to send the queries `before` to the sink `old`, it is enough to send `after` to `new`
abbrev pub SendsOn : {S : Type 0} → (takes : S → SentQuery → S → Type 0)
    → (old : S) (before : List SentQuery) (new : S) (after : List SentQuery) → Type 0
SendsOn {S = S} takes old before new after = (end : S) → Sends takes new after end → Sends takes old before end
