-- The messages that an outlet receives.
use Rattle.std.specs.Prelude.{◌≡◌, ℕ, ◌<◌, ◌≤◌, ◌==◌, Bool, not, if◌then◌else◌, List, [], ◌∷◌, length, map as list_map}
use Rattle.std.specs.List.{count_by}
use Rattle.mq_count.specs.Streams.{counted_on}
use Rattle.mq_wire.specs.Canon.{canon}
use Rattle.mq_wire.specs.Family.{Family}
use Rattle.mq_table.specs.declared.timing.Timing.{Timing}
use Rattle.mq_sched.specs.Sending.{SentQuery, GeneralQuery, GroupQuery, SourcesQuery}
use Rattle.mq_link.specs.Family.{per_query, general_destination}
use Rattle.mq_link.specs.Sent.{Outgoing, fields_sent}
use Rattle.mq_link.specs.State.{one_if}

-- An outlet received these messages and no other, in order, and gave these answers. `takes` states the effect of one
-- message.
abbrev pub HandsOver : {O : Type 0} → (takes : O → Outgoing → Bool → O → Type 0) → O → List Outgoing → List Bool → O → Type 0
HandsOver takes old [] [] new = old ≡ new
HandsOver takes old [] (answer ∷ answers) new = ⊥
HandsOver takes old (message ∷ messages) [] new = ⊥
HandsOver {O = O} takes old (message ∷ messages) (answer ∷ answers) new =
    (between : O) × takes old message answer between × HandsOver takes between messages answers new

-- The own address and the timing in force, which all queries of a router carry.
pub record Terms : Type 0 where
  pub own : ℕ
  pub timing : Timing

-- the timing in force has the configured intervals, since no query carries them
pub record KeepsIntervals (configured timing : Timing) : Type 0 where
  pub response : timing.response_interval ≡ configured.response_interval
  pub last_member : timing.last_member_interval ≡ configured.last_member_interval

-- a query as the outlet receives it
abbrev pub outgoing_on : Family → Terms → SentQuery → Outgoing
outgoing_on family terms query =
    let fields = fields_sent terms.timing query in
    record {
      to = if fields.group == 0 then general_destination family else fields.group;
      query = fields;
      bytes = canon family terms.own fields;
    }

-- the number of sources that a query names
abbrev pub named_in : SentQuery → ℕ
named_in GeneralQuery = 0
named_in (GroupQuery group suppress) = 0
named_in (SourcesQuery group suppress sources) = length sources

-- one message holds the query
abbrev pub FitsOne : Family → SentQuery → Type 0
FitsOne family query = named_in query ≤ per_query family

-- An outlet, and the number of messages that it has answered by true and by false.
pub record Tally (O : Type 0) : Type 0 where
  pub outlet : O
  pub sent : ℕ
  pub unsent : ℕ

-- The effect of one query. If one message holds it, the outlet receives it and its answer is counted. Otherwise the
-- outlet does not receive it, and nothing differs.
pub record HandsOne {O : Type 0} (takes : O → Outgoing → Bool → O → Type 0) (family : Family) (terms : Terms) (query : SentQuery) (old new : Tally O) : Type 0 where
  pub handed : FitsOne family query
      → (answer : Bool) × takes old.outlet (outgoing_on family terms query) answer new.outlet
      × (new.sent ≡ counted_on old.sent (one_if answer)) × (new.unsent ≡ counted_on old.unsent (one_if (not answer)))
  pub kept : per_query family < named_in query → new ≡ old

-- The effect of several queries. The outlet receives them in order, on the same terms, and all answers are counted.
pub record HandsAll {O : Type 0} (takes : O → Outgoing → Bool → O → Type 0) (family : Family) (terms : Terms) (queries : List SentQuery) (old new : Tally O) : Type 0 where
  pub answers : List Bool
  pub handed : HandsOver takes old.outlet (list_map (outgoing_on family terms) queries) answers new.outlet
  pub sent : new.sent ≡ counted_on old.sent (count_by (λ b. b) answers)
  pub unsent : new.unsent ≡ counted_on old.unsent (count_by not answers)
