-- The effects of queries on an outlet that prints them.
use Rattle.std.specs.Prelude.{◌≡◌, ℕ, Bool, true, ◌||◌, List, Option, Result, Ok, Err, is_ok, is_err, IfOk, map as list_map}
use Rattle.mq_count.specs.Streams.{inner_of, has_failed}
use Rattle.mq_wire.specs.Family.{Family}
use Rattle.mq_link.specs.declared.answers.Received.{Received}
use Rattle.mq_link.specs.Link.{LinkValue}
use Rattle.mq_link.specs.Receive.{Envelope}
use Rattle.mq_link.specs.Run.{Ticks, Receives}
use Rattle.mq_link.specs.Sent.{Outgoing}
use Rattle.mq_text.specs.declared.printing.LineFault.{LineFault}
use Rattle.mq_text.specs.Printing.{Puts}
use Rattle.mq_replay.specs.declared.query_outlet.QueryLines.{QueryLines}
use Rattle.mq_replay.specs.Events.{Sends, event_in, query_events}

-- the effect of a query on the outlet: its event is put at its moment, unless a write failed before
abbrev pub PutsQuery : {W : Type 0} → (W → Option (List ℕ)) → Family → (old : QueryLines W) → Outgoing → (new : QueryLines W) → Result Unit LineFault → Type 0
PutsQuery contents family old query new (Ok u) =
    Puts (contents (inner_of old.writer.now)) (contents (inner_of new.writer.now)) old.buffer.now.items new.buffer.now.items (event_in old.json family old.moment (Sends query)) new.answer
    × (has_failed new.writer.now ≡ has_failed old.writer.now || is_err new.answer)
PutsQuery contents family old query new (Err e) = new ≡ old

pub record TakesQuery {W : Type 0} (contents : W → Option (List ℕ)) (family : Family) (old : QueryLines W) (query : Outgoing) (sent : Bool) (new : QueryLines W) : Type 0 where
  pub same_buffer : new.buffer.ghost_name ≡ old.buffer.ghost_name
  pub same_writer : new.writer.ghost_name ≡ old.writer.ghost_name
  pub same_moment : new.moment ≡ old.moment
  pub same_json : new.json ≡ old.json
  pub sent_is : sent ≡ is_ok new.answer
  pub puts : PutsQuery contents family old query new old.answer

-- A tick of a link, whose messages were put as events: all of them, if no write failed.
pub record TicksPrinting (json : Bool) (family : Family) (now : ℕ) (before after : LinkValue) (old new : Option (List ℕ)) (held left : List ℕ) (r : Result Unit LineFault) : Type 0 where
  pub messages : List Outgoing
  pub answers : List Bool
  pub ticks : Ticks before.config now before.state messages answers after.state
  pub put : Puts old new held left (query_events json family now messages) r
  pub all_sent : IfOk r (λ u. answers ≡ list_map (λ message. true) messages)

-- A datagram of a link, whose messages were put as events, with the link's answer.
pub record ReceivesPrinting (json : Bool) (family : Family) (envelope : Envelope) (bytes : List ℕ) (now : ℕ) (before after : LinkValue) (old new : Option (List ℕ)) (held left : List ℕ) (r : Result Received LineFault) : Type 0 where
  pub answer : Received
  pub messages : List Outgoing
  pub answers : List Bool
  pub receives : Receives before.config envelope bytes now before.state answer messages answers after.state
  pub put : Puts old new held left (query_events json family now messages) r
  pub answer_is : IfOk r (λ received. received ≡ answer)
  pub all_sent : IfOk r (λ received. answers ≡ list_map (λ message. true) messages)
