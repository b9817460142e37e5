-- A run of a link over events.
use Rattle.std.specs.Prelude.{◌≡◌, ℕ, List, [], ◌∷◌, ◌++◌, Bool}
use Rattle.mq_link.specs.declared.events.Event.{Event as Handed}
use Rattle.mq_link.specs.declared.events.Event.TheVariants.{Tick as HandedTick, Datagram as HandedDatagram}
use Rattle.mq_link.specs.Handing.{HandsOver}
use Rattle.mq_link.specs.Link.{LinkValue}
use Rattle.mq_link.specs.Receive.{Envelope}
use Rattle.mq_link.specs.Run.{Event, Tick, Datagram, Happening, RunFrom, events_alone}
use Rattle.mq_link.specs.Sent.{Outgoing}
use Rattle.mq_link.specs.State.{LinkState}

-- an event as the definitions have it; `envelope_of` reads its envelope
abbrev pub event_of : {F K E : Type 0} → (E → Envelope) → Handed F K E → Event
event_of envelope_of (HandedTick now) = Tick now
event_of envelope_of (HandedDatagram envelope body now) = Datagram (envelope_of envelope) body.now now

-- the moment of an event
abbrev pub moment_at : {F K E : Type 0} → Handed F K E → ℕ
moment_at (HandedTick now) = now
moment_at (HandedDatagram envelope body now) = now

-- the state after these happenings
abbrev pub left_by : LinkState → List Happening → LinkState
left_by before [] = before
left_by before (h ∷ hs) = left_by h.after hs

-- all messages that the outlet received, in order
abbrev pub messages_of : List Happening → List Outgoing
messages_of [] = []
messages_of (h ∷ hs) = h.messages ++ messages_of hs

-- all answers of the outlet, in order
abbrev pub answers_of : List Happening → List Bool
answers_of [] = []
answers_of (h ∷ hs) = h.answers ++ answers_of hs

-- A run of these events on a link, with what happened at each. The link afterwards has the same configuration. The
-- outlet received the messages of all happenings, in order, and no other.
pub record HasRun {O : Type 0} (takes : O → Outgoing → Bool → O → Type 0) (events : List Event) (before after : LinkValue) (old new : O) : Type 0 where
  pub happenings : List Happening
  pub events_are : events_alone happenings ≡ events
  pub runs : RunFrom before.config before.state happenings
  pub leaves : after.state ≡ left_by before.state happenings
  pub same_config : after.config ≡ before.config
  pub handed : HandsOver takes old (messages_of happenings) (answers_of happenings) new
