-- Runs of a link: ticks and datagrams, one after the other, with the outlet's answers.
use Rattle.std.specs.Prelude.{◌≡◌, ℕ, Bool, List, [], ◌∷◌, length, map as list_map, Option, None, Some}
use Rattle.mq_link.specs.declared.answers.Received.{Received}
use Rattle.mq_link.specs.Configuration.{Configuration}
use Rattle.mq_link.specs.Counters.{count_answers}
use Rattle.mq_link.specs.State.{LinkState, link_at}
use Rattle.mq_link.specs.Tick.{Step, tick_of}
use Rattle.mq_link.specs.Receive.{Envelope, receipt_of}
use Rattle.mq_link.specs.Sent.{Outgoing, outgoing_of}

-- the state of a step, with the outlet's answers counted
abbrev pub answered : List Bool → Step → LinkState
answered answers step =
    let state = step.state in
    record state { counters = count_answers answers state.counters }

-- The outlet receives these messages, in order, and answers each. With its answers counted, this is the state.
pub record HandsOut (config : Configuration) (step : Step) (messages : List Outgoing) (answers : List Bool) (after : LinkState) : Type 0 where
  pub handed : messages ≡ outgoing_of config step
  pub answered_each : length answers ≡ length messages
  pub leaves : after ≡ answered answers step

-- a tick at a moment has these effects
abbrev pub Ticks : Configuration → (now : ℕ) → (before : LinkState) → List Outgoing → List Bool → (after : LinkState) → Type 0
Ticks config now before messages answers after = HandsOut config (tick_of config now before) messages answers after

-- a datagram at a moment has these effects, and this answer
pub record Receives (config : Configuration) (envelope : Envelope) (bytes : List ℕ) (now : ℕ) (before : LinkState)
    (answer : Received) (messages : List Outgoing) (answers : List Bool) (after : LinkState) : Type 0 where
  pub answer_is : answer ≡ (receipt_of config envelope bytes now before).answer
  pub hands_out : HandsOut config (receipt_of config envelope bytes now before).step messages answers after

-- an event of a link
pub data Event : Type 0 where
  Tick : (now : ℕ) → Event
  Datagram : (envelope : Envelope) (bytes : List ℕ) (now : ℕ) → Event

-- the step of an event
abbrev pub step_of : Configuration → Event → LinkState → Step
step_of config (Tick now) before = tick_of config now before
step_of config (Datagram envelope bytes now) before = (receipt_of config envelope bytes now before).step

abbrev pub answer_to : Configuration → Event → LinkState → Option Received
answer_to config (Tick now) before = None
answer_to config (Datagram envelope bytes now) before = Some (receipt_of config envelope bytes now before).answer

-- An event and its effects: the answer to a datagram, the messages and answers of the outlet, and the state.
pub record Happening : Type 0 where
  pub event : Event
  pub answer : Option Received
  pub messages : List Outgoing
  pub answers : List Bool
  pub after : LinkState

pub record Happens (config : Configuration) (before : LinkState) (h : Happening) : Type 0 where
  pub answer_is : h.answer ≡ answer_to config h.event before
  pub hands_out : HandsOut config (step_of config h.event before) h.messages h.answers h.after

-- these happenings follow one another from a state on
abbrev pub RunFrom : Configuration → LinkState → List Happening → Type 0
RunFrom config before [] = Unit {0}
RunFrom config before (h ∷ hs) = Happens config before h × RunFrom config h.after hs

-- a run of a link that is made at a moment
abbrev pub Run : Configuration → (start : ℕ) → List Happening → Type 0
Run config start happenings = RunFrom config (link_at config start) happenings

-- the events of happenings, with the outlet's answers
abbrev pub events_of : List Happening → List (Event × List Bool)
events_of [] = []
events_of (h ∷ hs) = (h.event, h.answers) ∷ events_of hs

-- the events of happenings alone
abbrev pub events_alone : List Happening → List Event
events_alone happenings = list_map (λ h. h.event) happenings
