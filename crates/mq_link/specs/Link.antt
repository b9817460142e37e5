-- A link, as a contract sees it, and the effects of its calls.
use Rattle.std.specs.Prelude.{◌≡◌, ℕ, List, Bool}
use Rattle.mq_link.specs.declared.answers.Received.{Received}
use Rattle.mq_link.specs.Configuration.{Configuration}
use Rattle.mq_link.specs.Handing.{HandsOver}
use Rattle.mq_link.specs.Receive.{Envelope}
use Rattle.mq_link.specs.Run.{Ticks, Receives}
use Rattle.mq_link.specs.Sent.{Outgoing}
use Rattle.mq_link.specs.State.{LinkState}

-- A link: its configuration, its state, and the costs of its calls. `spent` counts their comparisons, and `moved` the
-- list items that they moved. `changed` has the addresses of the groups that its last call changed; a link without a
-- workspace of its own has none.
pub record LinkValue : Type 0 where
  pub config : Configuration
  pub state : LinkState
  pub spent : ℕ
  pub moved : ℕ
  pub changed : List ℕ

-- A tick at a moment, with the messages that the outlet received and its answers.
pub record HasTicked {O : Type 0} (takes : O → Outgoing → Bool → O → Type 0) (now : ℕ) (before after : LinkValue) (old new : O) : Type 0 where
  pub messages : List Outgoing
  pub answers : List Bool
  pub ticks : Ticks before.config now before.state messages answers after.state
  pub handed : HandsOver takes old messages answers new

-- A datagram at a moment, with its answer, the messages that the outlet received and the outlet's answers.
pub record HasReceived {O : Type 0} (takes : O → Outgoing → Bool → O → Type 0) (envelope : Envelope) (bytes : List ℕ) (now : ℕ) (answer : Received) (before after : LinkValue) (old new : O) : Type 0 where
  pub messages : List Outgoing
  pub answers : List Bool
  pub receives : Receives before.config envelope bytes now before.state answer messages answers after.state
  pub handed : HandsOver takes old messages answers new

-- A call that did nothing.
pub record IsUntouched {O : Type 0} (before after : LinkValue) (old new : O) : Type 0 where
  pub link : after ≡ before
  pub outlet : new ≡ old
