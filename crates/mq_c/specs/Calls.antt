-- The calls of an object.
use Rattle.std.specs.Prelude.{◌≡◌, ℕ, ◌<◌, ◌≤◌, ◌^◌, Bool, true, false, ◌&&◌, List, nat_le}
use Rattle.mq_link.specs.declared.answers.Received.{Received}
use Rattle.mq_link.specs.declared.answers.Received.TheVariants.{Taken, Dropped}
use Rattle.mq_link.specs.Link.{LinkValue}
use Rattle.mq_link.specs.Receive.{Envelope}
use Rattle.mq_link.specs.Run.{Ticks, Receives}
use Rattle.mq_link.specs.Sent.{Outgoing}
use Rattle.mq_c.specs.declared.forms.Answer.{Answer}
use Rattle.mq_c.specs.Queries.{Outbox, outbox_at, Puts}
use Rattle.mq_c.specs.Statuses.{all_done, moment, workspace, reason_number}

-- The answer of a call that did nothing. The moment is out of range, or no workspace suffices.
abbrev pub refused : (status : ℕ) → Answer
refused status = record { status = status; dropped = 0; applied = 0; ignored = 0; refused = 0; sent = 0; unsent = 0; written = 0 }

abbrev pub refused_moment : Answer
refused_moment = refused moment

abbrev pub refused_workspace : Answer
refused_workspace = refused workspace

-- the answers to a tick and to a datagram, with the outbox afterwards
abbrev pub answer_to_tick : Outbox → Answer
answer_to_tick box =
    record { status = all_done; dropped = 0; applied = 0; ignored = 0; refused = 0; sent = box.sent; unsent = box.unsent; written = box.written }

abbrev pub answer_to : Received → Outbox → Answer
answer_to (Taken applied ignored refused) box =
    record { status = all_done; dropped = 0; applied = applied; ignored = ignored; refused = refused; sent = box.sent; unsent = box.unsent; written = box.written }
answer_to (Dropped reason) box =
    record { status = all_done; dropped = reason_number reason; applied = 0; ignored = 0; refused = 0; sent = box.sent; unsent = box.unsent; written = box.written }

-- A tick, whose queries were written to the memory.
pub record TicksInto (width now : ℕ) (before after : LinkValue) (old new : List ℕ) (answer : Answer) : Type 0 where
  pub messages : List Outgoing
  pub answers : List Bool
  pub ticks : Ticks before.config now before.state messages answers after.state
  pub box : Outbox
  pub puts : Puts width (outbox_at old) messages answers box
  pub bytes_are : new ≡ box.bytes
  pub answer_is : answer ≡ answer_to_tick box

-- A datagram, whose queries were written to the memory.
pub record ReceivesInto (width : ℕ) (envelope : Envelope) (bytes : List ℕ) (now : ℕ) (before after : LinkValue) (old new : List ℕ) (answer : Answer) : Type 0 where
  pub received : Received
  pub messages : List Outgoing
  pub answers : List Bool
  pub receives : Receives before.config envelope bytes now before.state received messages answers after.state
  pub box : Outbox
  pub puts : Puts width (outbox_at old) messages answers box
  pub bytes_are : new ≡ box.bytes
  pub answer_is : answer ≡ answer_to received box

-- A call that did nothing, with this answer.
pub record IsRefusedAs (refused : Answer) (before after : LinkValue) (old new : List ℕ) (answer : Answer) : Type 0 where
  pub link : after ≡ before
  pub memory : new ≡ old
  pub answer_is : answer ≡ refused

-- the call is done: its moment is in range, and its workspace suffices
abbrev pub is_done : (suffices : Bool) → (now : ℕ) → Bool
is_done suffices now = nat_le now (2 ^ 53) && suffices

-- A call at a moment, with or without a workspace that suffices. If the moment is out of range, or no workspace
-- suffices, it does nothing.
pub record CallsAt (suffices : Bool) (now : ℕ) (calls : Type 0) (before after : LinkValue) (old new : List ℕ) (answer : Answer) : Type 0 where
  pub done : now ≤ 2 ^ 53 → suffices ≡ true → calls × (after.config ≡ before.config)
  pub too_late : 2 ^ 53 < now → IsRefusedAs refused_moment before after old new answer
  pub no_workspace : now ≤ 2 ^ 53 → suffices ≡ false → IsRefusedAs refused_workspace before after old new answer
