-- Terms of the laws of a link.
use Rattle.std.specs.Prelude.{◌≡◌, ◌↔◌, ℕ, ◌+◌, Bool, true, false, List, [], ◌∷◌, length, Option, Some}
use Rattle.std.specs.FinMap as map
use Rattle.mq_count.specs.Streams.{counted_on}
use Rattle.mq_wire.specs.declared.message.Message.{Message}
use Rattle.mq_wire.specs.declared.message.Message.TheVariants.{Query as QueryMessage, OldReport, Leave as LeaveMessage, Report as ReportMessage}
use Rattle.mq_table.specs.Table.{GroupChange}
use Rattle.mq_sched.specs.Schedule.{ScheduledGroup}
use Rattle.mq_link.specs.declared.answers.DropReason.{DropReason}
use Rattle.mq_link.specs.declared.answers.Received.{Received}
use Rattle.mq_link.specs.declared.answers.Received.TheVariants.{Taken, Dropped}
use Rattle.mq_link.specs.Counters.{Counters, no_counts, counted_at, reason_number}
use Rattle.mq_link.specs.State.{Groups, LinkState, with_group}
use Rattle.mq_link.specs.Tick.{Step}
use Rattle.mq_link.specs.Record.{Outcome, Setting, changed_by, after_sending}
use Rattle.mq_link.specs.Receive.{Receipt}
use Rattle.mq_link.specs.Run.{Happening}

-- a state without its counters
abbrev pub uncounted : LinkState → LinkState
uncounted state = record state { counters = no_counts }

-- the state after each of these happenings has this property
abbrev pub AllAfter : (LinkState → Type 0) → List Happening → Type 0
AllAfter P [] = Unit {0}
AllAfter P (h ∷ hs) = P h.after × AllAfter P hs

-- a record that changes no group and sends nothing
pub record ChangesNothing (before : Groups) (outcome : Outcome) : Type 0 where
  pub groups : outcome.groups ≡ before
  pub queries : outcome.queries ≡ []

-- these states differ in their counters alone
abbrev pub DifferInCounters : LinkState → LinkState → Type 0
DifferInCounters a b = uncounted a ≡ uncounted b

-- the groups differ in one of them alone
abbrev pub DifferAt : ℕ → Groups → Groups → Type 0
DifferAt group before after = (other : ℕ) → (other ≡ group → ⊥) → map.get after other ≡ map.get before other

-- A test decides whether a name is given. The name is given exactly if the test holds, and none before it.
abbrev pub IsGivenWhere : {X : Type 0} → Option X → X → (earlier : Bool) → (test : Bool) → Type 0
IsGivenWhere given name earlier test = (given ≡ Some name) ↔ ((earlier ≡ false) × (test ≡ true))

-- A datagram has the effect of the tick at its moment, except for the counters.
pub record IsOnlyCounted (tick : Step) (receipt : Receipt) : Type 0 where
  pub state : DifferInCounters receipt.step.state tick.state
  pub queries : receipt.step.queries ≡ tick.queries

-- The effect of a datagram on the counters, by its answer.
pub record CountsDropped (reason : DropReason) (before after : Counters) : Type 0 where
  pub dropped : after.dropped ≡ counted_on before.dropped 1
  pub by_reason : after.dropped_by ≡ counted_at reason_number reason 1 before.dropped_by
  pub applied : after.applied ≡ before.applied
  pub ignored : after.ignored ≡ before.ignored
  pub refused : after.refused ≡ before.refused
  pub by_name : after.refused_by ≡ before.refused_by

pub record CountsTaken (applied_records ignored_records refused_records : ℕ) (before after : Counters) : Type 0 where
  pub dropped : after.dropped ≡ before.dropped
  pub by_reason : after.dropped_by ≡ before.dropped_by
  pub applied : after.applied ≡ counted_on before.applied applied_records
  pub ignored : after.ignored ≡ counted_on before.ignored ignored_records
  pub refused : after.refused ≡ counted_on before.refused refused_records

abbrev pub CountsAnswer : Received → Counters → Counters → Type 0
CountsAnswer (Dropped reason) before after = CountsDropped reason before after
CountsAnswer (Taken applied ignored refused) before after = CountsTaken applied ignored refused before after

-- the number of records of a message; an older Report, a Leave or a Done counts as one
abbrev pub records_in : Message ℕ → ℕ
records_in (QueryMessage query) = 0
records_in (OldReport version group) = 1
records_in (LeaveMessage group) = 1
records_in (ReportMessage records) = length records

abbrev pub CountsRecords : ℕ → Received → Type 0
CountsRecords n (Dropped reason) = Unit {0}
CountsRecords n (Taken applied ignored refused) = applied + ignored + refused ≡ n

-- a state without the outlet's answers
abbrev pub unanswered : LinkState → LinkState
unanswered state =
    let c = state.counters in
    record state { counters = record c { sent = 0; unsent = 0 } }

-- States that differ in sent and unsent alone, whose sum is the same, as far as a u64 has room.
pub record DifferInAnswers (a b : LinkState) : Type 0 where
  pub state : unanswered a ≡ unanswered b
  pub together : counted_on a.counters.sent a.counters.unsent ≡ counted_on b.counters.sent b.counters.unsent

-- An event has the same effects in two runs, except for the outlet's answers.
pub record HappensAlike (a b : Happening) : Type 0 where
  pub event : a.event ≡ b.event
  pub answer : a.answer ≡ b.answer
  pub messages : a.messages ≡ b.messages
  pub after : DifferInAnswers a.after b.after

abbrev pub HappenAlike : List Happening → List Happening → Type 0
HappenAlike [] [] = Unit {0}
HappenAlike [] (b ∷ bs) = ⊥
HappenAlike (a ∷ others) [] = ⊥
HappenAlike (a ∷ others) (b ∷ bs) = HappensAlike a b × HappenAlike others bs

-- the groups after a change, and the group that it changes
abbrev pub would_be : Setting → ℕ → Groups → GroupChange → ScheduledGroup
would_be at group groups change = after_sending at (changed_by at group groups change)

abbrev pub would_leave : Setting → ℕ → Groups → GroupChange → Groups
would_leave at group groups change = with_group groups group (would_be at group groups change)
