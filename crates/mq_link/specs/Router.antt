-- The inside of a link, as a contract sees it, and the effects of its steps.
use Rattle.std.specs.Prelude.{◌≡◌, ℕ, []}
use Rattle.mq_sched.specs.Sending.{SentQuery}
use Rattle.mq_sched.specs.Sink.{Sends}
use Rattle.mq_link.specs.declared.answers.Received.{Received}
use Rattle.mq_link.specs.declared.storage.Storage.{Storage}
use Rattle.mq_link.specs.Configuration.{IsWithinRoom}
use Rattle.mq_link.specs.Counters.{Counters, Verdict, count_verdicts}
use Rattle.mq_link.specs.Link.{LinkValue}
use Rattle.mq_link.specs.Receive.{Receipt, taken}
use Rattle.mq_link.specs.Record.{Outcome, Outcomes, Setting}
use Rattle.mq_link.specs.Sound.{AreSound}
use Rattle.mq_link.specs.State.{Groups, LinkState}
use Rattle.mq_link.specs.Storage.{put_by_rows}
use Rattle.mq_link.specs.Tick.{Step}

-- The inside of a link. It has the configuration, the election and the last moment, the groups and the counters.
-- `spent` counts its comparisons, and `moved` the list items that it moved. `put_by` is the reserve of moves for the
-- next packing of its rows of sources.
pub record RouterValue : Type 0 where
  pub at : Setting
  pub groups : Groups
  pub counters : Counters
  pub spent : ℕ
  pub moved : ℕ
  pub put_by : ℕ

-- the inside of a link, as it is stored
abbrev pub router_of : {K A : Type 0} → Setting → Storage K A → Counters → RouterValue
router_of at storage counters =
    record {
      at = at;
      groups = storage.held.groups;
      counters = counters;
      spent = storage.meter;
      moved = storage.moves;
      put_by = put_by_rows storage.held;
    }

abbrev pub state_of : RouterValue → LinkState
state_of r = record { groups = r.groups; election = r.at.election; last = r.at.now; counters = r.counters }

-- the link around it
abbrev pub link_of : RouterValue → LinkValue
link_of r = record { config = r.at.config; state = state_of r; spent = r.spent; moved = r.moved; changed = [] }

-- the step with this state and without queries
abbrev pub silent_step : LinkState → Step
silent_step state = record { state = state; queries = []; timing = state.election.timing }

-- A step leaves this state; the configuration stays.
pub record Leaves (state : LinkState) (old new : RouterValue) : Type 0 where
  pub config : new.at.config ≡ old.at.config
  pub state_is : state_of new ≡ state

-- A statement has this outcome: it returns its verdict, leaves its groups, and a sink takes its queries.
pub record HasOutcome {S : Type 0} (takes : S → SentQuery → S → Type 0) (outcome : Outcome) (verdict : Verdict) (left : Groups) (old new : S) : Type 0 where
  pub verdict_is : verdict ≡ outcome.verdict
  pub groups_are : left ≡ outcome.groups
  pub sent : Sends takes old outcome.queries new

-- Some records have these outcomes: they are answered and counted, leave these groups, and a sink takes their queries.
pub record HaveOutcomes {S : Type 0} (takes : S → SentQuery → S → Type 0) (outcomes : Outcomes) (answer : Received) (left : Groups) (before after : Counters) (old new : S) : Type 0 where
  pub answer_is : answer ≡ taken outcomes.verdicts
  pub groups_are : left ≡ outcomes.groups
  pub counters_are : after ≡ count_verdicts outcomes.verdicts before
  pub sent : Sends takes old outcomes.queries new

-- A router has done this step, and a sink has taken its queries.
pub record HasStep {S : Type 0} (takes : S → SentQuery → S → Type 0) (step : Step) (before after : RouterValue) (old new : S) : Type 0 where
  pub leaves : Leaves step.state before after
  pub sent : Sends takes old step.queries new

-- A router has done the step of a datagram, with this answer.
pub record HasReceipt {S : Type 0} (takes : S → SentQuery → S → Type 0) (receipt : Receipt) (answer : Received) (before after : RouterValue) (old new : S) : Type 0 where
  pub step : HasStep takes receipt.step before after old new
  pub answer_is : answer ≡ receipt.answer

-- The router may hold the groups, and there is room for what the configuration allows.
pub record IsStored {K A : Type 0} (at : Setting) (storage : Storage K A) : Type 0 where
  pub sound : AreSound at storage.held.groups
  pub within : IsWithinRoom at.config
  pub group_room : storage.held.order.room ≡ at.config.room.groups
  pub source_room : storage.held.source_room ≡ at.config.room.sources
