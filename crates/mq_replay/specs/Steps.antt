-- The effects of the parts of a replay on a link and on the text.
use Rattle.std.specs.Prelude.{◌≡◌, ℕ, ◌||◌, List, [], Option, Result, Ok, Err, IfOk, is_err}
use Rattle.mq_pcap.specs.Frame.{carried_in}
use Rattle.mq_link.specs.Link.{LinkValue}
use Rattle.mq_link.specs.State.{LinkState}
use Rattle.mq_text.specs.Printing.{OutputState, Puts}
use Rattle.mq_walk.specs.declared.capture_fault.CaptureFault.{CaptureFault}
use Rattle.mq_walk.specs.declared.capture_fault.CaptureFault.TheVariants as answer
use Rattle.mq_walk.specs.PlacedPackets.{PlacedPacket}
use Rattle.mq_replay.specs.declared.asked.Asked.{Asked}
use Rattle.mq_replay.specs.Report.{Replayed, ticked_at, with_packet}

-- a replay of a link in this state, with nothing written
abbrev pub begun_with : Asked → LinkState → Replayed
begun_with asked link = record { link = link; text = []; asked = asked }

-- A link is in the state of a replay, and the text of the replay was put, unless a write failed.
pub record PutsReplayed {T E : Type 0} (before after : LinkValue) (replayed : Replayed) (old new : Option (List ℕ)) (held left : List ℕ)
    (r : Result T E) : Type 0 where
  pub same_config : after.config ≡ before.config
  pub link : IfOk r (λ _. after.state ≡ replayed.link)
  pub text : Puts old new held left replayed.text r

-- A replay in the code: the link, the request, the text that isn't written yet, and the output.
pub record ReplayState : Type 0 where
  pub link : LinkValue
  pub asked : Asked
  pub held : List ℕ
  pub output : OutputState

-- the code has come to this replay and its lines were put, unless a write failed
pub record ReplaysTo {E : Type 0} (replayed : Replayed) (old new : ReplayState) (r : Result Unit E) : Type 0 where
  pub same_asked : new.asked ≡ old.asked
  pub puts : PutsReplayed old.link new.link replayed old.output.held new.output.held old.held new.held r
  pub failed : new.output.failed ≡ old.output.failed || is_err r

-- the effect of a packet
abbrev pub ReplaysPacket : {E : Type 0} → PlacedPacket → (old new : ReplayState) → Result Unit E → Type 0
ReplaysPacket packet old new r =
    ReplaysTo (with_packet old.link.config packet.moment packet.number (carried_in packet.link packet.frame)
    (begun_with old.asked old.link.state)) old new r

-- the effect of a tick at a moment
abbrev pub ReplaysTick : {E : Type 0} → (moment : ℕ) → (old new : ReplayState) → Result Unit E → Type 0
ReplaysTick moment old new r = ReplaysTo (ticked_at old.link.config moment (begun_with old.asked old.link.state)) old new r

-- the effect of a packet without a gap before it on a replay
abbrev pub TakesReplayed : PlacedPacket → ReplayState → ReplayState → Result Unit CaptureFault → Type 0
TakesReplayed packet old new (Ok u) = ReplaysPacket {E = Unit} packet old new (Ok u)
TakesReplayed packet old new (Err answer.Write) = ReplaysPacket {E = Unit} packet old new (Err tt)
TakesReplayed packet old new (Err (answer.Gap number)) = ⊥
TakesReplayed packet old new (Err (answer.Waiting number)) = ⊥
TakesReplayed packet old new (Err (answer.Pcap f)) = ⊥
TakesReplayed packet old new (Err answer.Memory) = ⊥
