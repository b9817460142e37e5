-- Outcomes of the steps of a check in the code.
use Rattle.std.specs.Prelude.{◌≡◌, ℕ, true, false, Result, Ok, Err, IfOk}
use Rattle.mq_wire.specs.Family.{Family}
use Rattle.mq_link.specs.Link.{LinkValue}
use Rattle.mq_text.specs.Printing.{OutputState}
use Rattle.mq_walk.specs.declared.capture_fault.CaptureFault.{CaptureFault}
use Rattle.mq_walk.specs.declared.capture_fault.CaptureFault.TheVariants as answer
use Rattle.mq_walk.specs.PlacedPackets.{PlacedPacket}
use Rattle.mq_check.specs.declared.check_terms.CheckTerms.{CheckTerms}
use Rattle.mq_check.specs.Check.{Checked, Outcome, ticked_at, with_packet}
use Rattle.mq_check.specs.Telling.{FindingWriterState, Tells}
use Rattle.mq_check.specs.Wanting.{WantingValue}

-- the check of a link and its outlet
abbrev pub checked_in : LinkValue → WantingValue → Checked
checked_in link queries = record { link = link.state; checking = queries.checking; basis = queries.basis }

-- The step had this outcome and its findings were reported, or a write failed.
pub record Comes {T E : Type 0} (family : Family) (o : Outcome) (link link' : LinkValue) (queries' : WantingValue) (told told' : FindingWriterState) (before after : OutputState)
    (r : Result T E) : Type 0 where
  pub same_config : link'.config ≡ link.config
  pub checked : IfOk r (λ _. checked_in link' queries' ≡ o.checked)
  pub tells : Tells family o.found told told' before after r

-- A check in the code: the link, its outlet, the terms, the output of findings, and the output that it goes to.
pub record CheckState : Type 0 where
  pub link : LinkValue
  pub queries : WantingValue
  pub terms : CheckTerms
  pub told : FindingWriterState
  pub output : OutputState

-- the code has come to this outcome and its findings were reported, unless a write failed
pub record ChecksTo {E : Type 0} (family : Family) (o : Outcome) (old new : CheckState) (r : Result Unit E) : Type 0 where
  pub same_terms : new.terms ≡ old.terms
  pub comes : Comes family o old.link new.link new.queries old.told new.told old.output new.output r

-- the effect of a packet
abbrev pub ChecksPacket : {E : Type 0} → Family → PlacedPacket → (old new : CheckState) → Result Unit E → Type 0
ChecksPacket family packet old new r =
    ChecksTo family (with_packet old.link.config packet.link old.terms.within packet.moment packet.number packet.goes_back packet.frame
    (checked_in old.link old.queries)) old new r

-- the effect of a tick at a moment
abbrev pub ChecksTick : {E : Type 0} → Family → (moment : ℕ) → (old new : CheckState) → Result Unit E → Type 0
ChecksTick family moment old new r =
    ChecksTo family (ticked_at old.link.config old.terms.within moment (checked_in old.link old.queries)) old new r

-- the effect of a packet without a gap before it on a check, which ends with too many pending entries
abbrev pub TakesChecked : Family → PlacedPacket → CheckState → CheckState → Result Unit CaptureFault → Type 0
TakesChecked family packet old new (Ok u) =
    ChecksPacket {E = Unit} family packet old new (Ok u) × (new.queries.checking.waiting.is_full ≡ false)
TakesChecked family packet old new (Err answer.Write) = ChecksPacket {E = Unit} family packet old new (Err tt)
TakesChecked family packet old new (Err (answer.Waiting number)) =
    ChecksPacket {E = Unit} family packet old new (Ok tt) × (new.queries.checking.waiting.is_full ≡ true) × (number ≡ packet.number)
TakesChecked family packet old new (Err (answer.Gap number)) = ⊥
TakesChecked family packet old new (Err (answer.Pcap f)) = ⊥
TakesChecked family packet old new (Err answer.Memory) = ⊥
