-- The end of work that writes through a buffer.
use Rattle.std.specs.Prelude.{◌≡◌, ◌⊎◌, ℕ, Bool, true, false, List, [], Result, Err}
use Rattle.std.specs.Io.KnownBytes.{Appends}
use Rattle.mq_text.specs.Printing.{GrowsByBeginning, OutputState}
use Rattle.mq_walk.specs.declared.capture_fault.CaptureFault.{CaptureFault}
use Rattle.mq_walk.specs.declared.capture_fault.CaptureFault.TheVariants as answer
use Rattle.mq_walk.specs.Faults.{is_failed_write}

-- Work had the result r, and the call returns r'. If the work ended by a failed write, nothing changes. Otherwise the held
-- text was written, or a write failed and a prefix of it was written.
abbrev pub FinishesBy : {T : Type 0} → (is_failed : Bool) → (r : Result T CaptureFault) → (old new : OutputState) → (held left : List ℕ) → (r' : Result T CaptureFault) → Type 0
FinishesBy true r old new held left r' = (r' ≡ r) × (new ≡ old) × (left ≡ held)
FinishesBy false r old new held left r' =
    ((r' ≡ r) × (new.failed ≡ old.failed) × (left ≡ []) × Appends old.held new.held held)
    ⊎ ((r' ≡ Err answer.Write) × (new.failed ≡ true) × GrowsByBeginning old.held new.held held)

abbrev pub Finishes : {T : Type 0} → (r : Result T CaptureFault) → (old new : OutputState) → (held left : List ℕ) → (r' : Result T CaptureFault) → Type 0
Finishes r old new held left r' = FinishesBy (is_failed_write r) r old new held left r'
