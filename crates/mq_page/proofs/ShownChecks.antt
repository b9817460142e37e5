-- The shown text of a check.
use Rattle.mq_page.proofs.Common.{◌≡◌, ℕ, [], Err, refl, drop-nil}
use Rattle.std.specs.Prelude.{Bool, true, false, if◌then◌else◌, List, drop, Result, Ok}
use Rattle.mq_walk.specs.declared.capture_fault.CaptureFault.{CaptureFault}
use Rattle.mq_check.specs.declared.totals.Totals.{Totals}
use Rattle.mq_check.specs.Basis.{is_unseen}
use Rattle.mq_page.specs.Faults.{shown}

-- the shown part is the part of what is shown
pub drop_shown : (skip : ℕ) (r : Result Totals CaptureFault) (text : List ℕ) → drop skip (shown r text) ≡ shown r (drop skip text)
drop_shown skip (Err f) text = refl
drop_shown skip (Ok totals) text = by_test (is_unseen totals.basis)
  where
    by_test : (b : Bool) → drop skip (if b then [] else text) ≡ (if b then [] else drop skip text)
    by_test true = drop-nil {A = ℕ} skip
    by_test false = refl
