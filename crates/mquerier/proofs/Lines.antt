-- Lines that are put in parts.
use Rattle.mquerier.proofs.Common.{◌≡◌, ◌++◌, codes, ℕ, List, refl, append_assoc, arith, decimal}
use Rattle.std.proofs.Common.{◌<◌, zero, suc}
use Rattle.mquerier.specs.Failures.{dropped_line, repeated_line}

pub in_three : (x a b c : List ℕ) → ((x ++ a) ++ b) ++ c ≡ x ++ ((a ++ b) ++ c)
in_three x a b c = simp append_assoc

pub in_six : (x a b c d e f : List ℕ) → (((((x ++ a) ++ b) ++ c) ++ d) ++ e) ++ f ≡ x ++ (((((a ++ b) ++ c) ++ d) ++ e) ++ f)
in_six x a b c d e f = simp append_assoc

-- the line of some packets that came again
pub repeated_some : (repeated : ℕ) → 0 < repeated
    → repeated_line repeated ≡ (codes "mquerier: " ++ decimal repeated) ++ codes " packets that came again are left out\n"
repeated_some zero some = absurd (omega (arith, some))
repeated_some (suc n) some = refl

-- the line of some dropped packets
pub dropped_some : (dropped : ℕ) → 0 < dropped
    → dropped_line dropped ≡ (codes "mquerier: the file records " ++ decimal dropped) ++ codes " dropped packets\n"
dropped_some zero some = absurd (omega (arith, some))
dropped_some (suc n) some = refl
