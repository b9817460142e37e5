-- The room of a vector that was filled, and results after the memory was granted.
use Rattle.std.proofs.Common.{◌≡◌, ℕ, ◌≤◌, List, length, true, Result, Err, refl, ap, ◌∙◌, arith}
use Rattle.std.specs.Prelude.{replicate}
use Rattle.std.proofs.lemmas.List.{length-replicate}
use Rattle.mq_arena.specs.Vectors.{Takes}
use Rattle.mq_walk.specs.declared.capture_fault.CaptureFault.{CaptureFault}
use Rattle.mq_walk.specs.declared.capture_fault.CaptureFault.TheVariants as answer
use Rattle.mq_walk.specs.Faults.{is_granted}
use Rattle.mq_walk.specs.PuttingReports.{counted}

-- a slice of a vector of `size` zeros has that many items
pub room_of_filled : (size : ℕ) (slice items : List ℕ) → slice ≡ items → items ≡ replicate size 0 → size ≤ length slice
room_of_filled size slice items same filled =
    let whole : length slice ≡ size = ap (λ (xs : List ℕ). length xs) same ∙ ap (λ (xs : List ℕ). length xs) filled ∙ length-replicate size 0 in
    omega (arith, whole)

-- granted memory stays granted with a result that isn't refused memory
pub taken_at : {T : Type 0} {bytes old new : ℕ} (r : Result T CaptureFault) → (r ≡ Err answer.Memory → ⊥) → Takes bytes old new true →
    Takes bytes old new (is_granted r)
taken_at (Err answer.Memory) other takes = absurd (other refl)
taken_at _ other takes = takes

-- another value is refused memory only if the result is
pub memory_so : {S T : Type 0} (value : T) (r : Result S CaptureFault) → counted value r ≡ Err answer.Memory → r ≡ Err answer.Memory
memory_so value (Err answer.Memory) is = refl
memory_so value _ is = absurd (cc is)
