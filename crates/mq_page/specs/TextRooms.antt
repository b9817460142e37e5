-- The bytes that a writer passed over, in a log of their pieces.
use Rattle.std.specs.Prelude.{ℕ, List, flat_map}
use Rattle.arrayvec.specs.ArrayVec.{ArrayVec}

abbrev pub passed_in : List (ArrayVec ℕ × ℕ) → List ℕ
passed_in log = flat_map (λ (e : ArrayVec ℕ × ℕ). e.0.items) log
