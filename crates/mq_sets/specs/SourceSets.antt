-- A set of sources, as a contract sees it.
use Rattle.std.specs.Prelude.{ℕ, List}

-- its members in ascending order, and the number of members for which memory was reserved when it was made
pub record SetState (K : Type 0) : Type 0 where
  pub members : List K
  pub room : ℕ
