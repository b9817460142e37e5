-- Two lists side by side.
use Rattle.std.specs.Prelude.{List}

-- the rest of both sides of a merge
pub record Sides (L R : Type 0) : Type 0 where
  pub left : List L
  pub right : List R
