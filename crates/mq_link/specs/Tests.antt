-- Tests in an order; the first that holds decides.
use Rattle.std.specs.Prelude.{Bool, List, [], ◌∷◌, if◌then◌else◌, Option, None, Some}

-- the name of the first test that holds, if one does
abbrev pub first_named : {X : Type 0} → List (X × Bool) → Option X
first_named [] = None
first_named (test ∷ tests) = if test.1 then Some test.0 else first_named tests
