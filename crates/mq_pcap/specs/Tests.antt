-- Tests in order: the first that holds decides.
use Rattle.std.specs.Prelude.{Bool, if◌then◌else◌, List, [], ◌∷◌}

-- the result of the first test that holds, or the default
abbrev pub first_that_holds : {X : Type 0} → List (Bool × X) → X → X
first_that_holds [] otherwise = otherwise
first_that_holds (test ∷ tests) otherwise = if test.0 then test.1 else first_that_holds tests otherwise
