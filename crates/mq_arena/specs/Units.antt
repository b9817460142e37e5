-- Memory in units of 16 bytes.
use Rattle.std.specs.Prelude.{ℕ, List}
use base.Fraction.{full_share}
use base.Fml.{Fml, fex}
use denote.Array.{Array}
use denote.Builtin.{u128}
use denote.RawPtr.{Ptr, lies_at}

-- n units from p on, each with some number in it
abbrev pub units_at : Ptr → ℕ → Fml
units_at p n = fex (List ℕ) (λ xs. lies_at (Array u128 n) full_share p xs)
