-- IPv4 addresses as text.
use Rattle.std.specs.Prelude.{ℕ, List, [], ◌∷◌, ◌++◌, codes}
use Rattle.std.specs.Fmt.{decimal}
use Rattle.std.specs.Int.{w32, to_be_bytes}

-- decimal numbers with dots between them
abbrev pub dotted : List ℕ → List ℕ
dotted [] = []
dotted (octet ∷ []) = decimal octet
dotted (octet ∷ next ∷ octets) = decimal octet ++ codes "." ++ dotted (next ∷ octets)

-- an IPv4 address: its four octets, as 10.0.0.1
abbrev pub v4_text : ℕ → List ℕ
v4_text address = dotted (to_be_bytes w32 address)
