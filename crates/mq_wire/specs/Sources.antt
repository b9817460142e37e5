-- The addresses of a list of sources, in the bytes of a message or borrowed.
use Rattle.std.specs.Prelude.{ℕ, ◌*◌, ◌≤◌, List, length, map}
use Rattle.mq_wire.specs.declared.sources.Held.{Held}
use Rattle.mq_wire.specs.declared.sources.Held.TheVariants.{InPlace, Lent}
use Rattle.mq_wire.specs.Fields.{addresses}

-- the numbers of the addresses
abbrev pub listed_in : {K : Type 0} → ℕ → (K → ℕ) → Held K → List ℕ
listed_in width number (InPlace count bytes) = addresses width count bytes.now
listed_in width number (Lent sources) = map number sources.now

-- the bytes have all of them
abbrev pub IsWholeIn : {K : Type 0} → ℕ → Held K → Type 0
IsWholeIn width (InPlace count bytes) = count * width ≤ length bytes.now
IsWholeIn width (Lent sources) = Unit {0}
