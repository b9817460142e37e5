-- Addresses that a query asks for, found in their order among the sources of a group.
use Rattle.std.specs.Prelude.{ℕ, Bool, false, ◌==◌, ◌&&◌, if◌then◌else◌, List, [], ◌∷◌, Some}
use Rattle.mq_table.specs.declared.sources.Source.{Source}
use Rattle.mq_table.specs.Group.{is_ahead, deadline_of}
use Rattle.mq_table.specs.Retransmissions.{source_asked}

-- the first of the addresses has this number
abbrev pub is_first : {K : Type 0} → (K → ℕ) → List K → ℕ → Bool
is_first number [] n = false
is_first number (x ∷ xs) n = number x == n

-- the source, with the effect of the query on its timer if it is among those asked for
abbrev pub source_if_asked : {K : Type 0} → (K → ℕ) → (limit count : ℕ) → (ℕ → Bool) → Source K → Source K
source_if_asked number limit count asked x =
    let timer = if asked (number x.address) then source_asked limit count x.timer else x.timer in
    record { address = x.address; timer = timer }

-- the source is asked for, and its timer is above the limit
abbrev pub is_asked_above : {K : Type 0} → (K → ℕ) → (limit : ℕ) → (ℕ → Bool) → Source K → Bool
is_asked_above number limit asked x = asked (number x.address) && is_ahead limit (deadline_of (Some x.timer))
