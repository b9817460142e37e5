-- The ranges of groups that hosts may ask for. An administrator gives them (RFC 3376 and RFC 3810 have none).
use Rattle.std.specs.Prelude.{ℕ, ◌*◌, ◌-◌, ◌/◌, ◌^◌, ◌==◌, not, Bool, List, [], ◌∷◌, Option, None, Some, if◌then◌else◌, refl}
use Rattle.std.specs.List.{list_any}
use Rattle.std.specs.Option.{unwrap_or}
use Rattle.std.specs.Coded.{Coded, code_by, coded×, coded_ℕ, coded_bool}
use Rattle.mq_wire.specs.Family.{Family, address_width}
use Rattle.mq_link.specs.declared.ranges.GroupRange.{GroupRange}

-- The group has the first bits of the range's address, as many as its length says. A greater length is that of one
-- address, which has `bits` bits.
abbrev pub is_in_range : (bits : ℕ) → GroupRange → (group : ℕ) → Bool
is_in_range bits range group = let others = 2 ^ (bits - range.length) in group / others == range.address / others

-- the rule of the first range that has the group
abbrev pub rule_of : (bits : ℕ) → List GroupRange → (group : ℕ) → Option Bool
rule_of bits [] group = None
rule_of bits (range ∷ ranges) group = if is_in_range bits range group then Some range.allows else rule_of bits ranges group

-- some range allows its groups
abbrev pub any_allows : List GroupRange → Bool
any_allows ranges = list_any (λ range. range.allows) ranges

-- Hosts may ask for the group. The first range that has it decides. A group that no range has may be asked for, unless
-- some range allows its groups: then only these may be.
abbrev pub is_allowed_by : Family → List GroupRange → (group : ℕ) → Bool
is_allowed_by family ranges group = unwrap_or (rule_of (8 * address_width family) ranges group) (not (any_allows ranges))

-- the code of a range, by which proofs distinguish ranges
abbrev pub range_code : Coded GroupRange
range_code =
    code_by (ℕ × (ℕ × Bool)) (coded× coded_ℕ (coded× coded_ℕ coded_bool))
    (λ r. (r.address, (r.length, r.allows)))
    (λ p. record { address = p.0; length = p.1.0; allows = p.1.1 })
    (λ _. refl)
