-- The options of an IPv4 header, with the Router Alert of IGMP messages (RFC 3376 section 4).
use Rattle.std.specs.Prelude.{ℕ, zero, suc, ◌+◌, ◌-◌, ◌==◌, ◌||◌, nat_lt, Bool, if◌then◌else◌, List, [], ◌∷◌, length, drop, slice_index}
use Rattle.std.specs.List.{list_any}

-- The types of the options in an IPv4 header, up to the first that does not fit, and at most `most`. Type 0 ends them, and
-- type 1 is a single byte. After every other type stands the number of the option's bytes, with these two.
abbrev pub types_within : (most : ℕ) → List ℕ → List ℕ
types_within zero bytes = []
types_within (suc most) [] = []
types_within (suc most) (kind ∷ bytes) =
    let end = slice_index bytes 0 in
    if kind == 0
    then []
    else (
    if kind == 1
    then 1 ∷ types_within most bytes
    else (
    if nat_lt end 2 || nat_lt (length bytes + 1) end
    then []
    else kind ∷ types_within most (drop (end - 1) bytes)))

-- all of them: there are no more options than bytes
abbrev pub types_of : List ℕ → List ℕ
types_of bytes = types_within (length bytes) bytes

-- type 148 (RFC 2113)
abbrev pub has_router_alert_v4 : List ℕ → Bool
has_router_alert_v4 bytes = list_any (λ kind. kind == 148) (types_of bytes)
