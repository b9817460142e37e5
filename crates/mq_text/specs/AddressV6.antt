-- IPv6 addresses as text.
use Rattle.std.specs.Prelude.{◌≡◌, ℕ, ◌+◌, ◌*◌, ◌<◌, ◌≤◌, nat_le, nat_lt, ◌==◌, false, List, [], ◌∷◌, ◌++◌, take, drop, map, if◌then◌else◌, codes}
use Rattle.std.specs.Fmt.{digit_glyph}
use Rattle.std.specs.Int.Digits.{digits_of}
use Rattle.std.specs.Int.{w128, to_be_bytes}
use Rattle.mq_text.specs.declared.address_v6.ZeroGroups.{ZeroGroups}

-- octets as groups of 16 bits, two octets each
abbrev pub groups_in : List ℕ → List ℕ
groups_in [] = []
groups_in (octet ∷ []) = octet ∷ []
groups_in (high ∷ low ∷ octets) = (high * 256 + low) ∷ groups_in octets

-- the eight groups of an address
abbrev pub groups_of : ℕ → List ℕ
groups_of address = groups_in (to_be_bytes w128 address)

-- a number in lower-case hexadecimal, without leading zeros
abbrev pub hexadecimal : ℕ → List ℕ
hexadecimal number = if number == 0 then codes "0" else map (digit_glyph false) (digits_of 16 number)

-- groups in hexadecimal, with colons between them
abbrev pub with_colons : List ℕ → List ℕ
with_colons [] = []
with_colons (group ∷ []) = hexadecimal group
with_colons (group ∷ next ∷ groups) = hexadecimal group ++ codes ":" ++ with_colons (next ∷ groups)

-- the number of zero groups at the front
abbrev pub zeros_ahead : List ℕ → ℕ
zeros_ahead [] = 0
zeros_ahead (group ∷ groups) = if group == 0 then zeros_ahead groups + 1 else 0

-- the longest run of zero groups, the first if several are equally long
abbrev pub longest_zeros : List ℕ → ZeroGroups
longest_zeros [] = record { place = 0; count = 0 }
longest_zeros (group ∷ groups) =
    let later = longest_zeros groups in
    if nat_lt (zeros_ahead (group ∷ groups)) later.count
    then record { place = later.place + 1; count = later.count }
    else record { place = 0; count = zeros_ahead (group ∷ groups) }

-- The run is the longest of zero groups, the first if several are equally long. No place has more consecutive zero
-- groups, and no earlier place has as many.
pub record IsFirstLongest (groups : List ℕ) (run : ZeroGroups) : Type 0 where
  pub zeros : zeros_ahead (drop run.place groups) ≡ run.count
  pub longest : (place : ℕ) → zeros_ahead (drop place groups) ≤ run.count
  pub first : (place : ℕ) → place < run.place → zeros_ahead (drop place groups) < run.count

-- groups with `::` in place of the run, if it has at least two
unfoldable pub shortened : List ℕ → ZeroGroups → List ℕ
shortened groups run =
    if nat_le 2 run.count
    then with_colons (take run.place groups) ++ codes "::" ++ with_colons (drop (run.place + run.count) groups)
    else with_colons groups

-- an IPv6 address, as ff0e::1234
abbrev pub v6_text : ℕ → List ℕ
v6_text address = shortened (groups_of address) (longest_zeros (groups_of address))
