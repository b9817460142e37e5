-- Laws of the texts of addresses.
use Rattle.std.specs.Prelude.{◌≡◌, ℕ, ◌^◌, ◌<◌, List}
use Rattle.mq_text.specs.AddressV4.{v4_text}
use Rattle.mq_text.specs.AddressV6.{IsFirstLongest, longest_zeros, v6_text}
use Rattle.mq_text.specs.Reading.{SpellsV4, SpellsV6}

-- the written text of an address is a text of that address
abbrev pub WrittenIsSpelled : Type 0
WrittenIsSpelled =
    ((address : ℕ) → address < 2 ^ 32 → SpellsV4 (v4_text address) address)
    × ((address : ℕ) → address < 2 ^ 128 → SpellsV6 (v6_text address) address)

-- no text is that of two addresses of a family
abbrev pub OneAddress : Type 0
OneAddress =
    ((text : List ℕ) (a b : ℕ) → SpellsV4 text a → SpellsV4 text b → a ≡ b)
    × ((text : List ℕ) (a b : ℕ) → SpellsV6 text a → SpellsV6 text b → a ≡ b)

-- the replaced run is the first of the longest
abbrev pub FirstLongestZeros : Type 0
FirstLongestZeros = (groups : List ℕ) → IsFirstLongest groups (longest_zeros groups)
