-- Texts and the addresses that they parse to.
use Rattle.std.specs.Prelude.{◌≡◌, ◌⊎◌, ℕ, ◌==◌, Bool, ◌+◌, ◌-◌, ◌^◌, ◌<◌, List, [], ◌∷◌, ◌++◌, length, replicate, codes, Option, None, Some}
use Rattle.std.specs.Int.{w128, from_be_bytes}
use Rattle.std.specs.List.{list_any}
use Rattle.std.specs.Net.Addr.{octets_of}
use Rattle.std.specs.Net.Grammar.{IsGroup}
use Rattle.mq_text.specs.AddressV4.{v4_text}

-- a text is that of an IPv4 address if it is the written one
abbrev pub SpellsV4 : List ℕ → ℕ → Type 0
SpellsV4 text address = (address < 2 ^ 32) × (text ≡ v4_text address)

-- Groups of one to four hexadecimal digits of either case: the first after `lead`, each other one after a colon.
abbrev pub AreGroupsBehind : List ℕ → List ℕ → List ℕ → Type 0
AreGroupsBehind lead text [] = text ≡ []
AreGroupsBehind lead text (group ∷ groups) =
    (digits rest : List ℕ) × (text ≡ lead ++ digits ++ rest) × IsGroup digits group × AreGroupsBehind (codes ":") rest groups

-- groups with colons between them
abbrev pub AreGroups : List ℕ → List ℕ → Type 0
AreGroups text groups = AreGroupsBehind [] text groups

-- groups on both sides of `::`, at most seven in all; `::` replaces the missing zeros
pub record AreShortened (text groups : List ℕ) : Type 0 where
  pub front_text : List ℕ
  pub back_text : List ℕ
  pub front : List ℕ
  pub back : List ℕ
  pub parts : text ≡ front_text ++ codes "::" ++ back_text
  pub front_groups : AreGroups front_text front
  pub back_groups : AreGroups back_text back
  pub some_missing : length front + length back < 8
  pub value : groups ≡ front ++ replicate (8 - length front - length back) 0 ++ back

-- a text has a dot
abbrev pub has_dot : List ℕ → Bool
has_dot text = list_any (λ c. c == 46) text

-- the number of groups, most significant first: two octets for each
unfoldable pub number_of : List ℕ → ℕ
number_of groups = from_be_bytes w128 (octets_of groups)

-- a text has these groups: all eight, or fewer and `::`
unfoldable pub HasGroups : (text groups : List ℕ) → Type 0
HasGroups text groups = (AreGroups text groups × (length groups ≡ 8)) ⊎ AreShortened text groups

-- a text is that of the IPv6 address whose groups it has
abbrev pub SpellsV6 : List ℕ → ℕ → Type 0
SpellsV6 text address = (groups : List ℕ) × HasGroups text groups × (address ≡ number_of groups)

-- the address of a text, or none if no address has it
abbrev pub ReadsAs : (List ℕ → ℕ → Type 0) → List ℕ → Option ℕ → Type 0
ReadsAs Spells text (Some address) = Spells text address
ReadsAs Spells text None = (address : ℕ) → Spells text address → ⊥
