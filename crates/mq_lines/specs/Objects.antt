-- Parts of objects of JSON (RFC 8259). Every string has letters, digits, spaces, dots, colons and underscores alone, so
-- none needs an escape.
use Rattle.std.specs.Prelude.{◌≡◌, ◌<◌, ◌≤◌, ℕ, Bool, true, false, List, [], ◌∷◌, ◌++◌, codes}
use Rattle.mq_wire.specs.Family.{Family, Igmp, Mld}
use Rattle.mq_lines.specs.Text.{address_text}

-- A byte that stands for itself in a string: no control character, no quotation mark and no reverse solidus (RFC 8259
-- section 7).
abbrev pub IsPlain : ℕ → Type 0
IsPlain c = (32 ≤ c) × (c < 127) × (c ≡ 34 → ⊥) × (c ≡ 92 → ⊥)

-- the protocol of a family
abbrev pub protocol_text : Family → List ℕ
protocol_text Igmp = codes "igmp"
protocol_text Mld = codes "mld"

-- a comma before each item of a list but the first
abbrev pub comma_before : (is_first : Bool) → List ℕ
comma_before true = []
comma_before false = codes ","

-- the items of a list, one after the other; `item` is the text of one with the comma before it
abbrev pub items_from : {A : Type 0} → (item : (is_first : Bool) → A → List ℕ) → (is_first : Bool) → List A → List ℕ
items_from item is_first [] = []
items_from item is_first (x ∷ xs) = item is_first x ++ items_from item false xs

abbrev pub truth_object : Bool → List ℕ
truth_object true = codes "true"
truth_object false = codes "false"

abbrev pub address_object : Family → ℕ → List ℕ
address_object family address = codes "\"" ++ address_text family address ++ codes "\""
