-- The texts of IPv6 addresses, and those that std reads.
use Rattle.std.proofs.Common.{◌≡◌, ℕ, ◌==◌, ◌<◌, ◌||◌, Bool, true, false, List, [], ◌∷◌, ◌++◌, codes, inl, inr, refl, sym, subst, ◌∙◌, arith, append_assoc}
use Rattle.std.{proofs.lemmas.Bool.eqb-true, proofs.lemmas.List.Folds.list_any-append, specs.Str.Parse.AllDigits}
use Rattle.std.specs.{Char.digit_value, Net.Grammar.IsDotted, Net.Grammar.IsGroupsAfter, Net.Grammar.IsColonHex, Net.Grammar.IsIpv4Text, Net.Grammar.IsIpv6Text}
use Rattle.std.specs.{Fmt.decimal, Int.w32, Int.to_be_bytes, Int.byte_at, declared.net.ipv4_addr.Ipv4Addr.Ipv4Addr, declared.net.ipv6_addr.Ipv6Addr.Ipv6Addr}
use Rattle.mq_text.specs.Reading.{AreGroupsBehind, HasGroups, SpellsV4, SpellsV6, has_dot}

-- two joined texts have no dot if neither has one
pub both_dotless : (xs ys : List ℕ) → has_dot xs ≡ false → has_dot ys ≡ false → has_dot (xs ++ ys) ≡ false
both_dotless xs ys front back = rw (list_any-append (λ c. c == 46) xs ys, front, back) refl

neither : (a b : Bool) → (a || b) ≡ false → (a ≡ false) × (b ≡ false)
neither true b h = absurd (cc h)
neither false b h = (refl, h)

-- and neither part has one where the whole has none
pub parts_dotless : (xs ys : List ℕ) → has_dot (xs ++ ys) ≡ false → (has_dot xs ≡ false) × (has_dot ys ≡ false)
parts_dotless xs ys all = neither (has_dot xs) (has_dot ys) (sym (list_any-append (λ c. c == 46) xs ys) ∙ all)

-- digits are no dots
digit_dotless : (digit : ℕ) (is_dot : Bool) → (digit == 46) ≡ is_dot → digit_value digit < 16 → (digit == 46) ≡ false
digit_dotless digit true is value =
    let dot : digit ≡ 46 = eqb-true digit 46 is in
    let low : digit_value 46 < 16 = subst (λ (c : ℕ). digit_value c < 16) dot value in
    absurd (omega (arith, low))
digit_dotless digit false is value = is

digits_dotless : (digits : List ℕ) → AllDigits 16 digits → has_dot digits ≡ false
digits_dotless [] all = refl
digits_dotless (digit ∷ digits) all = rw (digit_dotless digit (digit == 46) refl all.0, digits_dotless digits all.1) refl

-- decimal numbers with dots between them have some
dotted_has_dot : (text octets : List ℕ) → IsDotted text octets → has_dot text ≡ false → ⊥
dotted_has_dot text octets dotted none =
    let front = decimal dotted.a ++ codes "." ++ decimal dotted.b ++ codes "." ++ decimal dotted.c in
    let all : has_dot ((front ++ codes ".") ++ decimal dotted.d) ≡ false = rw (← dotted.spelled) none in
    let dot = (parts_dotless front (codes ".") (parts_dotless (front ++ codes ".") (decimal dotted.d) all).0).1 in
    absurd (cc dot)

-- the same groups, read with dotted numbers or without
pub as_std : (ipv4 : Bool) (lead text groups : List ℕ) → AreGroupsBehind lead text groups → IsGroupsAfter ipv4 lead text groups
as_std ipv4 lead text [] are = are
as_std ipv4 lead text (group ∷ groups) (digits, rest, parts, is_group, others) = inl (digits, rest, parts, is_group, as_std ipv4 (codes ":") rest groups others)

pub from_std : (lead text groups : List ℕ) → has_dot text ≡ false → IsGroupsAfter true lead text groups → AreGroupsBehind lead text groups
from_std lead text [] dotless are = are
from_std lead text (group ∷ groups) dotless (inl (digits, rest, parts, is_group, others)) =
    let behind = (parts_dotless (lead ++ digits) rest (rw (← parts) dotless)).1 in
    (digits, rest, parts, is_group, from_std (codes ":") rest groups behind others)
from_std lead text (group ∷ groups) dotless (inr (last, octets, allowed, parts, dotted, same)) =
    absurd (dotted_has_dot last octets dotted (parts_dotless lead last (rw (← parts) dotless)).1)

from_plain : (lead text groups : List ℕ) → IsGroupsAfter false lead text groups → AreGroupsBehind lead text groups
from_plain lead text [] are = are
from_plain lead text (group ∷ groups) (inl (digits, rest, parts, is_group, others)) = (digits, rest, parts, is_group, from_plain (codes ":") rest groups others)
from_plain lead text (group ∷ groups) (inr (last, octets, allowed, parts, dotted, same)) = absurd (cc allowed)

pub dotless_groups : (lead text groups : List ℕ) → has_dot lead ≡ false → AreGroupsBehind lead text groups → has_dot text ≡ false
dotless_groups lead text [] before are = rw are refl
dotless_groups lead text (group ∷ groups) before (digits, rest, parts, is_group, others) =
    rw parts (both_dotless (lead ++ digits) rest (both_dotless lead digits before (digits_dotless digits is_group.0.0.1))
    (dotless_groups (codes ":") rest groups refl others))

pub dotless : (text groups : List ℕ) → HasGroups text groups → has_dot text ≡ false
unfolding HasGroups
dotless text groups (inl (are, eight)) = dotless_groups [] text groups refl are
dotless text groups (inr short) =
    let front = both_dotless short.front_text (codes "::") (dotless_groups [] short.front_text short.front refl short.front_groups) refl in
    rw short.parts (both_dotless (short.front_text ++ codes "::") short.back_text front (dotless_groups [] short.back_text short.back refl short.back_groups))

pub spelled_as_std : (text groups : List ℕ) → HasGroups text groups → IsColonHex text groups
unfolding HasGroups
spelled_as_std text groups (inl (are, eight)) = inl (as_std true [] text groups are, eight)
spelled_as_std text groups (inr short) =
    inr (record {
      head_text = short.front_text;
      tail_text = short.back_text;
      head = short.front;
      tail = short.back;
      spelled = short.parts;
      head_groups = as_std false [] short.front_text short.front short.front_groups;
      tail_groups = as_std true [] short.back_text short.back short.back_groups;
      room = short.some_missing;
      value = short.value;
    })

pub spelled_from_std : (text groups : List ℕ) → has_dot text ≡ false → IsColonHex text groups → HasGroups text groups
unfolding HasGroups
spelled_from_std text groups no_dot (inl (are, eight)) = inl (from_std [] text groups no_dot are, eight)
spelled_from_std text groups no_dot (inr short) =
    let parts = parts_dotless (short.head_text ++ codes "::") short.tail_text (rw (← short.spelled) no_dot) in
    inr (record {
      front_text = short.head_text;
      back_text = short.tail_text;
      front = short.head;
      back = short.tail;
      parts = short.spelled;
      front_groups = from_plain [] short.head_text short.head short.head_groups;
      back_groups = from_std [] short.tail_text short.tail parts.1 short.tail_groups;
      some_missing = short.room;
      value = short.value;
    })

-- no text with a dot is that of an IPv6 address
pub none_with_dot : (text : List ℕ) → has_dot text ≡ true → (address : ℕ) → SpellsV6 text address → ⊥
none_with_dot text dot address (groups, has, is) = let none = dotless text groups has in absurd (cc (dot, none))

-- a text that std reads as no address has none
pub none_v6 : (text : List ℕ) → ((a : Ipv6Addr) → ¬ (IsIpv6Text text a)) → (address : ℕ) → SpellsV6 text address → ⊥
none_v6 text none address (groups, has, is) = none (record { segments = groups }) (spelled_as_std text groups has)

pub v4_as_std : (text : List ℕ) (address : ℕ) → SpellsV4 text address → IsIpv4Text text (record { octets = to_be_bytes w32 address })
v4_as_std text address (small, is) =
    record {
      a = byte_at 3 address;
      b = byte_at 2 address;
      c = byte_at 1 address;
      d = byte_at 0 address;
      fit = (omega arith, omega arith, omega arith, omega arith);
      value = refl;
      spelled = is ∙ simp append_assoc;
    }

pub none_v4 : (text : List ℕ) → ((a : Ipv4Addr) → ¬ (IsIpv4Text text a)) → (address : ℕ) → SpellsV4 text address → ⊥
none_v4 text none address spells = none (record { octets = to_be_bytes w32 address }) (v4_as_std text address spells)
