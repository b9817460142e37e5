-- Slots by which pending entries are searched. The slot of an entry is a number computed from its subject, so a search
-- looks at few other entries. The result doesn't depend on slots.
use Rattle.std.specs.Prelude.{◌≡◌, ℕ, ◌+◌, ◌*◌, ◌%◌, ◌<◌, ◌≤◌, List, [], ◌∷◌, length, slice_index, slice_index_or, Bool, true, false, Option, None, Some}
use Rattle.byteorder.specs.Endian.{big_bytes}
use Rattle.mq_check.specs.declared.asked.Asked.{Asked}
use Rattle.mq_check.specs.declared.asked.Asked.TheVariants.{AllGroups, Group, Source}
use Rattle.mq_check.specs.declared.entry.Entry.{Entry}
use Rattle.mq_check.specs.declared.entry.Entry.TheVariants.{Wanted, Seen, Interval, Silence, Packet}
use Rattle.mq_check.specs.declared.terms.Terms.{Terms}
use Rattle.mq_check.specs.declared.waiting.Side.{Side}
use Rattle.mq_check.specs.declared.waiting.Side.TheVariants.{OfWanted, OfSeen}
use Rattle.mq_check.specs.Entries.{is_s_open}
use Rattle.mq_check.specs.Trails.{TrailsValue, IsNear, Reaches}
use Rattle.mq_check.specs.Waiting.{is_free, is_open}

-- a number into which bytes are mixed, in order
abbrev pub mixed : (n : ℕ) → (bytes : List ℕ) → ℕ
mixed n [] = n
mixed n (byte ∷ bytes) = mixed ((n * 257 + byte) % 65521) bytes

abbrev pub number_of_side : Side → ℕ
number_of_side OfWanted = 1
number_of_side OfSeen = 2

-- the number of a subject, with addresses of `width` bytes
abbrev pub mixed_asked : (width n : ℕ) → Asked ℕ → ℕ
mixed_asked width n AllGroups = n
mixed_asked width n (Group group) = mixed n (big_bytes width group)
mixed_asked width n (Source group source) = mixed (mixed n (big_bytes width group)) (big_bytes width source)

unfoldable pub slot_of : (width : ℕ) → Side → Asked ℕ → ℕ
slot_of width side asked = mixed_asked width (number_of_side side) asked

-- the slot of an entry; entries that can't find a partner have a slot that no search uses
abbrev pub unused : ℕ
unused = 65521

abbrev pub slot_of_wanted : (width : ℕ) → Asked ℕ → (is_found : Bool) → ℕ
slot_of_wanted width asked true = unused
slot_of_wanted width asked false = slot_of width OfWanted asked

abbrev pub slot_of_seen : (width : ℕ) → Asked ℕ → (partner : Option (Terms ℕ)) → ℕ
slot_of_seen width asked (Some partner) = unused
slot_of_seen width asked None = slot_of width OfSeen asked

abbrev pub slot_in : (width : ℕ) → Entry ℕ → ℕ
slot_in width (Wanted moment asked terms need is_found) = slot_of_wanted width asked is_found
slot_in width (Seen moment asked terms partner verdict) = slot_of_seen width asked partner
slot_in width (Interval moment packet after wanted) = unused
slot_in width (Silence moment after wanted) = unused
slot_in width (Packet moment number fault) = unused

-- the entry at a place; after the last one, an entry that can't find a partner
abbrev pub entry_at : List (Entry ℕ) → (place : ℕ) → Entry ℕ
entry_at entries place = slice_index_or entries place (Interval 0 0 0 0)

-- Each entry without a partner is in its slot, and a search of the slot reaches it. If it isn't before the moment
-- `horizon`, a search from the near start reaches it.
pub record AreMarked (width horizon : ℕ) (entries : List (Entry ℕ)) (t : TrailsValue) : Type 0 where
  pub long : length t.slots ≡ length entries
  pub slot : (place : ℕ) (side : Side) (asked : Asked ℕ) → place < length entries → is_open side asked (entry_at entries place) ≡ true → slice_index t.slots place ≡ slot_of width side asked
  pub reached : (place : ℕ) (side : Side) (asked : Asked ℕ) → place < length entries → is_open side asked (entry_at entries place) ≡ true → Reaches t place
  pub near : (place : ℕ) (side : Side) (asked : Asked ℕ) → place < length entries → is_free side asked horizon (entry_at entries place) ≡ true → IsNear t place

-- no entry of this slot before a place is free from a moment on
pub record AreNoneOf (width slot from : ℕ) (entries : List (Entry ℕ)) (place : ℕ) : Type 0 where
  pub none : (side : Side) (asked : Asked ℕ) (k : ℕ) → slot ≡ slot_of width side asked → k < place → k < length entries → is_free side asked from (entry_at entries k) ≡ false

-- the slot and the moment of a wanted query
abbrev pub wanted_slot : (width : ℕ) → Entry ℕ → ℕ
wanted_slot width (Wanted moment asked terms need is_found) = slot_of width OfWanted asked
wanted_slot width (Seen moment asked terms partner verdict) = unused
wanted_slot width (Interval moment packet after wanted) = unused
wanted_slot width (Silence moment after wanted) = unused
wanted_slot width (Packet moment number fault) = unused

abbrev pub wanted_moment : Entry ℕ → ℕ
wanted_moment (Wanted moment asked terms need is_found) = moment
wanted_moment (Seen moment asked terms partner verdict) = 0
wanted_moment (Interval moment packet after wanted) = 0
wanted_moment (Silence moment after wanted) = 0
wanted_moment (Packet moment number fault) = 0

-- S of each seen query before a place is judged.
pub record IsJudgedTo (place : ℕ) (entries : List (Entry ℕ)) : Type 0 where
  pub within : place ≤ length entries
  pub none : (k : ℕ) → k < place → is_s_open (entry_at entries k) ≡ false

-- no query of a slot is wanted later than the moment that is kept for the slot
pub record AreBounded (width : ℕ) (entries : List (Entry ℕ)) (latest : List ℕ) : Type 0 where
  pub by : (place : ℕ) → place < length entries → wanted_moment (entry_at entries place) ≤ slice_index latest (wanted_slot width (entry_at entries place))
