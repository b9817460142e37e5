-- Slots of pending entries, and the links between the entries of a slot.
use Rattle.std.specs.Prelude.{◌≡◌, ◌⊎◌, ℕ, ◌+◌, ◌-◌, ◌^◌, ◌<◌, ◌≤◌, List, length, slice_index}

-- The slot and the link of each pending entry, two starts of each slot, and the number of the first entry. No entry of a
-- slot before its start can find a partner, and none before its near start is near.
pub record TrailsValue : Type 0 where
  pub slots : List ℕ
  pub nexts : List ℕ
  pub starts : List ℕ
  pub nears : List ℕ
  pub base : ℕ

-- A search from the start of the slot reaches the entry at this place. No link leads beyond it.
pub record Reaches (t : TrailsValue) (place : ℕ) : Type 0 where
  pub starts : slice_index t.starts (slice_index t.slots place) ≤ t.base + place
  pub links : (i : ℕ) → i < place → slice_index t.slots i ≡ slice_index t.slots place → slice_index t.nexts i ≤ t.base + place

-- the entry at this place isn't before the near start of its slot
pub record IsNear (t : TrailsValue) (place : ℕ) : Type 0 where
  pub starts : slice_index t.nears (slice_index t.slots place) ≤ t.base + place

-- numbers of 64 bits
pub record AreNumbers (numbers : List ℕ) : Type 0 where
  pub fit : (i : ℕ) → slice_index numbers i ≤ 2 ^ 64 - 1

-- Each slot is in range. An entry whose link is beyond all entries is the last of its slot.
pub record AreLinked (slots nexts lasts : List ℕ) (base : ℕ) : Type 0 where
  pub known : (i : ℕ) → slice_index slots i < 65522
  pub closed : (i : ℕ) → i < length slots → (slice_index nexts i ≤ base + length slots) ⊎ (slice_index lasts (slice_index slots i) ≡ base + i)

-- the link of the last entry of a slot is at most this number
pub record IsClosed (nexts more : List ℕ) (last number : ℕ) : Type 0 where
  pub long : length more ≡ length nexts
  pub lower : (i : ℕ) → slice_index more i ≤ slice_index nexts i
  pub here : last < length nexts → slice_index more last ≤ number
