-- Vectors of fixed capacity, and the sufficient size of their memory.
use Rattle.std.specs.Prelude.{ℕ, max, ◌≡◌, ◌+◌, ◌*◌, ◌^◌, ◌<◌, ◌≤◌, Bool, true, Option, MatchOption}
use prog.Memory.{size}
use denote.RattleType.{RattleType}
use denote.Memory.{lone}
use Rattle.mq_arena.specs.Blocks.{size_of_block}

-- the bytes of an item of a type, at least 1
abbrev pub item_bytes : RattleType → ℕ
item_bytes R = max 1 (size (lone R.mir))

-- the bytes of the block for `count` items of a size
unfoldable pub bytes_for : ℕ → ℕ → ℕ
bytes_for size count = size_of_block (count * size)

-- A bound on taken memory: blocks of fewer than `old` bytes are granted before, and of fewer than `new` bytes afterwards. At
-- most `bytes` are taken, and `bytes` are granted if they are fewer than `old`.
pub record Takes (bytes old new : ℕ) (is_granted : Bool) : Type 0 where
  pub granted : bytes < old → is_granted ≡ true
  pub taken : is_granted ≡ true → old ≤ new + bytes

-- a size is `bytes`, or none if no memory is that large
abbrev pub IsSize : ℕ → Option ℕ → Type 0
IsSize bytes size = MatchOption size (2 ^ 63 ≤ bytes) (λ n. (n ≡ bytes) × (n < 2 ^ 63))
