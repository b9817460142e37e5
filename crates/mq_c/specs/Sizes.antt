-- The bytes of memory that suffice for a link, and for a workspace.
use Rattle.std.specs.Prelude.{◌≡◌, ◌⊎◌, ℕ, ◌+◌, ◌-◌, ◌≤◌, ◌^◌}
use denote.RattleType.{RattleType}
use denote.Builtin.{u16}
use Rattle.std.specs.contracts.vec.Vec as vec
use Rattle.std_alloc.specs.contracts.vec.lodged.Lodged as lodged
use Rattle.std_alloc.specs.contracts.vec.lodged.LodgedAllocator.TheImpl as lodging
use Rattle.mq_arena.specs.Blocks.{size_of_block}
use Rattle.mq_arena.specs.Vectors.{bytes_for, item_bytes}
use Rattle.mq_link.specs.declared.configuration.Limits.{Limits}
use Rattle.mq_link.specs.Sizes.{bytes_of_link}

-- the bytes of a link with these limits, by the row of an address
abbrev pub bytes_of_link_lent : RattleType → Limits → ℕ
bytes_of_link_lent K limits = bytes_of_link (vec.the_row u16 lodged.the_row lodging.ghosts) K limits

-- these bytes and those of the object, by its row, in whole units of 16
abbrev pub bytes_with_object : RattleType → ℕ → ℕ
bytes_with_object R bytes = size_of_block (bytes + bytes_for (item_bytes R) 1)

-- these bytes in whole units of 16, of memory that may begin anywhere
abbrev pub bytes_lent : ℕ → ℕ
bytes_lent bytes = bytes + 16

-- A size is given in bytes; if no memory has as many, it is the greatest number.
abbrev pub IsTold : (bytes told : ℕ) → Type 0
IsTold bytes told = (told ≡ bytes) ⊎ ((2 ^ 63 ≤ bytes) × (told ≡ 2 ^ 64 - 1))
