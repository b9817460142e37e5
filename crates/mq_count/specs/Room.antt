-- The size of the values of a type.
use Rattle.std.specs.Prelude.{◌≤◌}
use Rattle.std.specs.Mem.{type_size}
use Rattle.std.specs.Align.{type_align}
use denote.RattleType.{RattleType}

-- at most 16 bytes each
abbrev pub IsSmall : RattleType → Type 0
IsSmall R = (type_size R ≤ 16) × (type_align R ≤ 16)
