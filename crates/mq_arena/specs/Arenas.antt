-- The memory of an arena.
use Rattle.std.specs.Prelude.{ℕ}
use Rattle.mq_arena.specs.declared.arenas.Arena.{Arena}

-- the bytes that an arena was made with
abbrev pub memory_of : Arena → ℕ
memory_of arena = arena.slot
