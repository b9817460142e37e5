-- The bytes that moments allocate when they are made.
use Rattle.std.specs.Prelude.{ℕ, ◌+◌, ◌*◌}
use Rattle.mq_arena.specs.Vectors.{bytes_for}

-- the bytes of a tree with room for this many deadlines
unfoldable pub bytes_of_tree : (room : ℕ) → ℕ
bytes_of_tree room = bytes_for 8 (2 * room) + bytes_for 1 room

-- the bytes of the moments of this many numbers
unfoldable pub bytes_of_moments : (room : ℕ) → ℕ
bytes_of_moments room = bytes_of_tree room + bytes_for 4 room + bytes_for 2 (2 * room)
