-- The bytes that storage allocates when it is made, by the sizes of its items.
use Rattle.std.specs.Prelude.{ℕ, ◌+◌, ◌*◌, ◌/◌}
use Rattle.mq_arena.specs.Vectors.{bytes_for}
use Rattle.mq_sets.specs.Pools.{cells_reserved}

-- the bytes of pages of numbers, whose vectors have this size
unfoldable pub bytes_of_pages : (page_size limit : ℕ) → ℕ
bytes_of_pages page_size limit = 2 * bytes_for page_size limit + limit * bytes_for 2 511

-- the bytes of keys of a size by number, and of their pages
unfoldable pub bytes_of_keys : (page_size key_size room : ℕ) → ℕ
bytes_of_keys page_size key_size room = bytes_of_pages page_size (room / 128 + 1) + bytes_for key_size room + bytes_for 2 room

-- the bytes of rows of cells of a size
unfoldable pub bytes_of_rows : (cell_size rows cells : ℕ) → ℕ
bytes_of_rows cell_size rows cells = bytes_for 12 rows + 2 * bytes_for cell_size (cells_reserved rows cells)
