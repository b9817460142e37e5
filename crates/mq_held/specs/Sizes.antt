-- The bytes that the groups allocate when they are made.
use Rattle.std.specs.Prelude.{ℕ, ◌+◌}
use Rattle.mq_arena.specs.Vectors.{bytes_for, item_bytes}
use Rattle.mq_sets.specs.Sizes.{bytes_of_keys, bytes_of_rows}
use Rattle.mq_sched.specs.Sizes.{bytes_of_moments}
use Rattle.mq_held.specs.contracts.scheduled_head.ScheduledHead as head

-- The bytes of `groups` groups with `sources` sources together. The first three sizes are those of a page of numbers,
-- an address and a source.
unfoldable pub bytes_of_groups : (page_size address_size source_size groups sources : ℕ) → ℕ
bytes_of_groups page_size address_size source_size groups sources =
    bytes_of_keys page_size address_size groups + bytes_for (item_bytes head.the_row) groups + bytes_of_rows source_size groups sources + bytes_of_moments groups
