-- The bytes that a link and a workspace allocate when they are made.
use Rattle.std.specs.Prelude.{ℕ, ◌+◌, ◌*◌}
use denote.RattleType.{RattleType}
use Rattle.mq_arena.specs.Vectors.{bytes_for, item_bytes}
use Rattle.mq_table.specs.contracts.sources.Source as source
use Rattle.mq_held.specs.Sizes.{bytes_of_groups}
use Rattle.mq_link.specs.declared.configuration.Limits.{Limits}

-- the bytes of marks for this many groups
unfoldable pub bytes_of_marks : (groups : ℕ) → ℕ
bytes_of_marks groups = bytes_for 1 groups + bytes_for 2 groups

-- The bytes of scratch memory for groups of at most `sources` sources. It has a group, a record that names no more, and
-- the sources that both may ask for. It also has the groups that records meet and change.
unfoldable pub bytes_of_scratch : (address_size source_size groups sources : ℕ) → ℕ
bytes_of_scratch address_size source_size groups sources =
    bytes_for source_size (2 * sources) + bytes_for address_size sources + bytes_for address_size (2 * sources) + bytes_of_marks groups + bytes_of_marks groups

-- the bytes of lists of this many groups
unfoldable pub bytes_of_lists : (address_size groups : ℕ) → ℕ
bytes_of_lists address_size groups =
    bytes_for 2 groups + bytes_for 2 groups + bytes_for address_size (2 * groups) + bytes_for address_size (2 * groups) + bytes_for address_size groups

-- the bytes of a workspace for links of these limits, by the sizes of an address and a source
unfoldable pub bytes_of_room : (address_size source_size : ℕ) → Limits → ℕ
bytes_of_room address_size source_size limits =
    bytes_of_scratch address_size source_size limits.groups limits.group_sources + bytes_of_lists address_size limits.groups

-- the bytes of a workspace for links of these limits, by the type of an address
abbrev pub bytes_of_workspace : RattleType → Limits → ℕ
bytes_of_workspace K limits = bytes_of_room (item_bytes K) (item_bytes (source.the_row K)) limits

-- the bytes of a link of these limits without its workspace, by the types of a page of numbers and of an address
abbrev pub bytes_of_link : RattleType → RattleType → Limits → ℕ
bytes_of_link P K limits = bytes_of_groups (item_bytes P) (item_bytes K) (item_bytes (source.the_row K)) limits.groups limits.sources
