-- The bytes of memory that suffice for the work of a call, beside the room for its text.
use Rattle.std.specs.Prelude.{ℕ, ◌+◌}
use denote.RattleType.{RattleType}
use denote.Builtin.{u16}
use Rattle.std.specs.contracts.vec.Vec as vec
use Rattle.std_alloc.specs.contracts.vec.lodged.Lodged as lodged
use Rattle.std_alloc.specs.contracts.vec.lodged.LodgedAllocator.TheImpl as lodging
use Rattle.mq_arena.specs.Vectors.{bytes_for}
use Rattle.mq_check.specs.Sizes.{bytes_of_checking}
use Rattle.mq_convert.specs.declared.choice.Choice.{Choice}
use Rattle.mq_convert.specs.Sizes.{bytes_of_gone, most_seen}
use Rattle.mq_link.specs.declared.configuration.Limits.{Limits}
use Rattle.mq_link.specs.Sizes.{bytes_of_link, bytes_of_workspace}
use Rattle.mq_pcap.specs.Capture.{most_bytes}

-- those of a packet
abbrev pub bytes_to_show : ℕ
bytes_to_show = bytes_for 1 most_bytes

-- those of a block, and of the packets that may come again
abbrev pub bytes_to_convert : Choice → ℕ
bytes_to_convert choice = bytes_for 1 most_seen + bytes_of_gone choice.once

-- those of a packet and of a link with its workspace, by the type of an address
abbrev pub bytes_to_replay : RattleType → Limits → ℕ
bytes_to_replay address limits =
    bytes_to_show + (bytes_of_workspace address limits + bytes_of_link (vec.the_row u16 lodged.the_row lodging.ghosts) address limits)

-- those of a replay and of the queries that are checked
abbrev pub bytes_to_check : RattleType → Limits → ℕ
bytes_to_check address limits = bytes_to_replay address limits + bytes_of_checking address
