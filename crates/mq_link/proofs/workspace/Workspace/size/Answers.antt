use Rattle.mq_link.specs.Sizes.{bytes_of_room}
use Rattle.mq_link.proofs.workspace.Workspace.size.Goals as goal

pub returns : goal.returns
unfolding bytes_of_room
returns g c = c.both_sizes.ensures _ _ c.size.ensures c.size-2.ensures
