use Rattle.std.proofs.Common.{arith}
use Rattle.mq_held.proofs.Inside.{sources-held, source_room_is}
use Rattle.mq_held.proofs.held_groups.HeldGroups.free_sources.Goals as goal

pub returns : goal.returns
returns g c =
    omega (
      arith,
      c.room.ensures,
      c.self.invariant.1,
      sources-held g.K.Key.number c.self.invariant.0 c.self.view_is,
      source_room_is g.K.Key.number c.self.invariant.0 c.self.view_is,
    )
