use Rattle.mq_table.proofs.SourceLists.{len-timers_in}
use Rattle.mq_table.proofs.group.Group.sources.Goals as goal

pub returns-clause-len : goal.returns-clause-len
returns-clause-len g c =
    rw (← c.self.view_is, c.as_slice.ensures.value, len-timers_in g.K.Key.number c.self.inside.sources.items c.self.invariant)
