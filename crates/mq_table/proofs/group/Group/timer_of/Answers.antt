use Rattle.mq_table.proofs.SourceLists.{len-timers_in}
use Rattle.mq_table.proofs.group.Group.timer_of.Goals as goal

pub returns-clause-spent : goal.returns-clause-spent
returns-clause-spent g c =
    rw (← c.self.view_is, len-timers_in g.K.Key.number c.self.inside.sources.items c.self.invariant, ← c.as_slice.ensures.value)
    c.timer_among.ensures.spent
