use Rattle.mq_table.proofs.Common.{◌==◌, ◌∙◌, ap}
use Rattle.mq_table.proofs.SourceLists.{len-timers_in}
use Rattle.mq_table.proofs.group.Group.is_vacant.Goals as goal

pub returns-in-Include : goal.returns-in-Include
returns-in-Include g c =
    rw (← c.self.view_is, c.in-Include.is, len-timers_in g.K.Key.number c.self.inside.sources.items c.self.invariant)
    (c.is_empty.ensures ∙ ap (λ n. n == 0) c.self.inside.sources.ok.0)
