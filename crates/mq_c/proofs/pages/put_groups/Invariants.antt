use Rattle.mq_c.proofs.Common.{group_form, source_form}
use Rattle.mq_c.proofs.ShownGroups.{SoFar}
use Rattle.mq_c.proofs.pages.put_groups.Given as goal

-- the groups so far are shown
abbrev pub invariant-loop-count : goal.invariant-loop-count
invariant-loop-count g l =
    SoFar (group_form g.F.CFamily.group_with) (source_form g.F.CFamily.source_with) l.link.state.groups l.first l.fn.groups l.groups l.fn.sources
    l.sources l.count l.used
