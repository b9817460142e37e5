use Rattle.mq_link.proofs.StatusSteps.{status_at_start}
use Rattle.mq_link.proofs.status.Status.new.Goals as goal

pub invariant_of-result : goal.invariant_of-result
invariant_of-result g c =
    let made = c.new-election.ensures in
    let sure = c.is_faultless.ensures in
    status_at_start g.F.Family.FAMILY c.args.config _ c.args.start sure.faultless sure.within sure.family c.requires.in_range
    (rw c.own.ensures at made.own) (rw c.timing.ensures at made.configured) (rw c.timing.ensures at made.state)
