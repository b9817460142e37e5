use Rattle.std.proofs.Common.{◌≡◌, sym}
use Rattle.std.specs.FinMap as map
use Rattle.mq_link.proofs.statement.acted_as.Goals as goal

pub returns-in-Record-clause-acts : goal.returns-in-Record-clause-acts
returns-in-Record-clause-acts c named = rw c.in-Record.is (c.record_as.ensures.acts named)

pub returns-in-Record-clause-restarts : goal.returns-in-Record-clause-restarts
returns-in-Record-clause-restarts c kind is restarts_it =
    let same : c.in-Record.kind ≡ kind = cc in
    rw (sym same) (c.record_as.ensures.restarts (rw same restarts_it))

pub returns-in-Record-clause-spent : goal.returns-in-Record-clause-spent
returns-in-Record-clause-spent c = rw c.in-Record.is c.record_as.ensures.spent

pub returns-in-OlderLeave-clause-acts : goal.returns-in-OlderLeave-clause-acts
returns-in-OlderLeave-clause-acts c named = rw (c.in-OlderLeave.is, ← c.compat.ensures.hosts map.empty) (c.leave_as.ensures named)
